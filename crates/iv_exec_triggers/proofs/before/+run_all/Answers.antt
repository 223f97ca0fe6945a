use Rattle.std.proofs.Common.{arith}
use Rattle.iv_account.specs.Accounts.{before_each_told}
use Rattle.iv_machine.specs.BeforeTriggers.{change_after_trigger, is_before_row_on}
use Rattle.iv_machine.specs.Context.{each}
use Rattle.iv_exec_triggers.proofs.InTurn.{fewer, first_body, none_run, none_told, other_bodies, first_refused, first_refused_told, others_alone, others_alone_told, others_left, others_told}
use Rattle.iv_exec_triggers.proofs.before.+run_all.Goals as goal

pub returns-in_err-run_at_each-in-len1-up-clause-answer : goal.returns-in_err-run_at_each-in-len1-up-clause-answer
returns-in_err-run_at_each-in-len1-up-clause-answer g t c =
    let rows = g.R.Rows.rows c.args.rows.now in
    first_refused (is_before_row_on c.args.columns.now) (λ x. each (change_after_trigger c.args.context.now rows x)) (before_each_told c.args.context.now rows)
    c.args.triggers.now c.trigger-item.result c.args.changes.now c.from_residual.result c.in-len1-up.len_at_least c.trigger-item.is
    _ c.in_err-run_at_each-in-len1-up.field-0.0 c.if-is_before_row_on.ensures c.from_residual.ensures.1 c.in_err-run_at_each-in-len1-up.ensures.answer

pub returns-in_err-run_at_each-in-len1-up-clause-told : goal.returns-in_err-run_at_each-in-len1-up-clause-told
returns-in_err-run_at_each-in-len1-up-clause-told g t c =
    let rows = g.R.Rows.rows c.args.rows.now in
    first_refused_told (is_before_row_on c.args.columns.now) (λ x. each (change_after_trigger c.args.context.now rows x)) (before_each_told c.args.context.now rows)
    c.args.triggers.now c.trigger-item.result c.args.changes.now c.from_residual.result c.in-len1-up.len_at_least c.trigger-item.is
    c.args.account.now c.run_at_each.new.account c.in_err-run_at_each-in-len1-up.field-0.0
    c.if-is_before_row_on.ensures c.from_residual.ensures.1 c.in_err-run_at_each-in-len1-up.ensures.answer c.in_err-run_at_each-in-len1-up.ensures.told

pub returns-in_ok-run_at_each-in-len1-up-clause-answer : goal.returns-in_ok-run_at_each-in-len1-up-clause-answer
returns-in_ok-run_at_each-in-len1-up-clause-answer g t c =
    let rows = g.R.Rows.rows c.args.rows.now in
    others_left (is_before_row_on c.args.columns.now) (λ x. each (change_after_trigger c.args.context.now rows x)) (before_each_told c.args.context.now rows)
    c.args.triggers.now c.trigger-item.result c.args.changes.now c.run_all.result c.in-len1-up.len_at_least c.trigger-item.is
    _ c.run_at_each.new.changes c.if-is_before_row_on.ensures c.in_ok-run_at_each-in-len1-up.ensures.answer c.run_all.ensures.answer

pub returns-in_ok-run_at_each-in-len1-up-clause-told : goal.returns-in_ok-run_at_each-in-len1-up-clause-told
returns-in_ok-run_at_each-in-len1-up-clause-told g t c =
    let rows = g.R.Rows.rows c.args.rows.now in
    others_told (is_before_row_on c.args.columns.now) (λ x. each (change_after_trigger c.args.context.now rows x)) (before_each_told c.args.context.now rows)
    c.args.triggers.now c.trigger-item.result c.args.changes.now c.run_all.result c.in-len1-up.len_at_least c.trigger-item.is
    c.args.account.now c.run_at_each.new.account c.run_all.new.account c.run_at_each.new.changes
    c.if-is_before_row_on.ensures c.in_ok-run_at_each-in-len1-up.ensures.answer c.in_ok-run_at_each-in-len1-up.ensures.told c.run_all.ensures.told

pub returns-else-is_before_row_on-clause-answer : goal.returns-else-is_before_row_on-clause-answer
returns-else-is_before_row_on-clause-answer g t c =
    let rows = g.R.Rows.rows c.args.rows.now in
    others_alone (is_before_row_on c.args.columns.now) (λ x. each (change_after_trigger c.args.context.now rows x)) (before_each_told c.args.context.now rows)
    c.args.triggers.now c.trigger-item.result c.args.changes.now c.run_all-else-is_before_row_on.result c.in-len1-up.len_at_least c.trigger-item.is
    _ c.if-is_before_row_on.ensures c.run_all-else-is_before_row_on.ensures.answer

pub returns-else-is_before_row_on-clause-told : goal.returns-else-is_before_row_on-clause-told
returns-else-is_before_row_on-clause-told g t c =
    let rows = g.R.Rows.rows c.args.rows.now in
    others_alone_told (is_before_row_on c.args.columns.now) (λ x. each (change_after_trigger c.args.context.now rows x)) (before_each_told c.args.context.now rows)
    c.args.triggers.now c.trigger-item.result c.args.changes.now c.run_all-else-is_before_row_on.result c.in-len1-up.len_at_least c.trigger-item.is
    c.args.account.now c.run_all-else-is_before_row_on.new.account
    c.if-is_before_row_on.ensures c.run_all-else-is_before_row_on.ensures.told

pub returns-in-empty-clause-answer : goal.returns-in-empty-clause-answer
returns-in-empty-clause-answer g t c =
    let rows = g.R.Rows.rows c.args.rows.now in
    none_run (is_before_row_on c.args.columns.now) (λ x. each (change_after_trigger c.args.context.now rows x)) (before_each_told c.args.context.now rows) c.args.triggers.now c.args.changes.now (omega (arith, c.in-empty.len_below))

pub returns-in-empty-clause-told : goal.returns-in-empty-clause-told
returns-in-empty-clause-told g t c =
    let rows = g.R.Rows.rows c.args.rows.now in
    none_told (is_before_row_on c.args.columns.now) (λ x. each (change_after_trigger c.args.context.now rows x)) (before_each_told c.args.context.now rows) c.args.triggers.now c.args.changes.now (omega (arith, c.in-empty.len_below)) c.args.account.now

pub run_at_each-requires : goal.run_at_each-requires
run_at_each-requires g t c = first_body c.args.triggers.now c.trigger-item.result c.in-len1-up.len_at_least c.trigger-item.is c.requires

pub run_all-requires : goal.run_all-requires
run_all-requires g t c κs within =
    (omega (arith, fewer c.args.triggers.now c.in-len1-up.len_at_least, c.decreases), (within, other_bodies c.args.triggers.now c.requires))

pub run_all-requires-else-is_before_row_on : goal.run_all-requires-else-is_before_row_on
run_all-requires-else-is_before_row_on g t c κs within =
    (omega (arith, fewer c.args.triggers.now c.in-len1-up.len_at_least, c.decreases), (within, other_bodies c.args.triggers.now c.requires))
