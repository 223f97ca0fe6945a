use Rattle.std.proofs.Common.{arith, ap, sym, ◌∙◌, List}
use Rattle.iv_expr.specs.Scopes.{no_frame}
use Rattle.iv_catalogue.specs.declared.plan.Trigger.{Trigger}
use Rattle.iv_account.specs.Accounts.{trigger_told}
use Rattle.iv_account.specs.Telling.{Account}
use Rattle.iv_machine.specs.BeforeTriggers.{before_statement_run, is_before_this}
use Rattle.iv_machine.specs.Context.{in_turn, while_running}
use Rattle.iv_exec_triggers.proofs.InTurn.{fewer, first_body, none_run, none_told, other_bodies, first_is_passed, first_refused, first_refused_told, first_refused_unasked, others_alone, others_alone_told, others_left, others_meant, others_told}
use Rattle.iv_exec_triggers.proofs.before.+run_statement_triggers.Goals as goal

pub returns-in_err-run_named-in-len1-up-clause-answer : goal.returns-in_err-run_named-in-len1-up-clause-answer
returns-in_err-run_named-in-len1-up-clause-answer g t c =
    let rows = g.R.Rows.rows c.args.rows.now in
    first_refused (is_before_this c.args.statement.now) (λ x _. while_running x.id (before_statement_run rows x)) (λ x _. trigger_told rows x no_frame)
    c.args.triggers.now c.trigger-item.result tt c.from_residual.result c.in-len1-up.len_at_least c.trigger-item.is
    _ c.in_err-run_named-in-len1-up.field-0.0 c.if-is_before_this.ensures c.from_residual.ensures.1 c.in_err-run_named-in-len1-up.ensures.answer

pub returns-in_err-run_named-in-len1-up-clause-told : goal.returns-in_err-run_named-in-len1-up-clause-told
returns-in_err-run_named-in-len1-up-clause-told g t c =
    let rows = g.R.Rows.rows c.args.rows.now in
    first_refused_told (is_before_this c.args.statement.now) (λ x _. while_running x.id (before_statement_run rows x)) (λ x _. trigger_told rows x no_frame)
    c.args.triggers.now c.trigger-item.result tt c.from_residual.result c.in-len1-up.len_at_least c.trigger-item.is
    c.args.account.now c.run_named.new.account c.in_err-run_named-in-len1-up.field-0.0
    c.if-is_before_this.ensures c.from_residual.ensures.1 c.in_err-run_named-in-len1-up.ensures.answer c.in_err-run_named-in-len1-up.ensures.told

pub returns-in_err-run_named-in-len1-up-clause-unasked : goal.returns-in_err-run_named-in-len1-up-clause-unasked
returns-in_err-run_named-in-len1-up-clause-unasked g t c u =
    let rows = g.R.Rows.rows c.args.rows.now in
    first_refused_unasked (is_before_this c.args.statement.now) (λ x _. while_running x.id (before_statement_run rows x)) (λ x _. trigger_told rows x no_frame)
    c.args.triggers.now c.trigger-item.result tt c.from_residual.result c.in-len1-up.len_at_least c.trigger-item.is
    c.in_err-run_named-in-len1-up.field-0.0 c.if-is_before_this.ensures c.from_residual.ensures.1 (c.in_err-run_named-in-len1-up.ensures.unasked u)

pub returns-in_ok-run_named-in-len1-up-clause-answer : goal.returns-in_ok-run_named-in-len1-up-clause-answer
returns-in_ok-run_named-in-len1-up-clause-answer g t c =
    let rows = g.R.Rows.rows c.args.rows.now in
    others_left (is_before_this c.args.statement.now) (λ x _. while_running x.id (before_statement_run rows x)) (λ x _. trigger_told rows x no_frame)
    c.args.triggers.now c.trigger-item.result tt c.run_statement_triggers.result c.in-len1-up.len_at_least c.trigger-item.is
    _ tt c.if-is_before_this.ensures c.in_ok-run_named-in-len1-up.ensures.answer c.run_statement_triggers.ensures.answer

pub returns-in_ok-run_named-in-len1-up-clause-told : goal.returns-in_ok-run_named-in-len1-up-clause-told
returns-in_ok-run_named-in-len1-up-clause-told g t c =
    let rows = g.R.Rows.rows c.args.rows.now in
    others_told (is_before_this c.args.statement.now) (λ x _. while_running x.id (before_statement_run rows x)) (λ x _. trigger_told rows x no_frame)
    c.args.triggers.now c.trigger-item.result tt c.run_statement_triggers.result c.in-len1-up.len_at_least c.trigger-item.is
    c.args.account.now c.run_named.new.account c.run_statement_triggers.new.account tt
    c.if-is_before_this.ensures c.in_ok-run_named-in-len1-up.ensures.answer c.in_ok-run_named-in-len1-up.ensures.told c.run_statement_triggers.ensures.told

pub returns-in_ok-run_named-in-len1-up-clause-unasked : goal.returns-in_ok-run_named-in-len1-up-clause-unasked
returns-in_ok-run_named-in-len1-up-clause-unasked g t c u =
    let rows = g.R.Rows.rows c.args.rows.now in
    c.run_statement_triggers.ensures.unasked (ap (λ (a : Account). a.asked) c.in_ok-run_named-in-len1-up.ensures.told ∙ u)
    ∙ others_meant (is_before_this c.args.statement.now) (λ x _. while_running x.id (before_statement_run rows x)) (λ x _. trigger_told rows x no_frame)
    c.args.triggers.now c.trigger-item.result tt c.run_statement_triggers.result c.in-len1-up.len_at_least c.trigger-item.is
    tt c.if-is_before_this.ensures c.in_ok-run_named-in-len1-up.ensures.answer

pub returns-else-is_before_this-clause-answer : goal.returns-else-is_before_this-clause-answer
returns-else-is_before_this-clause-answer g t c =
    let rows = g.R.Rows.rows c.args.rows.now in
    others_alone (is_before_this c.args.statement.now) (λ x _. while_running x.id (before_statement_run rows x)) (λ x _. trigger_told rows x no_frame)
    c.args.triggers.now c.trigger-item.result tt c.run_statement_triggers-else-is_before_this.result c.in-len1-up.len_at_least c.trigger-item.is
    _ c.if-is_before_this.ensures c.run_statement_triggers-else-is_before_this.ensures.answer

pub returns-else-is_before_this-clause-told : goal.returns-else-is_before_this-clause-told
returns-else-is_before_this-clause-told g t c =
    let rows = g.R.Rows.rows c.args.rows.now in
    others_alone_told (is_before_this c.args.statement.now) (λ x _. while_running x.id (before_statement_run rows x)) (λ x _. trigger_told rows x no_frame)
    c.args.triggers.now c.trigger-item.result tt c.run_statement_triggers-else-is_before_this.result c.in-len1-up.len_at_least c.trigger-item.is
    c.args.account.now c.run_statement_triggers-else-is_before_this.new.account
    c.if-is_before_this.ensures c.run_statement_triggers-else-is_before_this.ensures.told

pub returns-else-is_before_this-clause-unasked : goal.returns-else-is_before_this-clause-unasked
returns-else-is_before_this-clause-unasked g t c u =
    let rows = g.R.Rows.rows c.args.rows.now in
    c.run_statement_triggers-else-is_before_this.ensures.unasked u
    ∙ ap (λ (l : List Trigger). in_turn (λ x _. while_running x.id (before_statement_run rows x)) l tt)
    (sym (first_is_passed (is_before_this c.args.statement.now) c.args.triggers.now c.trigger-item.result c.in-len1-up.len_at_least c.trigger-item.is c.if-is_before_this.ensures))

pub returns-in-empty-clause-answer : goal.returns-in-empty-clause-answer
returns-in-empty-clause-answer g t c =
    let rows = g.R.Rows.rows c.args.rows.now in
    none_run (is_before_this c.args.statement.now) (λ x _. while_running x.id (before_statement_run rows x)) (λ x _. trigger_told rows x no_frame) c.args.triggers.now tt (omega (arith, c.in-empty.len_below))

pub returns-in-empty-clause-told : goal.returns-in-empty-clause-told
returns-in-empty-clause-told g t c =
    let rows = g.R.Rows.rows c.args.rows.now in
    none_told (is_before_this c.args.statement.now) (λ x _. while_running x.id (before_statement_run rows x)) (λ x _. trigger_told rows x no_frame) c.args.triggers.now tt (omega (arith, c.in-empty.len_below)) c.args.account.now

pub run_named-requires : goal.run_named-requires
run_named-requires g t c = first_body c.args.triggers.now c.trigger-item.result c.in-len1-up.len_at_least c.trigger-item.is c.requires

pub run_statement_triggers-requires : goal.run_statement_triggers-requires
run_statement_triggers-requires g t c κs within =
    (omega (arith, fewer c.args.triggers.now c.in-len1-up.len_at_least, c.decreases), (within, other_bodies c.args.triggers.now c.requires))

pub run_statement_triggers-requires-else-is_before_this : goal.run_statement_triggers-requires-else-is_before_this
run_statement_triggers-requires-else-is_before_this g t c κs within =
    (omega (arith, fewer c.args.triggers.now c.in-len1-up.len_at_least, c.decreases), (within, other_bodies c.args.triggers.now c.requires))

pub returns-in-empty-clause-unasked : goal.returns-in-empty-clause-unasked
returns-in-empty-clause-unasked g t c u =
    let rows = g.R.Rows.rows c.args.rows.now in
    sym (none_run (is_before_this c.args.statement.now) (λ x _. while_running x.id (before_statement_run rows x)) (λ x _. trigger_told rows x no_frame) c.args.triggers.now tt (omega (arith, c.in-empty.len_below)))
