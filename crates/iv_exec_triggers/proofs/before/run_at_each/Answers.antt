use Rattle.std.proofs.Common.{◌∙◌}
use Rattle.std.proofs.lemmas.List.{length-set}
use Rattle.iv_account.specs.Accounts.{before_row_told}
use Rattle.iv_machine.specs.BeforeTriggers.{change_after_trigger}
use Rattle.iv_exec_triggers.proofs.InTurn.{one_further, each_done, each_on, each_refused_on, each_refused_told, each_told_all, each_told_on}
use Rattle.iv_exec_triggers.proofs.before.run_at_each.Goals as goal

pub returns-in_err-run_at_change-clause-answer : goal.returns-in_err-run_at_change-clause-answer
returns-in_err-run_at_change-clause-answer g c =
    each_refused_on (change_after_trigger c.args.context.now (g.R.Rows.rows c.args.rows.now) c.args.trigger.now) c.loop-at.changes c.loop-at.at _ c.loop-at.invariant.rest
    c.index-changes-at.result c.in_err-run_at_change.field-0.0 _ c.from_residual.result c.loop-at-test.true c.from_residual.ensures.1 c.in_err-run_at_change.ensures.answer

pub returns-in_err-run_at_change-clause-told : goal.returns-in_err-run_at_change-clause-told
returns-in_err-run_at_change-clause-told g c =
    each_refused_told (change_after_trigger c.args.context.now (g.R.Rows.rows c.args.rows.now) c.args.trigger.now) (before_row_told c.args.context.now (g.R.Rows.rows c.args.rows.now) c.args.trigger.now)
    c.loop-at.changes c.loop-at.at c.loop-at.account _ c.loop-at.invariant.told
    c.index-changes-at.result c.in_err-run_at_change.field-0.0 c.run_at_change.new.account c.from_residual.result c.loop-at-test.true c.from_residual.ensures.1
    c.in_err-run_at_change.ensures.answer c.in_err-run_at_change.ensures.told

pub loop-at-preserved : goal.loop-at-preserved
loop-at-preserved g c = record {
  within = one_further c.loop-at.changes c.loop-at.at c.run_at_change.new.change c.loop-at-test.true;
  same = length-set c.loop-at.changes c.loop-at.at c.run_at_change.new.change ∙ c.loop-at.invariant.same;
  rest = each_on (change_after_trigger c.args.context.now (g.R.Rows.rows c.args.rows.now) c.args.trigger.now) c.loop-at.changes c.loop-at.at _ c.loop-at.invariant.rest
      c.index-changes-at.result c.run_at_change.new.change c.loop-at-test.true c.in_ok-run_at_change.ensures.answer;
  told = each_told_on (change_after_trigger c.args.context.now (g.R.Rows.rows c.args.rows.now) c.args.trigger.now) (before_row_told c.args.context.now (g.R.Rows.rows c.args.rows.now) c.args.trigger.now)
      c.loop-at.changes c.loop-at.at c.loop-at.account _ c.loop-at.invariant.told
      c.index-changes-at.result c.run_at_change.new.change c.run_at_change.new.account c.loop-at-test.true
      c.in_ok-run_at_change.ensures.answer c.in_ok-run_at_change.ensures.told;
}

pub returns-clause-answer : goal.returns-clause-answer
returns-clause-answer g c =
    each_done (change_after_trigger c.args.context.now (g.R.Rows.rows c.args.rows.now) c.args.trigger.now) c.loop-at.changes c.loop-at.at _ c.loop-at.invariant.rest c.loop-at-test.false

pub returns-clause-told : goal.returns-clause-told
returns-clause-told g c =
    each_told_all (change_after_trigger c.args.context.now (g.R.Rows.rows c.args.rows.now) c.args.trigger.now) (before_row_told c.args.context.now (g.R.Rows.rows c.args.rows.now) c.args.trigger.now)
    c.loop-at.changes c.loop-at.at c.loop-at.account _ c.loop-at.invariant.told c.loop-at-test.false
