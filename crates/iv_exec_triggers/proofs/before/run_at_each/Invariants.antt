use Rattle.std.proofs.Common.{◌≡◌, ◌-◌, ◌≤◌, length, drop, take, ◌++◌, Ok}
use Rattle.iv_account.specs.Accounts.{before_each_told}
use Rattle.iv_account.specs.Telling.{and_told}
use Rattle.iv_expr.specs.Evaluation.{and_then}
use Rattle.iv_machine.specs.BeforeTriggers.{change_after_trigger}
use Rattle.iv_machine.specs.Context.{each}
use Rattle.iv_exec_triggers.proofs.before.run_at_each.Given as goal

abbrev pub invariant-loop-at : goal.invariant-loop-at
invariant-loop-at g l =
    let f = change_after_trigger l.context (g.R.Rows.rows l.rows) l.trigger in
    record {
      within : l.at ≤ length l.changes;
      same : length l.changes ≡ length l.initial.changes;
      rest : and_then (each f (drop l.at l.changes)) (λ ys. Ok (take l.at l.changes ++ ys)) ≡ each f l.initial.changes;
      told : and_told l.account (before_each_told l.context (g.R.Rows.rows l.rows) l.trigger (drop l.at l.changes))
          ≡ and_told l.initial.account (before_each_told l.context (g.R.Rows.rows l.rows) l.trigger l.initial.changes);
    }

abbrev pub decreases-loop-at : goal.decreases-loop-at
decreases-loop-at g l = length l.changes - l.at
