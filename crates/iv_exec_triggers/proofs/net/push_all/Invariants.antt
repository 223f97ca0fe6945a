use Rattle.std.proofs.Common.{◌≡◌, ◌++◌, drop}
use Rattle.iv_expr.specs.Changes.{RisingChangesFrom, last_row}
use Rattle.iv_exec_triggers.proofs.net.push_all.Given as goal

abbrev pub invariant-loop-change : goal.invariant-loop-change
invariant-loop-change l = record {
  so_far : l.net.changes ++ drop l.change-index l.more ≡ l.initial.net.changes ++ l.more;
  columns : l.net.columns ≡ l.initial.net.columns;
  rises : RisingChangesFrom (last_row l.net.changes) (drop l.change-index l.more);
}
