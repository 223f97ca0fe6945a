use Rattle.std.proofs.Common.{◌≡◌, ◌++◌, drop, filter_map}
use Rattle.iv_expr.specs.Changes.{wave_of, RisingChangesFrom, last_row}
use Rattle.iv_exec_triggers.specs.Merging.{kept}
use Rattle.iv_exec_triggers.proofs.net.left_of.Given as goal

abbrev pub invariant-loop-change : goal.invariant-loop-change
invariant-loop-change l = record {
  so_far : record l.left { changes = l.left.changes ++ filter_map kept (drop l.change-index l.wave) } ≡ wave_of (filter_map kept l.wave);
  rises : RisingChangesFrom (last_row l.left.changes) (drop l.change-index l.wave);
}
