use Rattle.std.proofs.Common.{◌≡◌, ◌≤◌, drop, length}
use Rattle.iv_machine.specs.Databases.{rows_after}
use Rattle.iv_machine.proofs.wave.put_all_outside.Given as goal

abbrev pub invariant-loop-left : goal.invariant-loop-left
invariant-loop-left l = record {
  within : l.left ≤ length l.rows;
  done : l.found.items ≡ rows_after (drop l.left l.rows) l.changes;
}

abbrev pub decreases-loop-left : goal.decreases-loop-left
decreases-loop-left l = l.left
