use Rattle.std.proofs.Common.{◌≡◌, ◌≤◌, drop, filter_map, length}
use Rattle.iv_machine.specs.Databases.{in_order, new_row}
use Rattle.iv_machine.proofs.wave.new_rows.Given as goal

abbrev pub invariant-loop-left : goal.invariant-loop-left
invariant-loop-left l = record {
  within : l.left ≤ length l.changes;
  done : l.rows.items ≡ in_order (filter_map new_row (drop l.left l.changes));
}

abbrev pub decreases-loop-left : goal.decreases-loop-left
decreases-loop-left l = l.left
