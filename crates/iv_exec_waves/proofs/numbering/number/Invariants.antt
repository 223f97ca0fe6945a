use Rattle.std.proofs.Common.{◌≡◌, ◌-◌, ◌+◌, ◌≤◌, ◌++◌, false, length, drop, take}
use Rattle.iv_machine.specs.Bounds.{last_row_number}
use Rattle.iv_machine.specs.Waves.{with_numbers, is_beyond_last_row}
use Rattle.iv_exec_waves.proofs.numbering.number.Given as goal

abbrev pub invariant-loop-at : goal.invariant-loop-at
invariant-loop-at l = record {
  within : l.at ≤ length l.changes;
  same : length l.changes ≡ length l.initial.changes;
  next : l.next ≤ last_row_number + 1;
  so_far : take l.at l.changes ++ with_numbers l.next (drop l.at l.changes) ≡ with_numbers l.initial.next l.initial.changes;
  small : is_beyond_last_row (take l.at l.changes) ≡ false;
}

abbrev pub decreases-loop-at : goal.decreases-loop-at
decreases-loop-at l = length l.changes - l.at
