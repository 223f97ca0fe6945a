use Rattle.std.proofs.Common.{◌≡◌, ◌+◌, ◌≤◌, drop, nat_lt}
use Rattle.std.specs.List.{prefix_len}
use Rattle.iv_machine.proofs.wave.place.Given as goal

abbrev pub invariant-loop-row : goal.invariant-loop-row
invariant-loop-row l = record {
  small : l.at ≤ l.row-index;
  left : l.at + prefix_len (λ r. nat_lt r.number l.number) (drop l.row-index l.rows) ≡ prefix_len (λ r. nat_lt r.number l.number) l.rows;
}
