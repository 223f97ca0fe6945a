use Rattle.std.proofs.Common.{◌≡◌, ◌≤◌, ◌+◌, ◌*◌, length, drop}
use Rattle.iv_resolution.specs.Constraints.{written_constraints}
use Rattle.iv_resolve_tables.proofs.unread.count_constraints.Given as goal

abbrev pub invariant-loop-element : goal.invariant-loop-element
invariant-loop-element l = record {
  small : l.count ≤ l.element-index * 18446744073709551615;
  all : l.count + length (written_constraints (drop l.element-index l.elements)) ≡ length (written_constraints l.elements);
}
