use Rattle.std.proofs.Common.{◌≡◌, ◌+◌, ℕ, length}
use Rattle.std.specs.List.{enumerate_from}
use Rattle.iv_resolution.specs.Constraints.{WrittenConstraint, written_constraints}
use Rattle.iv_resolution.specs.Items.{first_of}
use Rattle.iv_resolve_tables.specs.Seen.{own_seen}
use Rattle.iv_resolve_tables.specs.Unread.{left_seen}
use Rattle.iv_resolve_reasons.specs.SchemaFaults.{fault_of_constraint}
use Rattle.iv_resolve_reasons.proofs.definitions.fault_of_constraints.Given as goal

abbrev pub invariant-loop-constraint : goal.invariant-loop-constraint
invariant-loop-constraint l = record {
  places : l.place + length (left_seen l.left) ≡ 1 + l.count;
  same : first_of (λ (p : ℕ × WrittenConstraint). fault_of_constraint l.fn.catalogue (own_seen l.fn.catalogue l.fn.definition.own) p.0 p.1) (enumerate_from 1 (written_constraints l.elements))
      ≡ first_of (λ (p : ℕ × WrittenConstraint). fault_of_constraint l.fn.catalogue (own_seen l.fn.catalogue l.fn.definition.own) p.0 p.1) (enumerate_from l.place (left_seen l.left));
}

abbrev pub decreases-loop-constraint : goal.decreases-loop-constraint
decreases-loop-constraint l = length (left_seen l.left)
