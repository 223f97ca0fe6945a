use Rattle.std.proofs.Common.{◌≡◌, nat_lt, length, drop}
use Rattle.iv_catalogue.specs.declared.limits.TheConstants.{MOST_CONSTRAINTS}
use Rattle.iv_resolution.specs.Constraints.{written_constraints}
use Rattle.iv_resolve_tables.proofs.limits.many_constraints.Given as goal

abbrev pub invariant-loop-element : goal.invariant-loop-element
invariant-loop-element l =
    nat_lt MOST_CONSTRAINTS (length (written_constraints l.elements)) ≡ nat_lt l.left (length (written_constraints (drop l.element-index l.elements)))
