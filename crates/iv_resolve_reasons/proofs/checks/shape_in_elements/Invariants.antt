use Rattle.std.proofs.Common.{◌≡◌, length}
use Rattle.iv_resolution.specs.Constraints.{written_constraints}
use Rattle.iv_resolution.specs.Items.{first_of}
use Rattle.iv_resolve_tables.specs.Seen.{names_of_own, own_seen}
use Rattle.iv_resolve_tables.specs.Unread.{left_seen}
use Rattle.iv_resolve_reasons.specs.Shapes.{shape_in_rule}
use Rattle.iv_resolve_reasons.proofs.checks.shape_in_elements.Given as goal

abbrev pub invariant-loop-constraint : goal.invariant-loop-constraint
invariant-loop-constraint l =
    first_of (λ k. shape_in_rule (names_of_own l.fn.catalogue l.fn.own) (own_seen l.fn.catalogue l.fn.own) k.rule) (written_constraints l.elements)
    ≡ first_of (λ k. shape_in_rule (names_of_own l.fn.catalogue l.fn.own) (own_seen l.fn.catalogue l.fn.own) k.rule) (left_seen l.left)

abbrev pub decreases-loop-constraint : goal.decreases-loop-constraint
decreases-loop-constraint l = length (left_seen l.left)
