use Rattle.std.proofs.Common.{◌≡◌, length}
use Rattle.std.specs.List.{list_any}
use Rattle.iv_resolution.specs.Constraints.{written_constraints}
use Rattle.iv_resolution.specs.Tables.{misshaped_rule}
use Rattle.iv_resolve_tables.specs.Seen.{names_of_own, own_seen}
use Rattle.iv_resolve_tables.specs.Unread.{left_seen}
use Rattle.iv_resolve_tables.proofs.misshaped.some_is_misshaped.Given as goal

abbrev pub invariant-loop-constraint : goal.invariant-loop-constraint
invariant-loop-constraint l =
    list_any (λ k. misshaped_rule (names_of_own l.fn.catalogue l.fn.own) (own_seen l.fn.catalogue l.fn.own) k.rule) (written_constraints l.elements)
    ≡ list_any (λ k. misshaped_rule (names_of_own l.fn.catalogue l.fn.own) (own_seen l.fn.catalogue l.fn.own) k.rule) (left_seen l.left)

abbrev pub decreases-loop-constraint : goal.decreases-loop-constraint
decreases-loop-constraint l = length (left_seen l.left)
