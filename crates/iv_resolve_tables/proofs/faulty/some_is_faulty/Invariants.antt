use Rattle.std.proofs.Common.{◌≡◌, length}
use Rattle.std.specs.List.{list_any}
use Rattle.iv_resolution.specs.Constraints.{written_constraints}
use Rattle.iv_resolution.specs.Tables.{faulty_constraint}
use Rattle.iv_resolve_tables.specs.Unread.{left_seen}
use Rattle.iv_resolve_tables.specs.Seen.{own_seen}
use Rattle.iv_resolve_tables.proofs.faulty.some_is_faulty.Given as goal

abbrev pub invariant-loop-constraint : goal.invariant-loop-constraint
invariant-loop-constraint l =
    list_any (faulty_constraint l.fn.catalogue (own_seen l.fn.catalogue l.fn.own)) (written_constraints l.elements)
    ≡ list_any (faulty_constraint l.fn.catalogue (own_seen l.fn.catalogue l.fn.own)) (left_seen l.left)

abbrev pub decreases-loop-constraint : goal.decreases-loop-constraint
decreases-loop-constraint l = length (left_seen l.left)
