use Rattle.std.proofs.Common.{◌≡◌, ◌+◌, ◌++◌, length, map}
use Rattle.std.specs.List.{enumerate_from}
use Rattle.iv_resolution.specs.Bound.{bound_place}
use Rattle.iv_resolution.specs.Constraints.{written_constraints}
use Rattle.iv_resolution.specs.Tables.{created_table}
use Rattle.iv_resolve_tables.specs.Unread.{left_seen}
use Rattle.iv_resolve_tables.proofs.plan.bound_constraints.Given as goal

abbrev pub invariant-loop-constraint : goal.invariant-loop-constraint
invariant-loop-constraint l = l.constraints.items ++ map (bound_place l.catalogue (created_table l.catalogue l.table l.elements)) (enumerate_from (length l.constraints.items + 1) (left_seen l.left))
    ≡ map (bound_place l.catalogue (created_table l.catalogue l.table l.elements)) (enumerate_from 1 (written_constraints l.elements))

abbrev pub decreases-loop-constraint : goal.decreases-loop-constraint
decreases-loop-constraint l = length (left_seen l.left)
