use Rattle.std.proofs.Common.{◌≡◌, drop, map}
use Rattle.std.specs.List.{list_all}
use Rattle.iv_resolution.specs.Constraints.{column_constraint}
use Rattle.iv_resolution.specs.Writable.{is_written_constraint}
use Rattle.iv_resolve.proofs.tables.are_column_constraints.Given as goal

abbrev pub invariant-loop-constraint : goal.invariant-loop-constraint
invariant-loop-constraint l =
    list_all is_written_constraint (map (column_constraint l.fn.column) l.constraints)
    ≡ list_all is_written_constraint (map (column_constraint l.fn.column) (drop l.constraint-index l.constraints))
