use Rattle.std.proofs.Common.{◌≡◌, drop, find, map}
use Rattle.iv_resolution.specs.Constraints.{column_constraint, written_keys}
use Rattle.iv_resolve_scope.specs.Seen.{columns_seen}
use Rattle.iv_resolve_tables.specs.Keys.{is_sought}
use Rattle.iv_resolve_tables.proofs.finding.key_of_column.Given as goal

abbrev pub invariant-loop-constraint : goal.invariant-loop-constraint
invariant-loop-constraint l =
    find (is_sought l.fn.sought) (written_keys (columns_seen l.fn.columns) (map (column_constraint l.fn.column) l.constraints))
    ≡ find (is_sought l.fn.sought) (written_keys (columns_seen l.fn.columns) (map (column_constraint l.fn.column) (drop l.constraint-index l.constraints)))
