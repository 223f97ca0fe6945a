use Rattle.std.proofs.Common.{◌≡◌, drop}
use Rattle.iv_resolve_scope.specs.Seen.{columns_seen}
use Rattle.iv_resolution.specs.NameFaults.{unknown_in_columns}
use Rattle.iv_resolve_name_faults.proofs.terms.unknown_in_columns.Given as goal

abbrev pub invariant-loop-name : goal.invariant-loop-name
invariant-loop-name l = unknown_in_columns (columns_seen l.fn.columns) l.names ≡ unknown_in_columns (columns_seen l.fn.columns) (drop l.name-index l.names)
