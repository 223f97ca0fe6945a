use Rattle.std.proofs.Common.{◌≡◌, drop, zip}
use Rattle.iv_resolve_scope.specs.Seen.{columns_seen}
use Rattle.iv_resolve_tables.specs.Keys.{key_names}
use Rattle.iv_resolve_reasons.specs.SchemaFaults.{fault_of_types}
use Rattle.iv_resolve_reasons.proofs.references.fault_of_types.Given as goal

abbrev pub invariant-loop-at : goal.invariant-loop-at
invariant-loop-at l =
    fault_of_types (columns_seen l.fn.columns) (columns_seen l.fn.others) (zip l.fn.referencing (key_names l.fn.referenced))
    ≡ fault_of_types (columns_seen l.fn.columns) (columns_seen l.fn.others) (zip (drop l.at l.fn.referencing) (drop l.at (key_names l.fn.referenced)))
