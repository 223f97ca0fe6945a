use Rattle.std.proofs.Common.{◌≡◌, drop}
use Rattle.iv_resolution.specs.Constraints.{written_columns}
use Rattle.iv_resolution.specs.Items.{first_of}
use Rattle.iv_resolve_reasons.specs.SchemaFaults.{fault_of_default}
use Rattle.iv_resolve_reasons.proofs.definitions.fault_of_defaults.Given as goal

abbrev pub invariant-loop-element : goal.invariant-loop-element
invariant-loop-element l = first_of fault_of_default (written_columns l.elements) ≡ first_of fault_of_default (written_columns (drop l.element-index l.elements))
