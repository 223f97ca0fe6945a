use Rattle.std.proofs.Common.{◌≡◌, drop}
use Rattle.std.specs.List.{list_all}
use Rattle.iv_resolution.specs.Constraints.{written_columns}
use Rattle.iv_resolution.specs.Writable.{is_definition}
use Rattle.iv_resolve.proofs.tables.are_definitions.Given as goal

abbrev pub invariant-loop-element : goal.invariant-loop-element
invariant-loop-element l = list_all is_definition (written_columns l.elements) ≡ list_all is_definition (written_columns (drop l.element-index l.elements))
