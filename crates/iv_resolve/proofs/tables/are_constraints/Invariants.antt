use Rattle.std.proofs.Common.{◌≡◌, drop}
use Rattle.std.specs.List.{list_all}
use Rattle.iv_resolution.specs.Constraints.{written_constraints}
use Rattle.iv_resolution.specs.Writable.{is_written_constraint}
use Rattle.iv_resolve.proofs.tables.are_constraints.Given as goal

abbrev pub invariant-loop-element : goal.invariant-loop-element
invariant-loop-element l = list_all is_written_constraint (written_constraints l.elements) ≡ list_all is_written_constraint (written_constraints (drop l.element-index l.elements))
