use Rattle.std.proofs.Common.{◌≡◌, drop, map}
use Rattle.iv_resolution.specs.Constraints.{written_columns}
use Rattle.iv_catalogue.specs.Names.{is_among}
use Rattle.iv_resolve_name_faults.proofs.columns_again.is_column.Given as goal

abbrev pub invariant-loop-element : goal.invariant-loop-element
invariant-loop-element l = is_among (map (λ c. c.name) (written_columns l.elements)) l.fn.name ≡ is_among (map (λ c. c.name) (written_columns (drop l.element-index l.elements))) l.fn.name
