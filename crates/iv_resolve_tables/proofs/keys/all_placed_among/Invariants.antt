use Rattle.std.proofs.Common.{◌≡◌, drop, map}
use Rattle.std.specs.List.{list_all}
use Rattle.iv_catalogue.specs.Names.{is_among}
use Rattle.iv_resolution.specs.Constraints.{name_at}
use Rattle.iv_resolution.specs.Scopes.{named_columns}
use Rattle.iv_resolve_tables.proofs.keys.all_placed_among.Given as goal

abbrev pub invariant-loop-place : goal.invariant-loop-place
invariant-loop-place l =
    list_all (is_among l.fn.names) (map (name_at (named_columns l.fn.columns)) l.places)
    ≡ list_all (is_among l.fn.names) (map (name_at (named_columns l.fn.columns)) (drop l.place-index l.places))
