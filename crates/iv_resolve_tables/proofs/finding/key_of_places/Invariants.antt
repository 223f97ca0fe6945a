use Rattle.std.proofs.Common.{◌≡◌, drop, filter_map, find}
use Rattle.iv_resolution.specs.Scopes.{named_columns}
use Rattle.iv_resolve_tables.specs.Keys.{is_sought, key_at}
use Rattle.iv_resolve_tables.proofs.finding.key_of_places.Given as goal

abbrev pub invariant-loop-place : goal.invariant-loop-place
invariant-loop-place l =
    find (is_sought l.fn.sought) (filter_map (key_at (named_columns l.fn.columns) l.fn.catalogue.constraints) l.places)
    ≡ find (is_sought l.fn.sought) (filter_map (key_at (named_columns l.fn.columns) l.fn.catalogue.constraints) (drop l.place-index l.places))
