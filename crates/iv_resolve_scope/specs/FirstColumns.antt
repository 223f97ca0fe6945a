-- The first column of a name, with its place.
use Rattle.std.specs.Prelude.{ℕ, ◌+◌, List, [], ◌∷◌, Option, Some, None, if◌then◌else◌}
use Rattle.std.specs.Str.{bytes_eq}
use Rattle.iv_resolution.specs.Scopes.{NamedColumn}
use Rattle.iv_resolve_scope.specs.declared.column_index.FirstColumn.{FirstColumn}

-- the first of the columns that has the name, if the first of them all has this place
abbrev pub first_from : ℕ → List NamedColumn → List ℕ → Option FirstColumn
first_from place [] name = None
first_from place (c ∷ columns) name = if bytes_eq name c.name then Some (record { place = place; kind = c.kind }) else first_from (place + 1) columns name
