-- What the keys of the code are in definitions.
use Rattle.std.specs.Prelude.{ℕ, List, Option, Some, None, Bool, if◌then◌else◌, map, slice_get}
use Rattle.iv_catalogue.specs.declared.constraint.Constraint.{Constraint}
use Rattle.iv_resolution.specs.Scopes.{NamedColumn, named_columns}
use Rattle.iv_resolution.specs.Constraints.{Key, is_reliable, key_of_rule, name_at, places_of}
use Rattle.iv_resolve_scope.specs.Seen.{columns_seen}
use Rattle.iv_resolve_tables.specs.declared.keys.KeyColumns.{KeyColumns}
use Rattle.iv_resolve_tables.specs.declared.keys.KeyColumns.TheVariants.{Named, Placed}
use Rattle.iv_resolve_tables.specs.declared.keys.TableKey.{TableKey}
use Rattle.iv_resolve_tables.specs.declared.keys.Sought.{Sought}
use Rattle.iv_resolve_tables.specs.declared.keys.Sought.TheVariants.{Primary, Reliable}

-- the names of a key's columns
abbrev pub key_names : KeyColumns → List (List ℕ)
key_names (Named columns names) = names.now
key_names (Placed columns places) = map (name_at (named_columns columns.now)) places.now

-- and their places
abbrev pub key_places : KeyColumns → List ℕ
key_places (Named columns names) = places_of (columns_seen columns) names.now
key_places (Placed columns places) = places.now

abbrev pub key_seen : TableKey → Key
key_seen k = record { columns = key_names k.columns; places = key_places k.columns; is_primary = k.is_primary; deferrable = k.deferrable }

-- the key is one of those that are looked for
abbrev pub is_sought : Sought → Key → Bool
is_sought Primary k = k.is_primary
is_sought (Reliable names) k = is_reliable names.now k

-- the key, if it is one of those that are looked for
abbrev pub if_sought : Sought → Option Key → Option Key
if_sought s o = elim o [ Some k ↦ if is_sought s k then Some k else None | None ↦ None ]

-- the key that the constraint at a place is
abbrev pub key_at : List NamedColumn → List Constraint → ℕ → Option Key
key_at columns constraints place = elim (slice_get constraints place) [ Some k ↦ key_of_rule columns k.deferrable k.rule | None ↦ None ]
