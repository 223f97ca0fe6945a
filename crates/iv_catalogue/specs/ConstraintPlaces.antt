-- What a catalogue is seen as, and what holds of its parts: the places of each table's constraints, which it keeps beside the list of
-- constraints.
use Rattle.std.specs.Prelude.{◌≡◌, ℕ, ◌+◌, ◌≤◌, List, [], ◌∷◌, length}
use Rattle.iv_catalogue.specs.Catalogues.{Schema, IsWithinLimits, places_from}
use Rattle.iv_catalogue.specs.declared.catalogue.Catalogue.TheInside.{Inside}
use Rattle.iv_catalogue.specs.declared.catalogue.Table.{Table}
use Rattle.iv_catalogue.specs.declared.constraint.Constraint.{Constraint}
use Rattle.iv_catalogue.specs.declared.limits.TheConstants.{MOST_CONSTRAINTS}

-- for each of these tables, of which the first has this place, the places of its constraints
abbrev pub places_by_table : ℕ → List Table → List Constraint → List (List ℕ)
places_by_table table [] constraints = []
places_by_table table (t ∷ tables) constraints = places_from table 0 constraints ∷ places_by_table (table + 1) tables constraints

-- how many places there are in all
abbrev pub count_places : List (List ℕ) → ℕ
count_places [] = 0
count_places (places ∷ lists) = length places + count_places lists

-- no table has more constraints than it may
abbrev pub EachWithinLimit : List (List ℕ) → Type 0
EachWithinLimit [] = Unit {0}
EachWithinLimit (places ∷ lists) = (length places ≤ MOST_CONSTRAINTS) × EachWithinLimit lists

-- The lists are the places of each table's constraints; they are all constraints, and no table has more than it may.
pub record ArePlaces (tables : List Table) (constraints : List Constraint) (lists : List (List ℕ)) : Type 0 where
  pub places : lists ≡ places_by_table 0 tables constraints
  pub all : count_places lists ≡ length constraints
  pub few : EachWithinLimit lists

-- the schema that a catalogue keeps
abbrev pub schema_of : Inside → Schema
schema_of c = record { tables = c.tables; constraints = c.constraints; triggers = c.triggers; created = c.created }

-- What holds of a catalogue.
abbrev pub Kept : Inside → Type 0
Kept c = IsWithinLimits (schema_of c) × ArePlaces c.tables c.constraints c.constraint_places.items
