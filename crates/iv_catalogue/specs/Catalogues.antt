-- Catalogues: the tables, constraints and triggers of a database, each in the order of creation, and what a schema statement makes of them.
use Rattle.std.specs.Prelude.{◌≡◌, ℕ, ◌+◌, ◌≤◌, ◌<◌, ◌==◌, Bool, not, if◌then◌else◌, List, [], ◌++◌, ◌∷◌, length, filter, find, position, Option, option_map}
use Rattle.std.specs.List.{list_any}
use Rattle.std.specs.Str.{bytes_eq}
use Rattle.iv_catalogue.specs.declared.catalogue.Table.{Table}
use Rattle.iv_catalogue.specs.declared.constraint.Constraint.{Constraint}
use Rattle.iv_catalogue.specs.declared.limits.TheConstants.{MOST_BODY_STATEMENTS, MOST_TABLES, MOST_TRIGGERS}
use Rattle.iv_catalogue.specs.declared.plan.SchemaPlan.{SchemaPlan}
use Rattle.iv_catalogue.specs.declared.plan.SchemaPlan.TheVariants.{CreateTable, AddConstraint, CreateTrigger, DropTrigger}
use Rattle.iv_catalogue.specs.declared.plan.Trigger.{Trigger}

-- The tables and the constraints have their places as numbers. A trigger has a number of its own, which isn't given again if the trigger is
-- dropped; so the catalogue keeps how many triggers were ever created.
pub record Schema : Type 0 where
  pub tables : List Table
  pub constraints : List Constraint
  pub triggers : List Trigger
  pub created : ℕ

-- nothing is there
abbrev pub empty_schema : Schema
empty_schema = record { tables = []; constraints = []; triggers = []; created = 0 }

-- ---- schema statements ("Table definition", "Add table constraint definition", "Trigger definition", "Drop trigger statement")

-- the schema with a table more, and its constraints
abbrev pub with_table : Schema → Table → List Constraint → Schema
with_table c table constraints = record c { tables = c.tables ++ table ∷ []; constraints = c.constraints ++ constraints }

-- the schema with a constraint more
abbrev pub with_constraint : Schema → Constraint → Schema
with_constraint c constraint = record c { constraints = c.constraints ++ constraint ∷ [] }

-- the schema with a trigger more: its number is how many were created before it
abbrev pub with_trigger : Schema → Trigger → Schema
with_trigger c trigger = record c { triggers = c.triggers ++ record trigger { id = c.created } ∷ []; created = c.created + 1 }

-- the schema without the trigger of this number
abbrev pub without_trigger : Schema → ℕ → Schema
without_trigger c id = record c { triggers = filter (λ t. not (t.id == id)) c.triggers }

-- the schema after a schema statement
abbrev pub after : Schema → SchemaPlan → Schema
after c (CreateTable table constraints) = with_table c table constraints
after c (AddConstraint constraint) = with_constraint c constraint
after c (CreateTrigger trigger) = with_trigger c trigger
after c (DropTrigger id) = without_trigger c id

-- ---- names

-- a table has the name
abbrev pub has_table : Schema → List ℕ → Bool
has_table c name = list_any (λ t. bytes_eq name t.name) c.tables

-- a constraint has the name
abbrev pub has_constraint : Schema → List ℕ → Bool
has_constraint c name = list_any (λ k. bytes_eq name k.name) c.constraints

-- a trigger has the name
abbrev pub has_trigger : Schema → List ℕ → Bool
has_trigger c name = list_any (λ t. bytes_eq name t.name) c.triggers

-- the place of the table of this name
abbrev pub table_named : Schema → List ℕ → Option ℕ
table_named c name = position (λ t. bytes_eq name t.name) c.tables

-- the place of the constraint of this name
abbrev pub constraint_named : Schema → List ℕ → Option ℕ
constraint_named c name = position (λ k. bytes_eq name k.name) c.constraints

-- the number of the trigger of this name
abbrev pub trigger_named : Schema → List ℕ → Option ℕ
trigger_named c name = option_map (λ t. t.id) (find (λ t. bytes_eq name t.name) c.triggers)

-- the trigger of this number
abbrev pub trigger_numbered : Schema → ℕ → Option Trigger
trigger_numbered c id = find (λ t. t.id == id) c.triggers

-- ---- the constraints of a table

-- each constraint is one of this table
abbrev pub AllOn : ℕ → List Constraint → Type 0
AllOn table [] = Unit {0}
AllOn table (k ∷ constraints) = (k.table ≡ table) × AllOn table constraints

-- each constraint is one of the first tables, so many of them
abbrev pub AllWithinTables : ℕ → List Constraint → Type 0
AllWithinTables count [] = Unit {0}
AllWithinTables count (k ∷ constraints) = (k.table < count) × AllWithinTables count constraints

-- the places of a table's constraints among these, of which the first has this place
abbrev pub places_from : ℕ → ℕ → List Constraint → List ℕ
places_from table place [] = []
places_from table place (k ∷ constraints) =
    if k.table == table then place ∷ places_from table (place + 1) constraints else places_from table (place + 1) constraints

-- the places of a table's constraints, in the order of creation
abbrev pub constraint_places : Schema → ℕ → List ℕ
constraint_places c table = places_from table 0 c.constraints

-- The schema is the one before it with this table and its constraints, and the constraints before it are of other tables.
pub record AfterTable (before : Schema) (table : Table) (constraints : List Constraint) (c : Schema) : Type 0 where
  pub added : c ≡ with_table before table constraints
  pub own : AllOn (length before.tables) constraints
  pub others : AllWithinTables (length before.tables) before.constraints

-- ---- what is true of every catalogue

-- the numbers of triggers rise, from this one on, and stay below the other
abbrev pub NumbersRise : ℕ → List Trigger → ℕ → Type 0
NumbersRise low [] created = low ≤ created
NumbersRise low (t ∷ triggers) created = (low ≤ t.id) × NumbersRise (t.id + 1) triggers created

-- The triggers' numbers are distinct and below the number of triggers ever created.
abbrev pub TriggersNumbered : Schema → Type 0
TriggersNumbered c = NumbersRise 0 c.triggers c.created

-- no body has more statements than it may
abbrev pub BodiesWithinLimit : List Trigger → Type 0
BodiesWithinLimit [] = Unit {0}
BodiesWithinLimit (t ∷ triggers) = (length t.body ≤ MOST_BODY_STATEMENTS) × BodiesWithinLimit triggers

-- The limits on tables, triggers and their bodies, each constraint is of a table that is there, and triggers have numbers of their own.
pub record IsWithinLimits (c : Schema) : Type 0 where
  pub tables : length c.tables ≤ MOST_TABLES
  pub constraints : AllWithinTables (length c.tables) c.constraints
  pub triggers : length c.triggers ≤ MOST_TRIGGERS
  pub bodies : BodiesWithinLimit c.triggers
  pub numbers : TriggersNumbered c
