-- When a constraint fits the tables: the columns that it names are there, its condition suits them, and a foreign key pairs columns of
-- one type ("Table constraint definition", "Referential constraint definition").
use Rattle.std.specs.Prelude.{◌≡◌, ℕ, ◌<◌, ◌≤◌, ◌==◌, Bool, true, false, ◌&&◌, List, [], ◌∷◌, ◌++◌, length, map, zip, Option, Some, None, slice_get, nat_lt}
use Rattle.std.specs.List.{list_all}
use Rattle.iv_laws_fitting.specs.Types.{Kind, Table, Constraint, ForeignKey, Rule}
use Rattle.iv_laws_fitting.specs.Types.kind.{Integer, Varchar}
use Rattle.iv_laws_fitting.specs.Types.rule
use Rattle.iv_expr.specs.Suiting.{Shape, suits}
use Rattle.iv_catalogue.specs.Catalogues.{Schema, AllOn, has_constraint, has_table, constraint_places}
use Rattle.iv_catalogue.specs.Names.{has_repeated}
use Rattle.iv_catalogue.specs.declared.limits.TheConstants.{MOST_CONSTRAINTS, MOST_TABLES}
use Rattle.iv_machine.specs.ReferentialActions.{foreign_key}
use Rattle.iv_store.specs.Stores.{has_key}
use Rattle.iv_laws_fitting.specs.PlanShapes.{table_kinds, is_there, table_suits, trigger_suits}

-- a place of one of these columns
abbrev pub is_place : List Kind → ℕ → Bool
is_place kinds place = nat_lt place (length kinds)

-- a CHECK sees a row of its table and nothing else
abbrev pub check_shape : List Kind → Shape
check_shape kinds = record { ranges = kinds ∷ []; old = None; new = None; transition = []; tables = λ t. [] }

-- two columns that are there have one type, length included
abbrev pub same_kind : Option Kind → Option Kind → Bool
same_kind (Some Integer) (Some Integer) = true
same_kind (Some (Varchar m)) (Some (Varchar n)) = m == n
same_kind _ _ = false

abbrev pub pair_suits : List Kind → List Kind → ℕ × ℕ → Bool
pair_suits kinds others p = same_kind (slice_get kinds p.0) (slice_get others p.1)

-- a foreign key from columns of these kinds to columns of those
abbrev pub pairs_suit : List Kind → List Kind → ForeignKey → Bool
pairs_suit kinds others fk = (length fk.columns == length fk.key) && list_all (pair_suits kinds others) (zip fk.columns fk.key)

abbrev pub rule_suits : List Table → List Kind → Rule → Bool
rule_suits tables kinds (rule.NotNull column) = is_place kinds column
rule_suits tables kinds (rule.Unique nulls columns) = list_all (is_place kinds) columns
rule_suits tables kinds (rule.PrimaryKey columns) = list_all (is_place kinds) columns
rule_suits tables kinds (rule.Check c) = suits (check_shape kinds) c
rule_suits tables kinds (rule.ForeignKey fk) = is_there tables fk.referenced && pairs_suit kinds (table_kinds tables fk.referenced) fk

abbrev pub constraint_suits : List Table → Constraint → Bool
constraint_suits tables k = is_there tables k.table && rule_suits tables (table_kinds tables k.table) k.rule

-- the key that a foreign key names is among these constraints
abbrev pub has_named_key : List Constraint → Constraint → Bool
has_named_key constraints k = has_key constraints (foreign_key k.rule)

-- A new table and its constraints fit: they suit, and all holds that adding them to the catalogue asks for.
pub record TableFits (schema : Schema) (table : Table) (constraints : List Constraint) : Type 0 where
  pub room : length schema.tables < MOST_TABLES
  pub few : length constraints ≤ MOST_CONSTRAINTS
  pub own : AllOn (length schema.tables) constraints
  pub free : has_table schema table.name ≡ false
  pub names : has_repeated (map (λ k. k.name) schema.constraints) (map (λ k. k.name) constraints) ≡ false
  pub suit : table_suits table ≡ true
  pub rules : list_all (constraint_suits (schema.tables ++ table ∷ [])) constraints ≡ true
  pub keys : list_all (has_named_key (schema.constraints ++ constraints)) constraints ≡ true

-- A new constraint of a table that is there fits.
pub record ConstraintFits (schema : Schema) (k : Constraint) : Type 0 where
  pub there : k.table < length schema.tables
  pub few : length (constraint_places schema k.table) < MOST_CONSTRAINTS
  pub free : has_constraint schema k.name ≡ false
  pub suits : constraint_suits schema.tables k ≡ true
  pub key : has_named_key (schema.constraints ++ k ∷ []) k ≡ true

-- All that a schema has suits its tables.
pub record SchemaSuits (schema : Schema) : Type 0 where
  pub tables : list_all table_suits schema.tables ≡ true
  pub constraints : list_all (constraint_suits schema.tables) schema.constraints ≡ true
  pub triggers : list_all (trigger_suits schema.tables) schema.triggers ≡ true
