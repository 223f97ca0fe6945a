-- What a dump is: statements that make the tables of a database with their rows, its constraints and its triggers ("Table definition",
-- "Insert statement", "Add table constraint definition", "Trigger definition").
use Rattle.std.specs.Prelude.{◌≡◌, ℕ, ◌==◌, Bool, false, not, ◌&&◌, ◌||◌, List, [], ◌∷◌, ◌++◌, filter, flat_map, map, slice_get, Some, None, unwrap_or}
use Rattle.std.specs.List.{list_any}
use Rattle.iv_expr.specs.Scopes.{contents, table_rows}
use Rattle.iv_catalogue.specs.Catalogues.{Schema, table_named}
use Rattle.iv_machine.specs.Machine.{State}
use Rattle.iv_restate.specs.Statements.{create_table, add_constraint, insert_rows}
use Rattle.iv_restate.specs.TableLaws.{IsOfTable}
use Rattle.iv_restate.specs.Triggers.{CreatesTrigger}
use Rattle.iv_dump.specs.Types.{Value, Statement, Table, Constraint, Trigger}
use Rattle.iv_dump.specs.Types.statement
use Rattle.iv_dump.specs.Types.rule
use Rattle.iv_dump.specs.Scripts.{AreScripts}

-- ---- parts of a dump

-- the rows of an INSERT, which has one at least
pub record Batch : Type 0 where
  pub first : List Value
  pub more : List (List Value)

abbrev pub batch_rows : Batch → List (List Value)
batch_rows b = b.first ∷ b.more

-- a table that is created with constraints and then gets its rows, or a constraint that is added
pub data Part : Type 0 where
  created : Table → List Constraint → List Batch → Part
  added : Constraint → Part

-- INSERT, with a COMMIT after it
abbrev pub batch_statements : List ℕ → Batch → List Statement
batch_statements name b = insert_rows name (batch_rows b) ∷ statement.Commit ∷ []

-- CREATE TABLE and INSERTs, or ALTER TABLE; the tables are those of the catalogue
abbrev pub part_statements : List Table → Part → List Statement
part_statements tables (created t constraints batches) = create_table tables t constraints ∷ flat_map (batch_statements t.name) batches
part_statements tables (added k) = elim (add_constraint tables k) [ Some s ↦ s ∷ [] | None ↦ [] ]

-- the table that a part makes, its rows, and the constraints that a part makes
abbrev pub part_tables : Part → List Table
part_tables (created t constraints batches) = t ∷ []
part_tables (added k) = []

abbrev pub part_rows : Part → List (List (List Value))
part_rows (created t constraints batches) = flat_map batch_rows batches ∷ []
part_rows (added k) = []

abbrev pub part_constraints : Part → List Constraint
part_constraints (created t constraints batches) = constraints
part_constraints (added k) = k ∷ []

-- the constraints are of this table, which stands at their place
abbrev pub AreOf : List Table → Table → List Constraint → Type 0
AreOf tables t [] = Unit {0}
AreOf tables t (k ∷ constraints) = (slice_get tables k.table ≡ Some t) × AreOf tables t constraints

-- CREATE TABLE has only constraints of its table, and ALTER TABLE adds no NOT NULL
abbrev pub IsPart : List Table → Part → Type 0
IsPart tables (created t constraints batches) = AreOf tables t constraints
IsPart tables (added k) = IsOfTable k.rule

abbrev pub AreParts : List Table → List Part → Type 0
AreParts tables [] = Unit {0}
AreParts tables (p ∷ parts) = IsPart tables p × AreParts tables parts

-- ---- the order of constraints

-- a foreign key that refers to its own table
abbrev pub is_own_key : Constraint → Bool
is_own_key k = elim k.rule [ rule.ForeignKey f ↦ f.referenced == k.table | _ ↦ false ]

abbrev pub is_other : Constraint → Bool
is_other k = not (is_own_key k)

-- a NOT NULL of this table
abbrev pub is_null_in : ℕ → Constraint → Bool
is_null_in table k = elim k.rule [ rule.NotNull place ↦ k.table == table | _ ↦ false ]

-- a NOT NULL comes after a foreign key of its table that refers to this table
abbrev pub has_null_after_key : List Constraint → Bool
has_null_after_key [] = false
has_null_after_key (k ∷ constraints) = (is_own_key k && list_any (is_null_in k.table) constraints) || has_null_after_key constraints

-- Each constraint is made once, in the order of creation. Only if a NOT NULL comes after a foreign key to its own table may such keys change
-- places with other constraints.
pub record AreMade (constraints made : List Constraint) : Type 0 where
  pub others : filter is_other made ≡ filter is_other constraints
  pub own_keys : filter is_own_key made ≡ filter is_own_key constraints
  pub in_order : has_null_after_key constraints ≡ false → made ≡ constraints

-- ---- dumps

-- a CREATE TRIGGER of each of these triggers, in their order
abbrev pub CreateTriggers : List Table → List Trigger → List Statement → Type 0
CreateTriggers tables [] [] = Unit {0}
CreateTriggers tables [] (s ∷ statements) = ⊥
CreateTriggers tables (t ∷ triggers) [] = ⊥
CreateTriggers tables (t ∷ triggers) (s ∷ statements) = CreatesTrigger tables t s × CreateTriggers tables triggers statements

-- Statements that make the tables of a catalogue, each with these rows, its constraints, and then its triggers.
pub record IsDump (schema : Schema) (rows : List (List (List Value))) (statements : List Statement) : Type 0 where
  pub parts : List Part
  pub triggers : List Statement
  pub written : statements ≡ flat_map (part_statements schema.tables) parts ++ triggers
  pub formed : AreParts schema.tables parts
  pub tables : flat_map part_tables parts ≡ schema.tables
  pub contents : flat_map part_rows parts ≡ rows
  pub constraints : AreMade schema.constraints (flat_map part_constraints parts)
  pub last : CreateTriggers schema.tables schema.triggers triggers

-- the rows of the table that has this name, in the order of their numbers
abbrev pub rows_named : State → List ℕ → List (List Value)
rows_named s name = contents (table_rows s.database.rows (unwrap_or (table_named s.schema name) 0))

-- the rows of each table
abbrev pub rows_of : State → List (List (List Value))
rows_of s = map (λ (t : Table). rows_named s t.name) s.schema.tables

-- A dump of what there is in this state.
abbrev pub IsDumpOf : State → List Statement → Type 0
IsDumpOf s statements = IsDump s.schema (rows_of s) statements

-- Scripts that are the statements of a dump.
pub record AreDump (s : State) (scripts : List (List ℕ)) : Type 0 where
  pub statements : List Statement
  pub dump : IsDumpOf s statements
  pub scripts_are : AreScripts statements scripts
