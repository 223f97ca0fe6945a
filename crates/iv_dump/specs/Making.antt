-- How a dump is written, part by part.
use Rattle.std.specs.Prelude.{◌≡◌, ◌⊎◌, ℕ, suc, ◌==◌, false, if◌then◌else◌, List, [], ◌∷◌, ◌++◌, filter, flat_map, map}
use Rattle.iv_restate.specs.Statements.{create_table}
use Rattle.iv_dump.specs.Types.{Value, Statement, Table, Constraint, Trigger}
use Rattle.iv_dump.specs.Scripts.{joined, texts_of}
use Rattle.iv_dump.specs.Dumps.{AreParts, Batch, CreateTriggers, Part, batch_rows, batch_statements, has_null_after_key, is_other, is_own_key, part_constraints, part_rows, part_statements, part_tables}

-- the scripts that are full, and the one after them
abbrev pub Filled : Type 0
Filled = List (List ℕ) × List ℕ

-- A text is at the end of the last script, or is a further one.
abbrev pub IsPushed : List ℕ → Filled → Filled → Type 0
IsPushed text old new = (new ≡ (old.0, old.1 ++ text)) ⊎ (new ≡ (old.0 ++ old.1 ∷ [], text))

-- The scripts are the texts of these statements, and none is cut in two.
pub record Have (scripts : Filled) (statements : List Statement) : Type 0 where
  pub parts : List (List Statement)
  pub rest : List Statement
  pub all : statements ≡ joined parts ++ rest
  pub full : scripts.0 ≡ map texts_of parts
  pub last : scripts.1 ≡ texts_of rest

-- after whatever was there before, these statements
abbrev pub Adds : Filled → Filled → List Statement → Type 0
Adds old new statements = (before : List Statement) → Have old before → Have new (before ++ statements)

-- INSERTs of some of these rows; the others are left
pub record Inserts (name : List ℕ) (old new : Filled) (rows left : List (List Value)) : Type 0 where
  pub batches : List Batch
  pub adds : Adds old new (flat_map (batch_statements name) batches)
  pub split : rows ≡ flat_map batch_rows batches ++ left

-- CREATE TABLE of a table with these constraints, and then its rows
pub record Creates (tables : List Table) (t : Table) (old new : Filled) (constraints : List Constraint) (rows : List (List Value)) : Type 0 where
  pub middle : Filled
  pub table : Adds old middle (create_table tables t constraints ∷ [])
  pub inserts : Inserts t.name middle new rows []

-- how many of the constraints are of the table at this place before one of another table comes
abbrev pub own_count : ℕ → List Constraint → ℕ
own_count place [] = 0
own_count place (k ∷ constraints) = if k.table == place then suc (own_count place constraints) else 0

-- Parts that make these tables with these rows, and some of these constraints; the others are left.
pub record Makes (tables : List Table) (old new : Filled) (made : List Table) (rows : List (List (List Value))) (constraints left : List Constraint) : Type 0 where
  pub parts : List Part
  pub adds : Adds old new (flat_map (part_statements tables) parts)
  pub formed : AreParts tables parts
  pub made_are : flat_map part_tables parts ≡ made
  pub rows_are : flat_map part_rows parts ≡ rows
  pub taken : List Constraint
  pub split : constraints ≡ taken ++ left
  pub others : filter is_other (flat_map part_constraints parts) ≡ filter is_other taken
  pub own_keys : filter is_own_key (flat_map part_constraints parts) ≡ filter is_own_key taken
  pub in_order : has_null_after_key constraints ≡ false → flat_map part_constraints parts ≡ taken

-- CREATE TRIGGER of some of these triggers; the others are left.
pub record Triggers (tables : List Table) (old new : Filled) (triggers left : List Trigger) : Type 0 where
  pub taken : List Trigger
  pub statements : List Statement
  pub adds : Adds old new statements
  pub created : CreateTriggers tables taken statements
  pub split : triggers ≡ taken ++ left
