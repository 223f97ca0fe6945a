-- What follows for every dump, by its statements.
use Rattle.std.specs.Prelude.{◌≡◌, ◌++◌, ℕ, Bool, true, false, List, [], ◌∷◌, flat_map, map, Option, Some, None}
use Rattle.std.specs.List.{list_all}
use Rattle.iv_syntax.specs.declared.statement.ConstraintMode.{ConstraintMode}
use Rattle.iv_syntax.specs.declared.statement.Insert.{Insert}
use Rattle.iv_syntax.specs.declared.statement.Insert.TheVariants as insert
use Rattle.iv_syntax.specs.declared.statement.InsertSource.TheVariants as source
use Rattle.iv_syntax.specs.declared.statement.ValueOrDefault.{ValueOrDefault}
use Rattle.iv_syntax.specs.declared.trigger.TriggerDefinition.{TriggerDefinition}
use Rattle.iv_catalogue.specs.Catalogues.{Schema}
use Rattle.iv_resolution.specs.Constraints.{WrittenConstraint, is_deferrable, initial_mode, table_constraint, written_constraints}
use Rattle.iv_restate.specs.Constraints.{written_name}
use Rattle.iv_restate.specs.Statements.{tuple_of}
use Rattle.iv_restate.specs.TableLaws.{AreInOrder}
use Rattle.iv_dump.specs.Types.{Value, Statement, Table, Constraint}
use Rattle.iv_dump.specs.Types.statement
use Rattle.iv_dump.specs.Dumps.{AreMade, IsDump, Part, added, created}

-- ---- triggers

abbrev pub is_trigger : Statement → Bool
is_trigger (statement.CreateTrigger t) = true
is_trigger _ = false

-- Triggers are created last: after a CREATE TRIGGER there are only others.
abbrev pub TriggersAreLast : Type 0
TriggersAreLast = (schema : Schema) (rows : List (List (List Value))) (before after : List Statement) (t : TriggerDefinition)
    → IsDump schema rows (before ++ statement.CreateTrigger t ∷ after) → list_all is_trigger after ≡ true

-- ---- rows

-- the rows that a statement inserts, each with the name of the table
abbrev pub inserted : Statement → List (List ℕ × List ValueOrDefault)
inserted (statement.Insert (insert.Rows name None (source.Values tuples))) = map (λ tuple. (name, tuple)) tuples
inserted _ = []

-- the rows of these tables
abbrev pub tuples_of : List Table → List (List (List Value)) → List (List ℕ × List ValueOrDefault)
tuples_of [] lists = []
tuples_of (t ∷ tables) [] = []
tuples_of (t ∷ tables) (rows ∷ lists) = map (λ (row : List Value). (t.name, tuple_of row)) rows ++ tuples_of tables lists

-- Each row of each table is inserted once, in their order, and no other.
abbrev pub RowsAreInserted : Type 0
RowsAreInserted = (schema : Schema) (rows : List (List (List Value))) (statements : List Statement) → IsDump schema rows statements
    → flat_map inserted statements ≡ tuples_of schema.tables rows

abbrev pub begins_with_commit : List Statement → Bool
begins_with_commit (statement.Commit ∷ statements) = true
begins_with_commit _ = false

-- An INSERT has a COMMIT after it.
abbrev pub InsertsAreCommitted : Type 0
InsertsAreCommitted = (schema : Schema) (rows : List (List (List Value))) (before after : List Statement) (i : Insert)
    → IsDump schema rows (before ++ statement.Insert i ∷ after) → begins_with_commit after ≡ true

-- ---- constraints

-- what is said of a constraint: its name, unless it is longer than a name may be, whether it is deferrable, and its mode when a transaction begins
pub record Said : Type 0 where
  pub name : Option (List ℕ)
  pub deferrable : Bool
  pub initially : ConstraintMode

abbrev pub said_by : WrittenConstraint → Said
said_by k = record { name = k.name; deferrable = is_deferrable k.time; initially = initial_mode k.time }

-- what a statement says of the constraints that it makes, in the order of its text
abbrev pub said : Statement → List Said
said (statement.CreateTable name elements) = map said_by (written_constraints elements)
said (statement.AlterTable table k) = said_by (table_constraint k) ∷ []
said _ = []

abbrev pub said_of : Constraint → Said
said_of k = record { name = written_name k.name; deferrable = k.deferrable; initially = k.initially }

-- the constraints of each CREATE TABLE are in the order that a text of it can have
abbrev pub EachInOrder : List Part → Type 0
EachInOrder [] = Unit {0}
EachInOrder (created t constraints batches ∷ parts) = AreInOrder 0 t.columns constraints × EachInOrder parts
EachInOrder (added k ∷ parts) = EachInOrder parts

-- Each constraint of the catalogue is made once, with its name and its mode, in the order of creation (`AreMade` has the exception).
abbrev pub ConstraintsAreSaid : Type 0
ConstraintsAreSaid = (schema : Schema) (rows : List (List (List Value))) (statements : List Statement) (d : IsDump schema rows statements)
    → EachInOrder d.parts → (made : List Constraint) × AreMade schema.constraints made × (flat_map said statements ≡ map said_of made)
