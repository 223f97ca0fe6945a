-- The columns of UPDATE OF. A caller of the library may give another event such a list, which no text does.
use Rattle.std.specs.Prelude.{◌≡◌, [], ◌∷◌, codes, Some, None}
use Rattle.iv_worked.specs.Words.event
use Rattle.iv_worked.specs.Words.time
use Rattle.iv_worked.specs.Words.granularity
use Rattle.iv_worked.specs.Words.cond
use Rattle.iv_worked.specs.Words.body
use Rattle.iv_worked.specs.Words.plan
use Rattle.iv_worked.specs.Words.schema_plan
use Rattle.iv_worked.specs.Words.cause.{Unknown, Duplicate, Limit}
use Rattle.iv_resolution.specs.Bound.{bound}
use Rattle.iv_resolution.specs.Resolution.{least}
use Rattle.iv_resolution.specs.Worked.{a, b, k, t, w, z}
use Rattle.iv_worked.specs.Words.{q, r, s, schema, of_columns}

pub record WorkedUpdateOf : Type 0 where
  -- CREATE TRIGGER r AFTER UPDATE OF a ON t SIGNAL 'x';
  pub column_of_the_table : least schema (of_columns r event.Update (a ∷ []) t) ≡ None
  -- CREATE TRIGGER r AFTER UPDATE OF b, a ON t SIGNAL 'x';
  pub all_columns_of_the_table : least schema (of_columns r event.Update (b ∷ a ∷ []) t) ≡ None
  -- CREATE TRIGGER r AFTER UPDATE OF w ON t SIGNAL 'x';
  pub no_column : least schema (of_columns r event.Update (w ∷ []) t) ≡ Some Unknown
  -- CREATE TRIGGER r AFTER UPDATE OF a, w ON t SIGNAL 'x';
  pub no_column_after_a_column : least schema (of_columns r event.Update (a ∷ w ∷ []) t) ≡ Some Unknown
  -- CREATE TRIGGER r AFTER UPDATE OF k ON t SIGNAL 'x';
  pub column_of_another_table : least schema (of_columns r event.Update (k ∷ []) t) ≡ Some Unknown
  -- CREATE TRIGGER r AFTER UPDATE OF a ON w SIGNAL 'x';
  pub column_of_no_table : least schema (of_columns r event.Update (a ∷ []) w) ≡ Some Unknown
  -- CREATE TRIGGER r AFTER UPDATE OF a, a ON t SIGNAL 'x';
  pub column_twice : least schema (of_columns r event.Update (a ∷ a ∷ []) t) ≡ Some Duplicate
  -- CREATE TRIGGER r AFTER UPDATE OF a, b, a ON t SIGNAL 'x';
  pub column_before_and_after : least schema (of_columns r event.Update (a ∷ b ∷ a ∷ []) t) ≡ Some Duplicate
  -- CREATE TRIGGER r AFTER UPDATE OF w, w ON t SIGNAL 'x';
  pub no_column_twice : least schema (of_columns r event.Update (w ∷ w ∷ []) t) ≡ Some Unknown
  -- CREATE TRIGGER r AFTER UPDATE OF a, a ON w SIGNAL 'x';
  pub column_of_no_table_twice : least schema (of_columns r event.Update (a ∷ a ∷ []) w) ≡ Some Unknown
  -- CREATE TRIGGER s AFTER UPDATE OF a ON t SIGNAL 'x';
  pub trigger_in_use : least schema (of_columns s event.Update (a ∷ []) t) ≡ Some Duplicate
  -- CREATE TRIGGER s AFTER UPDATE OF w ON t SIGNAL 'x';
  pub trigger_in_use_of_no_column : least schema (of_columns s event.Update (w ∷ []) t) ≡ Some Unknown
  -- CREATE TRIGGER r AFTER INSERT ON t SIGNAL 'x';
  pub insert_without_columns : least schema (of_columns r event.Insert [] t) ≡ None
  -- an INSERT with the list OF a
  pub insert_of_columns : least schema (of_columns r event.Insert (a ∷ []) t) ≡ Some Limit
  -- CREATE TRIGGER r AFTER DELETE ON t SIGNAL 'x';
  pub delete_without_columns : least schema (of_columns r event.Delete [] t) ≡ None
  -- a DELETE with the list OF a
  pub delete_of_columns : least schema (of_columns r event.Delete (a ∷ []) t) ≡ Some Limit
  -- an INSERT with the list OF w
  pub insert_of_no_column : least schema (of_columns r event.Insert (w ∷ []) t) ≡ Some Unknown
  -- a DELETE with the list OF a, a
  pub delete_of_a_column_twice : least schema (of_columns r event.Delete (a ∷ a ∷ []) t) ≡ Some Duplicate
  -- CREATE TRIGGER r AFTER UPDATE OF z, k ON q SIGNAL 'x';
  pub places_in_the_order_of_the_list :
      bound schema (of_columns r event.Update (z ∷ k ∷ []) q)
      ≡ plan.Schema (schema_plan.CreateTrigger (record {
        id = 1;
        name = r;
        table = 2;
        time = time.After;
        event = event.Update;
        columns = 3 ∷ 2 ∷ [];
        granularity = granularity.Statement;
        when = cond.Always;
        body = body.Signal (codes "x") ∷ [];
      }))
