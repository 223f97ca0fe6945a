-- Worked statements: which limit each is beyond first, over the catalogue of the worked statements of `iv_resolution`. The SQL is above each.
use Rattle.std.specs.Prelude.{◌≡◌, ℕ, zero, suc, List, [], ◌∷◌, codes, Some, None}
use Rattle.iv_syntax.specs.declared.table.ColumnRule.TheVariants as column_rule
use Rattle.iv_syntax.specs.declared.table.ColumnType.TheVariants as type
use Rattle.iv_syntax.specs.declared.table.NullTreatment.TheVariants.{Distinct}
use Rattle.iv_syntax.specs.declared.table.TableRule.TheVariants as table_rule
use Rattle.iv_syntax.specs.declared.statement.Statement.TheVariants as statement
use Rattle.iv_syntax.specs.declared.trigger.ActionTime.TheVariants as time
use Rattle.iv_syntax.specs.declared.trigger.Granularity.TheVariants as granularity
use Rattle.iv_syntax.specs.declared.trigger.TriggerAction.TheVariants as action
use Rattle.iv_syntax.specs.declared.trigger.TriggerEvent.TheVariants as event
use Rattle.iv_resolution.specs.Items.{constraint_item, generated_item}
use Rattle.iv_resolution.specs.Worked.{a, b, t, w, z, tables, any_time, defined, constrained, named, create}
use Rattle.iv_resolve_reasons.specs.Limits.{many_tables, many_columns, many_constraints, many_key_columns, no_characters, many_characters, many_triggers_ever, many_statements, no_text, limit_fault}

-- the same so many times
abbrev pub times : {A : Type 0} → ℕ → A → List A
times zero x = []
times (suc n) x = x ∷ times n x

-- The catalogue is that of CREATE TABLE t (a INT, b VARCHAR(2)); CREATE TABLE p (k INT PRIMARY KEY);
pub record WorkedLimits : Type 0 where
  -- CREATE TABLE w (a VARCHAR(4096));
  pub within : limit_fault tables (create (defined a (type.Varchar 4096) None [] ∷ [])) ≡ None
  -- CREATE TABLE w (a INT); after 64 tables
  pub table_65 : limit_fault (record tables { tables = times 64 (record { name = t; columns = [] }) }) (create (defined a type.Integer None [] ∷ [])) ≡ Some (many_tables 64 65)
  -- CREATE TABLE w (.. 34 columns ..);
  pub columns_34 : limit_fault tables (create (times 34 (defined a type.Integer None []))) ≡ Some (many_columns w 32 34)
  -- CREATE TABLE w (a INT .. 65 times NOT NULL ..);
  pub constraints_65 : limit_fault tables (create (defined a type.Integer None (times 65 column_rule.NotNull) ∷ [])) ≡ Some (many_constraints w 64 65)
  -- CREATE TABLE w (a VARCHAR(1), b VARCHAR(0));
  pub no_character : limit_fault tables (create (defined a (type.Varchar 1) None [] ∷ defined b (type.Varchar 0) None [] ∷ [])) ≡ Some (no_characters b)
  -- CREATE TABLE w (a VARCHAR(4097));
  pub character_4097 : limit_fault tables (create (defined a (type.Varchar 4097) None [] ∷ [])) ≡ Some (many_characters a 4096 4097)
  -- CREATE TABLE w (a INT NOT NULL, UNIQUE (.. 9 columns ..), CONSTRAINT z UNIQUE (.. 10 columns ..));
  pub key_of_9_columns :
      limit_fault tables (create (defined a type.Integer None (column_rule.NotNull ∷ []) ∷ constrained (table_rule.Unique Distinct (times 9 a)) ∷ named z (table_rule.Unique Distinct (times 10 a)) ∷ []))
      ≡ Some (many_key_columns (generated_item w 2) 8 9)
  -- ALTER TABLE t ADD CONSTRAINT z UNIQUE (.. 9 columns ..);
  pub added_key_of_9_columns :
      limit_fault tables (statement.AlterTable t (record { name = Some z; rule = table_rule.Unique Distinct (times 9 a); time = any_time })) ≡ Some (many_key_columns (constraint_item z) 8 9)
  -- CREATE TRIGGER r AFTER INSERT ON t .. 33 times SIGNAL 'x' ..;
  pub statements_33 :
      limit_fault tables (statement.CreateTrigger (record { name = codes "R"; time = time.After; event = event.Insert; columns = []; table = t; referencing = []; granularity = granularity.Statement; when = None; body = times 33 (action.Signal (codes "x")) }))
      ≡ Some (many_statements (codes "R") 32 33)
  -- the same after 4294967295 triggers
  pub trigger_ever :
      limit_fault (record tables { created = 4294967295 }) (statement.CreateTrigger (record { name = codes "R"; time = time.After; event = event.Insert; columns = []; table = t; referencing = []; granularity = granularity.Statement; when = None; body = times 33 (action.Signal (codes "x")) }))
      ≡ Some (many_triggers_ever 4294967295 4294967296)
  -- a DROP TRIGGER of the name r, in lower case
  pub lower_case : limit_fault tables (statement.DropTrigger (codes "r")) ≡ Some no_text
