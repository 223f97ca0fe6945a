-- Worked statements: which rule each breaks first, over the catalogue of the worked statements of `iv_resolution`. The SQL is above each.
use Rattle.std.specs.Prelude.{◌≡◌, ℕ, true, false, List, [], ◌∷◌, codes, Some, None}
use Rattle.iv_expr.specs.declared.tree.Comparison.TheVariants.{Equal}
use Rattle.iv_expr.specs.declared.tree.Side.TheVariants.{Old, New}
use Rattle.iv_syntax.specs.declared.tree.Condition.TheVariants as condition
use Rattle.iv_syntax.specs.declared.table.ColumnRule.TheVariants as column_rule
use Rattle.iv_syntax.specs.declared.table.ColumnType.TheVariants as type
use Rattle.iv_syntax.specs.declared.table.ConstraintTime.{ConstraintTime}
use Rattle.iv_syntax.specs.declared.table.Literal.TheVariants as literal
use Rattle.iv_syntax.specs.declared.table.NullTreatment.TheVariants.{Distinct}
use Rattle.iv_syntax.specs.declared.table.References.{References}
use Rattle.iv_syntax.specs.declared.table.TableElement.{TableElement}
use Rattle.iv_syntax.specs.declared.table.TableElement.TheVariants as element
use Rattle.iv_syntax.specs.declared.table.TableRule.{TableRule}
use Rattle.iv_syntax.specs.declared.table.TableRule.TheVariants as table_rule
use Rattle.iv_syntax.specs.declared.statement.ConstraintMode.TheVariants as mode
use Rattle.iv_syntax.specs.declared.statement.Statement.{Statement}
use Rattle.iv_syntax.specs.declared.statement.Statement.TheVariants as statement
use Rattle.iv_syntax.specs.declared.trigger.ActionTime.{ActionTime}
use Rattle.iv_syntax.specs.declared.trigger.ActionTime.TheVariants as time
use Rattle.iv_syntax.specs.declared.trigger.Granularity.{Granularity}
use Rattle.iv_syntax.specs.declared.trigger.Granularity.TheVariants as granularity
use Rattle.iv_syntax.specs.declared.trigger.Referencing.{Referencing}
use Rattle.iv_syntax.specs.declared.trigger.TransitionName.TheVariants as what
use Rattle.iv_syntax.specs.declared.trigger.TriggerAction.{TriggerAction}
use Rattle.iv_syntax.specs.declared.trigger.TriggerAction.TheVariants as action
use Rattle.iv_syntax.specs.declared.trigger.TriggerEvent.{TriggerEvent}
use Rattle.iv_syntax.specs.declared.trigger.TriggerEvent.TheVariants as event
use Rattle.iv_resolution.specs.Items.{constraint_item, generated_item}
use Rattle.iv_resolution.specs.Worked.{a, b, k, p, t, w, z, tables, one, from, any_time, defined, constrained, named, create, to_table, item}
use Rattle.iv_resolve_reasons.specs.SchemaFaults.{pair_count, pair_types, no_reliable_key, no_primary_key, deferrable_primary_key, columnless_table, unfit_default, second_primary_key, contradictory_time, exists_in_check, reference_at_fault}
use Rattle.iv_resolve_reasons.specs.SchemaFaults.{item_again, side_without_rows, row_of_statement, table_before, change_before, set_after, set_of_statement, set_of_old, schema_fault}

-- a table constraint without a name that is checked at this time
abbrev pub timed : ConstraintTime → TableRule → TableElement
timed at r = element.Constraint (record { name = None; rule = r; time = at })

abbrev pub to_columns : List ℕ → List (List ℕ) → References
to_columns table columns = record { table = table; columns = Some columns; matching = None; on_delete = None; on_update = None }

abbrev pub trigger_with : ActionTime → TriggerEvent → List Referencing → Granularity → List TriggerAction → Statement
trigger_with at e items each body =
    statement.CreateTrigger (record { name = codes "R"; time = at; event = e; columns = []; table = t; referencing = items; granularity = each; when = None; body = body })

abbrev pub delete_all : TriggerAction
delete_all = action.Delete (record { table = t; filter = None })

abbrev pub signal : TriggerAction
signal = action.Signal (codes "x")

-- The catalogue is that of CREATE TABLE t (a INT, b VARCHAR(2)); CREATE TABLE p (k INT PRIMARY KEY);
pub record WorkedRules : Type 0 where
  -- CREATE TABLE w (a INT PRIMARY KEY REFERENCES p);
  pub no_rule : schema_fault tables (create (defined a type.Integer None (column_rule.PrimaryKey ∷ column_rule.References (to_table p) ∷ []) ∷ [])) ≡ None
  -- CREATE TABLE w (CHECK (1 = 1));
  pub no_columns : schema_fault tables (create (constrained (table_rule.Check (condition.Compare Equal one one)) ∷ [])) ≡ Some (columnless_table w)
  -- CREATE TABLE w (a INT DEFAULT 1, b VARCHAR(2) DEFAULT 1);
  pub second_default :
      schema_fault tables (create (defined a type.Integer (Some (literal.Number None 1)) [] ∷ defined b (type.Varchar 2) (Some (literal.Number None 1)) [] ∷ []))
      ≡ Some (unfit_default b (type.Varchar 2) (literal.Number None 1))
  -- CREATE TABLE w (a INT PRIMARY KEY NOT NULL, PRIMARY KEY (a), CONSTRAINT z PRIMARY KEY (a));
  pub second_of_three :
      schema_fault tables (create (defined a type.Integer None (column_rule.PrimaryKey ∷ column_rule.NotNull ∷ []) ∷ constrained (table_rule.PrimaryKey (a ∷ [])) ∷ named z (table_rule.PrimaryKey (a ∷ [])) ∷ []))
      ≡ Some (second_primary_key (generated_item w 3))
  -- CREATE TABLE w (a INT NOT NULL, UNIQUE (a) NOT DEFERRABLE INITIALLY DEFERRED);
  pub never_and_deferred :
      schema_fault tables (create (defined a type.Integer None (column_rule.NotNull ∷ []) ∷ timed (record { deferrable = Some false; initially = Some mode.Deferred }) (table_rule.Unique Distinct (a ∷ [])) ∷ []))
      ≡ Some (contradictory_time (generated_item w 2))
  -- CREATE TABLE w (a INT, CONSTRAINT z CHECK (EXISTS (SELECT * FROM p)));
  pub exists_in_a_check :
      schema_fault tables (create (defined a type.Integer None [] ∷ named z (table_rule.Check (condition.Exists (from p))) ∷ [])) ≡ Some (exists_in_check (constraint_item z))
  -- CREATE TABLE w (a INT REFERENCES t);
  pub table_without_primary_key :
      schema_fault tables (create (defined a type.Integer None (column_rule.References (to_table t) ∷ []) ∷ [])) ≡ Some (reference_at_fault (generated_item w 1) t no_primary_key)
  -- CREATE TABLE w (PRIMARY KEY (a) DEFERRABLE, a INT, b INT REFERENCES w);
  pub own_key_is_deferrable :
      schema_fault tables (create (timed (record { deferrable = Some true; initially = None }) (table_rule.PrimaryKey (a ∷ [])) ∷ defined a type.Integer None [] ∷ defined b type.Integer None (column_rule.References (to_table w) ∷ []) ∷ []))
      ≡ Some (reference_at_fault (generated_item w 2) w deferrable_primary_key)
  -- CREATE TABLE w (a INT, b VARCHAR(2), CONSTRAINT z FOREIGN KEY (a, b) REFERENCES p);
  pub two_columns_to_one :
      schema_fault tables (create (defined a type.Integer None [] ∷ defined b (type.Varchar 2) None [] ∷ named z (table_rule.ForeignKey (a ∷ b ∷ []) (to_table p)) ∷ []))
      ≡ Some (reference_at_fault (constraint_item z) p (pair_count 2 1))
  -- CREATE TABLE w (a INT, b VARCHAR(3), CONSTRAINT z FOREIGN KEY (a, b) REFERENCES t (a, b));
  pub length_differs :
      schema_fault tables (create (defined a type.Integer None [] ∷ defined b (type.Varchar 3) None [] ∷ named z (table_rule.ForeignKey (a ∷ b ∷ []) (to_columns t (a ∷ b ∷ []))) ∷ []))
      ≡ Some (reference_at_fault (constraint_item z) t (pair_types b (type.Varchar 3) b (type.Varchar 2)))
  -- CREATE TABLE w (a INT REFERENCES t (a));
  pub no_key :
      schema_fault tables (create (defined a type.Integer None (column_rule.References (to_columns t (a ∷ [])) ∷ []) ∷ [])) ≡ Some (reference_at_fault (generated_item w 1) t (no_reliable_key (a ∷ [])))
  -- ALTER TABLE p ADD PRIMARY KEY (k);
  pub primary_key_added_again : schema_fault tables (statement.AlterTable p (record { name = None; rule = table_rule.PrimaryKey (k ∷ []); time = any_time })) ≡ Some (second_primary_key (generated_item p 2))
  -- CREATE TRIGGER r AFTER UPDATE ON t REFERENCING NEW TABLE AS z OLD AS a NEW TABLE AS w FOR EACH ROW SIGNAL 'x';
  pub table_named_twice :
      schema_fault tables (trigger_with time.After event.Update (item New what.Table z ∷ item Old what.Row a ∷ item New what.Table w ∷ []) granularity.Row (signal ∷ [])) ≡ Some (item_again New what.Table)
  -- CREATE TRIGGER r AFTER INSERT ON t REFERENCING OLD AS z FOR EACH ROW SIGNAL 'x';
  pub insert_has_no_old_row :
      schema_fault tables (trigger_with time.After event.Insert (item Old what.Row z ∷ []) granularity.Row (signal ∷ [])) ≡ Some (side_without_rows z Old event.Insert)
  -- CREATE TRIGGER r AFTER INSERT ON t REFERENCING NEW AS z FOR EACH STATEMENT SIGNAL 'x';
  pub row_of_a_statement :
      schema_fault tables (trigger_with time.After event.Insert (item New what.Row z ∷ []) granularity.Statement (signal ∷ [])) ≡ Some (row_of_statement z)
  -- CREATE TRIGGER r BEFORE UPDATE ON t REFERENCING NEW AS w NEW TABLE AS z FOR EACH ROW SIGNAL 'x';
  pub transition_table_before :
      schema_fault tables (trigger_with time.Before event.Update (item New what.Row w ∷ item New what.Table z ∷ []) granularity.Row (signal ∷ [])) ≡ Some (table_before z)
  -- CREATE TRIGGER r BEFORE INSERT ON t SIGNAL 'x'; DELETE FROM t;
  pub delete_before : schema_fault tables (trigger_with time.Before event.Insert [] granularity.Statement (signal ∷ delete_all ∷ [])) ≡ Some (change_before 2)
  -- CREATE TRIGGER r AFTER INSERT ON t REFERENCING NEW AS z FOR EACH ROW DELETE FROM t; SET z.a = 1;
  pub set_in_an_after_trigger :
      schema_fault tables (trigger_with time.After event.Insert (item New what.Row z ∷ []) granularity.Row (delete_all ∷ action.Set z a one ∷ [])) ≡ Some (set_after 2)
  -- CREATE TRIGGER r BEFORE INSERT ON t SET z.a = 1;
  pub set_of_a_statement : schema_fault tables (trigger_with time.Before event.Insert [] granularity.Statement (action.Set z a one ∷ [])) ≡ Some (set_of_statement 1)
  -- CREATE TRIGGER r BEFORE UPDATE ON t REFERENCING NEW AS w OLD AS z FOR EACH ROW SET w.a = 1; SET z.b = 1;
  pub old_is_set :
      schema_fault tables (trigger_with time.Before event.Update (item New what.Row w ∷ item Old what.Row z ∷ []) granularity.Row (action.Set w a one ∷ action.Set z b one ∷ [])) ≡ Some (set_of_old 2 z b)
