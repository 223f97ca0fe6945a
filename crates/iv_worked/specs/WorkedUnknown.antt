-- Unknown: names that name nothing, each with a statement beside it whose names all name something.
use Rattle.std.specs.Prelude.{◌≡◌, [], ◌∷◌, codes, Some, None}
use Rattle.iv_worked.specs.Words.comparison.{Equal}
use Rattle.iv_worked.specs.Words.side.{New}
use Rattle.iv_worked.specs.Words.type
use Rattle.iv_worked.specs.Words.column_rule
use Rattle.iv_worked.specs.Words.table_rule
use Rattle.iv_worked.specs.Words.nulls.{Distinct}
use Rattle.iv_worked.specs.Words.mode
use Rattle.iv_worked.specs.Words.constraints
use Rattle.iv_worked.specs.Words.given
use Rattle.iv_worked.specs.Words.select_list as list
use Rattle.iv_worked.specs.Words.source
use Rattle.iv_worked.specs.Words.insert
use Rattle.iv_worked.specs.Words.select
use Rattle.iv_worked.specs.Words.statement
use Rattle.iv_worked.specs.Words.expression
use Rattle.iv_worked.specs.Words.condition
use Rattle.iv_worked.specs.Words.time
use Rattle.iv_worked.specs.Words.event
use Rattle.iv_worked.specs.Words.granularity
use Rattle.iv_worked.specs.Words.transition as what
use Rattle.iv_worked.specs.Words.action
use Rattle.iv_worked.specs.Words.sign.{Plus, Minus}
use Rattle.iv_worked.specs.Words.cause.{Unknown, SchemaFault}
use Rattle.iv_syntax.specs.Trees.{group, signed, product, sum, enclosed, negated, both, either, exists_where}
use Rattle.iv_resolution.specs.Resolution.{least}
use Rattle.iv_resolution.specs.Worked.{a, b, k, p, t, w, z, column, of_range, one, text, from, called, any_time, item, insert_into, select_of, delete_where}
use Rattle.iv_resolution.specs.Worked.{defined, constrained, create, to_table}
use Rattle.iv_worked.specs.Words.{n, o, r, s, schema, sets, update_of, delete_of, refers, constraint, trigger_of}

pub record WorkedUnknown : Type 0 where
  -- ---- CREATE TABLE
  -- CREATE TABLE w (a INT, UNIQUE (z));
  pub unique_of_nothing : least schema (create (defined a type.Integer None [] ∷ constrained (table_rule.Unique Distinct (z ∷ [])) ∷ [])) ≡ Some Unknown
  -- CREATE TABLE w (a INT, UNIQUE (a));
  pub unique_of_a_column : least schema (create (defined a type.Integer None [] ∷ constrained (table_rule.Unique Distinct (a ∷ [])) ∷ [])) ≡ None
  -- CREATE TABLE w (a INT, PRIMARY KEY (a, z));
  pub primary_key_of_nothing : least schema (create (defined a type.Integer None [] ∷ constrained (table_rule.PrimaryKey (a ∷ z ∷ [])) ∷ [])) ≡ Some Unknown
  -- CREATE TABLE w (a INT, z INT, PRIMARY KEY (a, z));
  pub primary_key_of_columns :
      least schema (create (defined a type.Integer None [] ∷ defined z type.Integer None [] ∷ constrained (table_rule.PrimaryKey (a ∷ z ∷ [])) ∷ [])) ≡ None
  -- CREATE TABLE w (a INT, CHECK (z = 1));
  pub check_of_nothing :
      least schema (create (defined a type.Integer None [] ∷ constrained (table_rule.Check (condition.Compare Equal (column z) one)) ∷ [])) ≡ Some Unknown
  -- CREATE TABLE w (a INT, CHECK (a = 1));
  pub check_of_a_column :
      least schema (create (defined a type.Integer None [] ∷ constrained (table_rule.Check (condition.Compare Equal (column a) one)) ∷ [])) ≡ None
  -- CREATE TABLE w (a INT CHECK (z = 1), z INT);
  pub check_of_a_later_column :
      least schema (create (defined a type.Integer None (column_rule.Check (condition.Compare Equal (column z) one) ∷ []) ∷ defined z type.Integer None [] ∷ [])) ≡ None
  -- CREATE TABLE w (a INT, CHECK (t.a = 1));
  pub check_of_another_table :
      least schema (create (defined a type.Integer None [] ∷ constrained (table_rule.Check (condition.Compare Equal (of_range t a) one)) ∷ [])) ≡ Some Unknown
  -- CREATE TABLE w (a INT, CHECK (w.a = 1));
  pub check_of_its_table :
      least schema (create (defined a type.Integer None [] ∷ constrained (table_rule.Check (condition.Compare Equal (of_range w a) one)) ∷ [])) ≡ None
  -- CREATE TABLE w (a INT, CHECK (EXISTS (SELECT * FROM n)));
  pub check_over_nothing : least schema (create (defined a type.Integer None [] ∷ constrained (table_rule.Check (condition.Exists (from n))) ∷ []))
      ≡ Some Unknown
  -- CREATE TABLE w (a INT, CHECK (EXISTS (SELECT * FROM t)));
  pub check_over_a_table :
      least schema (create (defined a type.Integer None [] ∷ constrained (table_rule.Check (condition.Exists (from t))) ∷ [])) ≡ Some SchemaFault
  -- CREATE TABLE w (a INT, CHECK (EXISTS (SELECT * FROM t WHERE z = 1)));
  pub check_over_no_column :
      least schema (create (defined a type.Integer None [] ∷ constrained (table_rule.Check (exists_where (from t) (condition.Compare Equal (column z) one))) ∷ [])) ≡ Some Unknown
  -- CREATE TABLE w (a INT, FOREIGN KEY (z) REFERENCES p);
  pub foreign_key_of_nothing :
      least schema (create (defined a type.Integer None [] ∷ constrained (table_rule.ForeignKey (z ∷ []) (to_table p)) ∷ [])) ≡ Some Unknown
  -- CREATE TABLE w (a INT, FOREIGN KEY (a) REFERENCES p);
  pub foreign_key_of_a_column : least schema (create (defined a type.Integer None [] ∷ constrained (table_rule.ForeignKey (a ∷ []) (to_table p)) ∷ [])) ≡ None
  -- CREATE TABLE w (a INT REFERENCES p (a));
  pub reference_to_no_column : least schema (create (defined a type.Integer None (column_rule.References (refers p (Some (a ∷ []))) ∷ []) ∷ [])) ≡ Some Unknown
  -- CREATE TABLE w (a INT REFERENCES p (k));
  pub reference_to_a_column : least schema (create (defined a type.Integer None (column_rule.References (refers p (Some (k ∷ []))) ∷ []) ∷ [])) ≡ None
  -- CREATE TABLE w (a INT REFERENCES n (k));
  pub reference_to_no_table : least schema (create (defined a type.Integer None (column_rule.References (refers n (Some (k ∷ []))) ∷ []) ∷ [])) ≡ Some Unknown
  -- CREATE TABLE w (a INT REFERENCES w, k INT PRIMARY KEY);
  pub reference_to_its_table :
      least schema (create (defined a type.Integer None (column_rule.References (to_table w) ∷ []) ∷ defined k type.Integer None (column_rule.PrimaryKey ∷ []) ∷ [])) ≡ None
  -- CREATE TABLE w (a INT REFERENCES w (z), k INT UNIQUE);
  pub reference_to_no_column_of_its_own :
      least schema (create (defined a type.Integer None (column_rule.References (refers w (Some (z ∷ []))) ∷ []) ∷ defined k type.Integer None ((column_rule.Unique Distinct) ∷ []) ∷ [])) ≡ Some Unknown
  -- CREATE TABLE w (a INT REFERENCES w (k), k INT UNIQUE);
  pub reference_to_a_column_of_its_own :
      least schema (create (defined a type.Integer None (column_rule.References (refers w (Some (k ∷ []))) ∷ []) ∷ defined k type.Integer None ((column_rule.Unique Distinct) ∷ []) ∷ [])) ≡ None
  -- ---- ALTER TABLE
  -- ALTER TABLE w ADD UNIQUE (a);
  pub alteration_of_nothing : least schema (statement.AlterTable w (constraint None (table_rule.Unique Distinct (a ∷ [])) any_time)) ≡ Some Unknown
  -- ALTER TABLE t ADD UNIQUE (a);
  pub alteration_of_a_table : least schema (statement.AlterTable t (constraint None (table_rule.Unique Distinct (a ∷ [])) any_time)) ≡ None
  -- ALTER TABLE t ADD UNIQUE (z);
  pub added_unique_of_nothing : least schema (statement.AlterTable t (constraint None (table_rule.Unique Distinct (z ∷ [])) any_time)) ≡ Some Unknown
  -- ALTER TABLE t ADD PRIMARY KEY (z);
  pub added_primary_key_of_nothing : least schema (statement.AlterTable t (constraint None (table_rule.PrimaryKey (z ∷ [])) any_time)) ≡ Some Unknown
  -- ALTER TABLE t ADD PRIMARY KEY (a);
  pub added_primary_key : least schema (statement.AlterTable t (constraint None (table_rule.PrimaryKey (a ∷ [])) any_time)) ≡ None
  -- ALTER TABLE t ADD CHECK (z = 1);
  pub added_check_of_nothing :
      least schema (statement.AlterTable t (constraint None (table_rule.Check (condition.Compare Equal (column z) one)) any_time)) ≡ Some Unknown
  -- ALTER TABLE t ADD CHECK (a = 1);
  pub added_check : least schema (statement.AlterTable t (constraint None (table_rule.Check (condition.Compare Equal (column a) one)) any_time)) ≡ None
  -- ALTER TABLE t ADD CHECK (p.k = 1);
  pub added_check_of_another_table :
      least schema (statement.AlterTable t (constraint None (table_rule.Check (condition.Compare Equal (of_range p k) one)) any_time)) ≡ Some Unknown
  -- ALTER TABLE t ADD CHECK (t.a = 1);
  pub added_check_of_its_table :
      least schema (statement.AlterTable t (constraint None (table_rule.Check (condition.Compare Equal (of_range t a) one)) any_time)) ≡ None
  -- ALTER TABLE t ADD CHECK (EXISTS (SELECT * FROM w));
  pub added_check_over_nothing : least schema (statement.AlterTable t (constraint None (table_rule.Check (condition.Exists (from w))) any_time)) ≡ Some Unknown
  -- ALTER TABLE t ADD FOREIGN KEY (z) REFERENCES p;
  pub added_foreign_key_of_nothing : least schema (statement.AlterTable t (constraint None (table_rule.ForeignKey (z ∷ []) (to_table p)) any_time))
      ≡ Some Unknown
  -- ALTER TABLE t ADD FOREIGN KEY (a) REFERENCES p;
  pub added_foreign_key : least schema (statement.AlterTable t (constraint None (table_rule.ForeignKey (a ∷ []) (to_table p)) any_time)) ≡ None
  -- ALTER TABLE t ADD FOREIGN KEY (a) REFERENCES w;
  pub added_reference_to_nothing : least schema (statement.AlterTable t (constraint None (table_rule.ForeignKey (a ∷ []) (to_table w)) any_time)) ≡ Some Unknown
  -- ALTER TABLE t ADD FOREIGN KEY (a) REFERENCES p (a);
  pub added_reference_to_no_column :
      least schema (statement.AlterTable t (constraint None (table_rule.ForeignKey (a ∷ []) (refers p (Some (a ∷ [])))) any_time)) ≡ Some Unknown
  -- ALTER TABLE t ADD FOREIGN KEY (a) REFERENCES p (k);
  pub added_reference_to_a_column :
      least schema (statement.AlterTable t (constraint None (table_rule.ForeignKey (a ∷ []) (refers p (Some (k ∷ [])))) any_time)) ≡ None
  -- ALTER TABLE p ADD FOREIGN KEY (k) REFERENCES p;
  pub added_reference_to_its_table : least schema (statement.AlterTable p (constraint None (table_rule.ForeignKey (k ∷ []) (to_table p)) any_time)) ≡ None
  -- ---- CREATE TRIGGER and DROP TRIGGER
  -- CREATE TRIGGER r AFTER INSERT ON w SIGNAL 'x';
  pub trigger_on_nothing : least schema (trigger_of r time.After event.Insert w [] granularity.Statement None (action.Signal (codes "x") ∷ [])) ≡ Some Unknown
  -- CREATE TRIGGER r AFTER INSERT ON t SIGNAL 'x';
  pub trigger_on_a_table : least schema (trigger_of r time.After event.Insert t [] granularity.Statement None (action.Signal (codes "x") ∷ [])) ≡ None
  -- CREATE TRIGGER r AFTER INSERT ON t REFERENCING NEW AS n FOR EACH ROW WHEN (n.z = 1) SIGNAL 'x';
  pub when_of_no_column :
      least schema (trigger_of r time.After event.Insert t (item New what.Row n ∷ []) granularity.Row (Some (condition.Compare Equal (of_range n z) one))
      (action.Signal (codes "x") ∷ [])) ≡ Some Unknown
  -- CREATE TRIGGER r AFTER INSERT ON t REFERENCING NEW AS n FOR EACH ROW WHEN (n.a = 1) SIGNAL 'x';
  pub when_of_a_column :
      least schema (trigger_of r time.After event.Insert t (item New what.Row n ∷ []) granularity.Row (Some (condition.Compare Equal (of_range n a) one))
      (action.Signal (codes "x") ∷ [])) ≡ None
  -- CREATE TRIGGER r AFTER INSERT ON t REFERENCING NEW AS n FOR EACH ROW WHEN (o.a = 1) SIGNAL 'x';
  pub when_of_no_variable :
      least schema (trigger_of r time.After event.Insert t (item New what.Row n ∷ []) granularity.Row (Some (condition.Compare Equal (of_range o a) one))
      (action.Signal (codes "x") ∷ [])) ≡ Some Unknown
  -- CREATE TRIGGER r AFTER INSERT ON t REFERENCING NEW AS n FOR EACH ROW WHEN (a = 1) SIGNAL 'x';
  pub when_without_a_variable :
      least schema (trigger_of r time.After event.Insert t (item New what.Row n ∷ []) granularity.Row (Some (condition.Compare Equal (column a) one))
      (action.Signal (codes "x") ∷ [])) ≡ Some Unknown
  -- CREATE TRIGGER r AFTER INSERT ON t WHEN (EXISTS (SELECT * FROM w)) SIGNAL 'x';
  pub when_over_nothing :
      least schema (trigger_of r time.After event.Insert t [] granularity.Statement (Some (condition.Exists (from w))) (action.Signal (codes "x") ∷ []))
      ≡ Some Unknown
  -- CREATE TRIGGER r AFTER INSERT ON t REFERENCING NEW AS n FOR EACH ROW WHEN (EXISTS (SELECT * FROM p WHERE k = n.a)) SIGNAL 'x';
  pub when_over_a_table :
      least schema (trigger_of r time.After event.Insert t (item New what.Row n ∷ []) granularity.Row (Some (exists_where (from p) (condition.Compare Equal (column k) (of_range n a)))) (action.Signal (codes "x") ∷ [])) ≡ None
  -- CREATE TRIGGER r AFTER UPDATE ON t REFERENCING NEW TABLE AS n WHEN (EXISTS (SELECT * FROM n WHERE a = 1)) SIGNAL 'x';
  pub when_over_a_transition_table :
      least schema (trigger_of r time.After event.Update t (item New what.Table n ∷ []) granularity.Statement (Some (exists_where (from n) (condition.Compare Equal (column a) one))) (action.Signal (codes "x") ∷ [])) ≡ None
  -- CREATE TRIGGER r AFTER UPDATE ON t REFERENCING NEW TABLE AS n WHEN (EXISTS (SELECT * FROM n WHERE k = 1)) SIGNAL 'x';
  pub when_over_no_column_of_it :
      least schema (trigger_of r time.After event.Update t (item New what.Table n ∷ []) granularity.Statement (Some (exists_where (from n) (condition.Compare Equal (column k) one))) (action.Signal (codes "x") ∷ [])) ≡ Some Unknown
  -- CREATE TRIGGER r AFTER UPDATE ON t REFERENCING NEW TABLE AS p WHEN (EXISTS (SELECT * FROM p WHERE k = 1)) SIGNAL 'x';
  pub transition_table_hides_a_table :
      least schema (trigger_of r time.After event.Update t (item New what.Table p ∷ []) granularity.Statement (Some (exists_where (from p) (condition.Compare Equal (column k) one))) (action.Signal (codes "x") ∷ [])) ≡ Some Unknown
  -- CREATE TRIGGER r AFTER UPDATE ON t REFERENCING NEW TABLE AS p WHEN (EXISTS (SELECT * FROM p WHERE a = 1)) SIGNAL 'x';
  pub transition_table_called_as_a_table :
      least schema (trigger_of r time.After event.Update t (item New what.Table p ∷ []) granularity.Statement (Some (exists_where (from p) (condition.Compare Equal (column a) one))) (action.Signal (codes "x") ∷ [])) ≡ None
  -- CREATE TRIGGER r AFTER INSERT ON t INSERT INTO w VALUES (1);
  pub triggered_insert_into_nothing :
      least schema (trigger_of r time.After event.Insert t [] granularity.Statement None (action.Insert (insert.Rows w None (source.Values ((given.Value one ∷ []) ∷ []))) ∷ [])) ≡ Some Unknown
  -- CREATE TRIGGER r AFTER INSERT ON t INSERT INTO p VALUES (1);
  pub triggered_insert :
      least schema (trigger_of r time.After event.Insert t [] granularity.Statement None (action.Insert (insert.Rows p None (source.Values ((given.Value one ∷ []) ∷ []))) ∷ [])) ≡ None
  -- CREATE TRIGGER r AFTER INSERT ON t INSERT INTO p (a) VALUES (1);
  pub triggered_insert_of_no_column :
      least schema (trigger_of r time.After event.Insert t [] granularity.Statement None (action.Insert (insert.Rows p (Some (a ∷ [])) (source.Values ((given.Value one ∷ []) ∷ []))) ∷ [])) ≡ Some Unknown
  -- CREATE TRIGGER r AFTER INSERT ON t REFERENCING NEW AS n FOR EACH ROW INSERT INTO p VALUES (n.a);
  pub triggered_values_see_row_variables :
      least schema (trigger_of r time.After event.Insert t (item New what.Row n ∷ []) granularity.Row None (action.Insert (insert.Rows p None (source.Values ((given.Value (of_range n a) ∷ []) ∷ []))) ∷ [])) ≡ None
  -- CREATE TRIGGER r AFTER INSERT ON t REFERENCING NEW AS n FOR EACH ROW INSERT INTO p VALUES (a);
  pub triggered_values_see_no_range :
      least schema (trigger_of r time.After event.Insert t (item New what.Row n ∷ []) granularity.Row None (action.Insert (insert.Rows p None (source.Values ((given.Value (column a) ∷ []) ∷ []))) ∷ [])) ≡ Some Unknown
  -- CREATE TRIGGER r AFTER INSERT ON t REFERENCING NEW TABLE AS n INSERT INTO n VALUES (1, 'x');
  pub triggered_insert_into_a_transition_table :
      least schema (trigger_of r time.After event.Insert t (item New what.Table n ∷ []) granularity.Statement None (action.Insert (insert.Rows n None (source.Values ((given.Value one ∷ given.Value text ∷ []) ∷ []))) ∷ [])) ≡ Some Unknown
  -- CREATE TRIGGER r AFTER INSERT ON t REFERENCING NEW TABLE AS n INSERT INTO p SELECT a FROM n;
  pub triggered_insert_from_a_transition_table :
      least schema (trigger_of r time.After event.Insert t (item New what.Table n ∷ []) granularity.Statement None (action.Insert (insert.Rows p None (source.Select (list.Values (column a ∷ [])) (from n) None)) ∷ [])) ≡ None
  -- CREATE TRIGGER r AFTER INSERT ON t REFERENCING NEW TABLE AS n INSERT INTO p SELECT k FROM n;
  pub triggered_insert_from_no_column_of_it :
      least schema (trigger_of r time.After event.Insert t (item New what.Table n ∷ []) granularity.Statement None (action.Insert (insert.Rows p None (source.Select (list.Values (column k ∷ [])) (from n) None)) ∷ [])) ≡ Some Unknown
  -- CREATE TRIGGER r AFTER INSERT ON t UPDATE w SET a = 1;
  pub triggered_update_of_nothing :
      least schema (trigger_of r time.After event.Insert t [] granularity.Statement None (action.Update (update_of w (sets a (given.Value one) ∷ []) None) ∷ [])) ≡ Some Unknown
  -- CREATE TRIGGER r AFTER INSERT ON t REFERENCING NEW AS n FOR EACH ROW UPDATE p SET k = n.a WHERE k = n.a;
  pub triggered_update :
      least schema (trigger_of r time.After event.Insert t (item New what.Row n ∷ []) granularity.Row None (action.Update (update_of p (sets k (given.Value (of_range n a)) ∷ []) (Some (condition.Compare Equal (column k) (of_range n a)))) ∷ [])) ≡ None
  -- CREATE TRIGGER r AFTER INSERT ON t UPDATE p SET a = 1;
  pub triggered_update_of_no_column :
      least schema (trigger_of r time.After event.Insert t [] granularity.Statement None (action.Update (update_of p (sets a (given.Value one) ∷ []) None) ∷ [])) ≡ Some Unknown
  -- CREATE TRIGGER r AFTER INSERT ON t UPDATE p SET k = a;
  pub triggered_update_by_nothing :
      least schema (trigger_of r time.After event.Insert t [] granularity.Statement None (action.Update (update_of p (sets k (given.Value (column a)) ∷ []) None) ∷ [])) ≡ Some Unknown
  -- CREATE TRIGGER r AFTER INSERT ON t UPDATE p SET k = 1 WHERE a = 1;
  pub triggered_update_where_nothing :
      least schema (trigger_of r time.After event.Insert t [] granularity.Statement None (action.Update (update_of p (sets k (given.Value one) ∷ []) (Some (condition.Compare Equal (column a) one))) ∷ [])) ≡ Some Unknown
  -- CREATE TRIGGER r AFTER INSERT ON t REFERENCING NEW TABLE AS n UPDATE n SET a = 1;
  pub triggered_update_of_a_transition_table :
      least schema (trigger_of r time.After event.Insert t (item New what.Table n ∷ []) granularity.Statement None (action.Update (update_of n (sets a (given.Value one) ∷ []) None) ∷ [])) ≡ Some Unknown
  -- CREATE TRIGGER r AFTER INSERT ON t DELETE FROM w;
  pub triggered_delete_from_nothing :
      least schema (trigger_of r time.After event.Insert t [] granularity.Statement None (action.Delete (delete_of w None) ∷ [])) ≡ Some Unknown
  -- CREATE TRIGGER r AFTER INSERT ON t DELETE FROM p WHERE k = 1;
  pub triggered_delete :
      least schema (trigger_of r time.After event.Insert t [] granularity.Statement None (action.Delete (delete_of p (Some (condition.Compare Equal (column k) one))) ∷ [])) ≡ None
  -- CREATE TRIGGER r AFTER INSERT ON t DELETE FROM p WHERE a = 1;
  pub triggered_delete_where_nothing :
      least schema (trigger_of r time.After event.Insert t [] granularity.Statement None (action.Delete (delete_of p (Some (condition.Compare Equal (column a) one))) ∷ [])) ≡ Some Unknown
  -- CREATE TRIGGER r AFTER INSERT ON t REFERENCING NEW AS p FOR EACH ROW DELETE FROM p WHERE p.a = 1;
  pub range_hides_a_row_variable :
      least schema (trigger_of r time.After event.Insert t (item New what.Row p ∷ []) granularity.Row None (action.Delete (delete_of p (Some (condition.Compare Equal (of_range p a) one))) ∷ [])) ≡ Some Unknown
  -- CREATE TRIGGER r AFTER INSERT ON t REFERENCING NEW AS p FOR EACH ROW DELETE FROM p WHERE p.k = 1;
  pub range_called_as_a_row_variable :
      least schema (trigger_of r time.After event.Insert t (item New what.Row p ∷ []) granularity.Row None (action.Delete (delete_of p (Some (condition.Compare Equal (of_range p k) one))) ∷ [])) ≡ None
  -- CREATE TRIGGER r AFTER INSERT ON t REFERENCING NEW TABLE AS p DELETE FROM p WHERE k = 1;
  pub changed_table_called_as_a_transition_table :
      least schema (trigger_of r time.After event.Insert t (item New what.Table p ∷ []) granularity.Statement None (action.Delete (delete_of p (Some (condition.Compare Equal (column k) one))) ∷ [])) ≡ None
  -- CREATE TRIGGER r AFTER INSERT ON t REFERENCING NEW TABLE AS p DELETE FROM p WHERE EXISTS (SELECT * FROM p WHERE b = 'x');
  pub transition_table_inside_such_a_change :
      least schema (trigger_of r time.After event.Insert t (item New what.Table p ∷ []) granularity.Statement None (action.Delete (delete_of p (Some (exists_where (from p) (condition.Compare Equal (column b) text)))) ∷ [])) ≡ None
  -- CREATE TRIGGER r BEFORE INSERT ON t REFERENCING NEW AS n FOR EACH ROW SET n.k = 1;
  pub set_of_no_column :
      least schema (trigger_of r time.Before event.Insert t (item New what.Row n ∷ []) granularity.Row None (action.Set n k one ∷ [])) ≡ Some Unknown
  -- CREATE TRIGGER r BEFORE INSERT ON t REFERENCING NEW AS n FOR EACH ROW SET n.a = n.a + 1;
  pub set_by_a_row_variable :
      least schema (trigger_of r time.Before event.Insert t (item New what.Row n ∷ []) granularity.Row None (action.Set n a (sum Plus (of_range n a) one) ∷ [])) ≡ None
  -- CREATE TRIGGER r BEFORE INSERT ON t REFERENCING NEW AS n FOR EACH ROW SET n.a = a;
  pub set_without_a_variable :
      least schema (trigger_of r time.Before event.Insert t (item New what.Row n ∷ []) granularity.Row None (action.Set n a (column a) ∷ [])) ≡ Some Unknown
  -- CREATE TRIGGER r BEFORE INSERT ON t REFERENCING NEW AS n FOR EACH ROW SET n.a = o.a;
  pub set_by_nothing :
      least schema (trigger_of r time.Before event.Insert t (item New what.Row n ∷ []) granularity.Row None (action.Set n a (of_range o a) ∷ [])) ≡ Some Unknown
  -- CREATE TRIGGER r BEFORE INSERT ON t REFERENCING NEW AS n FOR EACH ROW SET t.a = 1;
  pub set_of_the_table :
      least schema (trigger_of r time.Before event.Insert t (item New what.Row n ∷ []) granularity.Row None (action.Set t a one ∷ [])) ≡ Some Unknown
  -- CREATE TRIGGER r BEFORE INSERT ON t REFERENCING NEW TABLE AS n FOR EACH ROW SET n.a = 1;
  pub set_of_a_transition_table :
      least schema (trigger_of r time.Before event.Insert t (item New what.Table n ∷ []) granularity.Row None (action.Set n a one ∷ [])) ≡ Some Unknown
  -- CREATE TRIGGER r AFTER INSERT ON t BEGIN ATOMIC SIGNAL 'x'; DELETE FROM w; END;
  pub second_of_a_body :
      least schema (trigger_of r time.After event.Insert t [] granularity.Statement None (action.Signal (codes "x") ∷ action.Delete (delete_of w None) ∷ []))
      ≡ Some Unknown
  -- DROP TRIGGER s;
  pub trigger_dropped : least schema (statement.DropTrigger s) ≡ None
  -- ---- INSERT
  -- INSERT INTO w DEFAULT VALUES;
  pub defaults_into_nothing : least schema (statement.Insert (insert.DefaultValues w)) ≡ Some Unknown
  -- INSERT INTO t DEFAULT VALUES;
  pub defaults_into_a_table : least schema (statement.Insert (insert.DefaultValues t)) ≡ None
  -- INSERT INTO t (a) VALUES (1);
  pub listed_column : least schema (insert_into t (Some (a ∷ [])) (one ∷ [])) ≡ None
  -- INSERT INTO p VALUES (1), (a);
  pub second_tuple_of_nothing :
      least schema (statement.Insert (insert.Rows p None (source.Values ((given.Value one ∷ []) ∷ (given.Value (column a) ∷ []) ∷ [])))) ≡ Some Unknown
  -- INSERT INTO p VALUES (1), (2);
  pub two_tuples :
      least schema (statement.Insert (insert.Rows p None (source.Values ((given.Value one ∷ []) ∷ (given.Value (expression.Number 2) ∷ []) ∷ [])))) ≡ None
  -- INSERT INTO t SELECT * FROM w;
  pub insert_from_nothing : least schema (statement.Insert (insert.Rows t None (source.Select list.Star (from w) None))) ≡ Some Unknown
  -- INSERT INTO t SELECT * FROM t;
  pub insert_from_a_table : least schema (statement.Insert (insert.Rows t None (source.Select list.Star (from t) None))) ≡ None
  -- INSERT INTO p SELECT z FROM t;
  pub insert_of_no_column : least schema (statement.Insert (insert.Rows p None (source.Select (list.Values (column z ∷ [])) (from t) None))) ≡ Some Unknown
  -- INSERT INTO p SELECT a FROM t;
  pub insert_of_a_column : least schema (statement.Insert (insert.Rows p None (source.Select (list.Values (column a ∷ [])) (from t) None))) ≡ None
  -- INSERT INTO p SELECT a FROM t WHERE z = 1;
  pub insert_where_nothing :
      least schema (statement.Insert (insert.Rows p None (source.Select (list.Values (column a ∷ [])) (from t) (Some (condition.Compare Equal (column z) one))))) ≡ Some Unknown
  -- INSERT INTO p SELECT a FROM t WHERE a = 1;
  pub insert_where_a_column :
      least schema (statement.Insert (insert.Rows p None (source.Select (list.Values (column a ∷ [])) (from t) (Some (condition.Compare Equal (column a) one))))) ≡ None
  -- INSERT INTO p SELECT a FROM t WHERE k = 1;
  pub source_sees_no_target :
      least schema (statement.Insert (insert.Rows p None (source.Select (list.Values (column a ∷ [])) (from t) (Some (condition.Compare Equal (column k) one))))) ≡ Some Unknown
  -- ---- UPDATE
  -- UPDATE w SET a = 1;
  pub update_of_nothing : least schema (statement.Update (update_of w (sets a (given.Value one) ∷ []) None)) ≡ Some Unknown
  -- UPDATE t SET a = 1;
  pub update_of_a_table : least schema (statement.Update (update_of t (sets a (given.Value one) ∷ []) None)) ≡ None
  -- UPDATE t SET z = 1;
  pub update_of_no_column : least schema (statement.Update (update_of t (sets z (given.Value one) ∷ []) None)) ≡ Some Unknown
  -- UPDATE t SET a = 1, z = 1;
  pub second_update_of_no_column : least schema (statement.Update (update_of t (sets a (given.Value one) ∷ sets z (given.Value one) ∷ []) None)) ≡ Some Unknown
  -- UPDATE t SET a = z;
  pub update_by_nothing : least schema (statement.Update (update_of t (sets a (given.Value (column z)) ∷ []) None)) ≡ Some Unknown
  -- UPDATE t SET a = t.a;
  pub update_by_a_column : least schema (statement.Update (update_of t (sets a (given.Value (of_range t a)) ∷ []) None)) ≡ None
  -- UPDATE t SET a = p.k;
  pub update_by_another_table : least schema (statement.Update (update_of t (sets a (given.Value (of_range p k)) ∷ []) None)) ≡ Some Unknown
  -- UPDATE t SET a = DEFAULT;
  pub update_to_the_default : least schema (statement.Update (update_of t (sets a given.Default ∷ []) None)) ≡ None
  -- UPDATE t SET z = DEFAULT;
  pub update_of_no_column_to_the_default : least schema (statement.Update (update_of t (sets z given.Default ∷ []) None)) ≡ Some Unknown
  -- UPDATE t SET a = 1 WHERE z = 1;
  pub update_where_nothing :
      least schema (statement.Update (update_of t (sets a (given.Value one) ∷ []) (Some (condition.Compare Equal (column z) one)))) ≡ Some Unknown
  -- UPDATE t SET a = 1 WHERE a = 1;
  pub update_where_a_column : least schema (statement.Update (update_of t (sets a (given.Value one) ∷ []) (Some (condition.Compare Equal (column a) one))))
      ≡ None
  -- ---- DELETE, with each search condition
  -- DELETE FROM w;
  pub delete_from_nothing : least schema (statement.Delete (delete_of w None)) ≡ Some Unknown
  -- DELETE FROM t;
  pub delete_from_a_table : least schema (statement.Delete (delete_of t None)) ≡ None
  -- DELETE FROM t WHERE z = 1;
  pub compared_on_the_left : least schema (delete_where t (condition.Compare Equal (column z) one)) ≡ Some Unknown
  -- DELETE FROM t WHERE 1 = z;
  pub compared_on_the_right : least schema (delete_where t (condition.Compare Equal one (column z))) ≡ Some Unknown
  -- DELETE FROM t WHERE a = a;
  pub compared_columns : least schema (delete_where t (condition.Compare Equal (column a) (column a))) ≡ None
  -- DELETE FROM t WHERE z IS NULL;
  pub nothing_is_null : least schema (delete_where t (condition.IsNull (column z))) ≡ Some Unknown
  -- DELETE FROM t WHERE a IS NULL;
  pub column_is_null : least schema (delete_where t (condition.IsNull (column a))) ≡ None
  -- DELETE FROM t WHERE z IS NOT NULL;
  pub nothing_is_not_null : least schema (delete_where t (condition.IsNotNull (column z))) ≡ Some Unknown
  -- DELETE FROM t WHERE a IS NOT NULL;
  pub column_is_not_null : least schema (delete_where t (condition.IsNotNull (column a))) ≡ None
  -- DELETE FROM t WHERE EXISTS (SELECT * FROM w);
  pub exists_over_nothing : least schema (delete_where t (condition.Exists (from w))) ≡ Some Unknown
  -- DELETE FROM t WHERE EXISTS (SELECT * FROM p);
  pub exists_over_a_table : least schema (delete_where t (condition.Exists (from p))) ≡ None
  -- DELETE FROM t WHERE EXISTS (SELECT * FROM w WHERE a = 1);
  pub exists_over_nothing_where : least schema (delete_where t (exists_where (from w) (condition.Compare Equal (column a) one))) ≡ Some Unknown
  -- DELETE FROM t WHERE EXISTS (SELECT * FROM p WHERE z = 1);
  pub exists_where_nothing : least schema (delete_where t (exists_where (from p) (condition.Compare Equal (column z) one))) ≡ Some Unknown
  -- DELETE FROM t WHERE EXISTS (SELECT * FROM p WHERE k = a);
  pub exists_where_both_ranges : least schema (delete_where t (exists_where (from p) (condition.Compare Equal (column k) (column a)))) ≡ None
  -- DELETE FROM t WHERE EXISTS (SELECT * FROM p AS z WHERE p.k = 1);
  pub alias_hides_in_exists : least schema (delete_where t (exists_where (called p z) (condition.Compare Equal (of_range p k) one))) ≡ Some Unknown
  -- DELETE FROM t WHERE EXISTS (SELECT * FROM p AS z WHERE z.k = 1);
  pub alias_in_exists : least schema (delete_where t (exists_where (called p z) (condition.Compare Equal (of_range z k) one))) ≡ None
  -- DELETE FROM t WHERE EXISTS (SELECT * FROM p) AND k = 1;
  pub range_ends_with_its_exists : least schema (delete_where t (both (condition.Exists (from p)) (condition.Compare Equal (column k) one))) ≡ Some Unknown
  -- DELETE FROM t WHERE (z = 1);
  pub enclosed_nothing : least schema (delete_where t (enclosed (condition.Compare Equal (column z) one))) ≡ Some Unknown
  -- DELETE FROM t WHERE (a = 1);
  pub enclosed_column : least schema (delete_where t (enclosed (condition.Compare Equal (column a) one))) ≡ None
  -- DELETE FROM t WHERE NOT z = 1;
  pub negated_nothing : least schema (delete_where t (negated (condition.Compare Equal (column z) one))) ≡ Some Unknown
  -- DELETE FROM t WHERE NOT a = 1;
  pub negated_column : least schema (delete_where t (negated (condition.Compare Equal (column a) one))) ≡ None
  -- DELETE FROM t WHERE z = 1 AND a = 1;
  pub nothing_and_a_column : least schema (delete_where t (both (condition.Compare Equal (column z) one) (condition.Compare Equal (column a) one)))
      ≡ Some Unknown
  -- DELETE FROM t WHERE a = 1 AND z = 1;
  pub column_and_nothing : least schema (delete_where t (both (condition.Compare Equal (column a) one) (condition.Compare Equal (column z) one))) ≡ Some Unknown
  -- DELETE FROM t WHERE a = 1 AND a = 2;
  pub column_and_a_column :
      least schema (delete_where t (both (condition.Compare Equal (column a) one) (condition.Compare Equal (column a) (expression.Number 2)))) ≡ None
  -- DELETE FROM t WHERE z = 1 OR a = 1;
  pub nothing_or_a_column : least schema (delete_where t (either (condition.Compare Equal (column z) one) (condition.Compare Equal (column a) one)))
      ≡ Some Unknown
  -- DELETE FROM t WHERE a = 1 OR z = 1;
  pub column_or_nothing : least schema (delete_where t (either (condition.Compare Equal (column a) one) (condition.Compare Equal (column z) one)))
      ≡ Some Unknown
  -- DELETE FROM t WHERE a = 1 OR a = 2;
  pub column_or_a_column :
      least schema (delete_where t (either (condition.Compare Equal (column a) one) (condition.Compare Equal (column a) (expression.Number 2)))) ≡ None
  -- ---- SELECT, with each value expression
  -- SELECT COUNT(*) FROM w;
  pub count_of_nothing : least schema (statement.Select (select.Count (from w) None)) ≡ Some Unknown
  -- SELECT COUNT(*) FROM t;
  pub count_of_a_table : least schema (statement.Select (select.Count (from t) None)) ≡ None
  -- SELECT COUNT(*) FROM t WHERE z = 1;
  pub count_where_nothing : least schema (statement.Select (select.Count (from t) (Some (condition.Compare Equal (column z) one)))) ≡ Some Unknown
  -- SELECT COUNT(*) FROM t WHERE a = 1;
  pub count_where_a_column : least schema (statement.Select (select.Count (from t) (Some (condition.Compare Equal (column a) one)))) ≡ None
  -- SELECT * FROM w;
  pub select_from_nothing : least schema (statement.Select (select.Rows list.Star (from w) None)) ≡ Some Unknown
  -- SELECT * FROM t;
  pub select_from_a_table : least schema (statement.Select (select.Rows list.Star (from t) None)) ≡ None
  -- SELECT * FROM t WHERE z = 1;
  pub select_where_nothing : least schema (statement.Select (select.Rows list.Star (from t) (Some (condition.Compare Equal (column z) one)))) ≡ Some Unknown
  -- SELECT * FROM t WHERE a = 1;
  pub select_where_a_column : least schema (statement.Select (select.Rows list.Star (from t) (Some (condition.Compare Equal (column a) one)))) ≡ None
  -- SELECT a, z FROM t;
  pub select_of_nothing : least schema (statement.Select (select.Rows (list.Values (column a ∷ column z ∷ [])) (from t) None)) ≡ Some Unknown
  -- SELECT a, b FROM t;
  pub select_of_columns : least schema (statement.Select (select.Rows (list.Values (column a ∷ column b ∷ [])) (from t) None)) ≡ None
  -- SELECT p.k FROM t;
  pub select_of_another_table : least schema (select_of (of_range p k) (from t) None) ≡ Some Unknown
  -- SELECT (z) FROM t;
  pub group_of_nothing : least schema (select_of (group (column z)) (from t) None) ≡ Some Unknown
  -- SELECT (a) FROM t;
  pub group_of_a_column : least schema (select_of (group (column a)) (from t) None) ≡ None
  -- SELECT -z FROM t;
  pub sign_of_nothing : least schema (select_of (signed Minus (column z)) (from t) None) ≡ Some Unknown
  -- SELECT -a FROM t;
  pub sign_of_a_column : least schema (select_of (signed Minus (column a)) (from t) None) ≡ None
  -- SELECT z * 1 FROM t;
  pub product_with_nothing_on_the_left : least schema (select_of (product (column z) one) (from t) None) ≡ Some Unknown
  -- SELECT 1 * z FROM t;
  pub product_with_nothing_on_the_right : least schema (select_of (product one (column z)) (from t) None) ≡ Some Unknown
  -- SELECT a * a FROM t;
  pub product_of_columns : least schema (select_of (product (column a) (column a)) (from t) None) ≡ None
  -- SELECT z + 1 FROM t;
  pub sum_with_nothing_on_the_left : least schema (select_of (sum Plus (column z) one) (from t) None) ≡ Some Unknown
  -- SELECT 1 - z FROM t;
  pub difference_with_nothing_on_the_right : least schema (select_of (sum Minus one (column z)) (from t) None) ≡ Some Unknown
  -- SELECT a + a FROM t;
  pub sum_of_columns : least schema (select_of (sum Plus (column a) (column a)) (from t) None) ≡ None
  -- ---- SET CONSTRAINTS and transactions
  -- SET CONSTRAINTS ALL DEFERRED;
  pub all_constraints : least schema (statement.SetConstraints constraints.All mode.Deferred) ≡ None
  -- SET CONSTRAINTS p_c1, w DEFERRED;
  pub second_constraint_of_nothing : least schema (statement.SetConstraints (constraints.Named (codes "P_C1" ∷ w ∷ [])) mode.Deferred) ≡ Some Unknown
  -- SET CONSTRAINTS p_c1, q_c2 IMMEDIATE;
  pub two_constraints : least schema (statement.SetConstraints (constraints.Named (codes "P_C1" ∷ codes "Q_C2" ∷ [])) mode.Immediate) ≡ None
  -- SET CONSTRAINTS t DEFERRED;
  pub table_is_no_constraint : least schema (statement.SetConstraints (constraints.Named (t ∷ [])) mode.Deferred) ≡ Some Unknown
  -- START TRANSACTION;
  pub start : least schema (statement.StartTransaction) ≡ None
  -- COMMIT;
  pub commit : least schema (statement.Commit) ≡ None
  -- ROLLBACK;
  pub rollback : least schema (statement.Rollback) ≡ None
  -- SAVEPOINT w;
  pub savepoint : least schema (statement.Savepoint w) ≡ None
  -- RELEASE SAVEPOINT w;
  pub release : least schema (statement.Release w) ≡ None
  -- ROLLBACK TO SAVEPOINT w;
  pub rollback_to : least schema (statement.RollbackTo w) ≡ None
