-- Worked scripts with the account of their last statement: what is told of it, in the order in which it
-- happened. Constraints, tables and triggers have numbers from 0, rows and the statements of a body
-- from 1.
use Rattle.std.specs.Prelude.{◌≡◌, ℕ, List, [], ◌∷◌, map, Some, None}
use Rattle.iv_expr.specs.Trees.{plus, times}
use Rattle.iv_worked.specs.Types.{Value, Truth, StoredRow, Change, Constraint, ReferentialAction, Plan, Entry, RowAction, TriggerView, SkippedView, Disagreement}
use Rattle.iv_worked.specs.Types.value.{Null}
use Rattle.iv_worked.specs.Types.truth.{False, Unknown}
use Rattle.iv_worked.specs.Types.comparison.{Equal, Less, Greater}
use Rattle.iv_worked.specs.Types.cond.{Always, Compare}
use Rattle.iv_worked.specs.Types.matching.{Simple}
use Rattle.iv_worked.specs.Types.mode.{Immediate}
use Rattle.iv_worked.specs.Types.nulls.{Distinct, NotDistinct}
use Rattle.iv_worked.specs.Types.referential_action.{NoAction, Restrict, Cascade, SetNull}
use Rattle.iv_worked.specs.Types.time.{Before, After}
use Rattle.iv_worked.specs.Types.event
use Rattle.iv_worked.specs.Types.granularity.{Row, Statement}
use Rattle.iv_worked.specs.Types.rule
use Rattle.iv_worked.specs.Types.entry.{Changed, Acted, Ran, Skipped, Began, Ended, Faulted, Disagreed}
use Rattle.iv_worked.specs.Types.part
use Rattle.iv_worked.specs.WorkedFailures.{no_variables, out_of_range}
use Rattle.iv_worked.specs.WorkedPlans.{number, numbers, null, column, old, new, where_column, integer_column, not_deferrable, initially_deferred, foreign_key_rule, references_rule, create_table, setting, insert, insert_row, insert_value, update, update_all, delete, delete_all, create_trigger, create_update_of, inserts, sets, signals, set_all, set_these, set_one, start, commit}
use Rattle.iv_worked.specs.WorkedAnswers.{int, fault, with_change_count, told_from, told, told_within}
use Rattle.iv_machine.specs.Machine.{empty_state}

-- ---- changes and rows of integers, by table and row number

abbrev pub ints : List ℕ → List Value
ints ns = map int ns

abbrev pub inserted : ℕ → ℕ → List ℕ → Change
inserted table row after = record { table = table; row = row; old = None; new = Some (ints after) }

abbrev pub deleted : ℕ → ℕ → List ℕ → Change
deleted table row before = record { table = table; row = row; old = Some (ints before); new = None }

abbrev pub updated_to : ℕ → ℕ → List ℕ → List Value → Change
updated_to table row before after = record { table = table; row = row; old = Some (ints before); new = Some after }

abbrev pub updated : ℕ → ℕ → List ℕ → List ℕ → Change
updated table row before after = updated_to table row before (ints after)

abbrev pub stored : ℕ → ℕ → List ℕ → StoredRow
stored table row values = record { table = table; number = row; values = ints values }

-- a row of table 0 whose one value is null
abbrev pub stored_null : ℕ → StoredRow
stored_null row = record { table = 0; number = row; values = Null ∷ [] }

abbrev pub inserted_null : ℕ → Change
inserted_null row = record { table = 0; row = row; old = None; new = Some (Null ∷ []) }

-- a foreign key acts so on a row of a table
abbrev pub acts_on : ℕ → ReferentialAction → ℕ → ℕ → RowAction
acts_on key action table row = record { constraint = key; action = action; table = table; row = row }

-- ---- what a trigger saw

abbrev pub saw_old : List ℕ → TriggerView
saw_old before = record { old = Some (ints before); new = None; transition = [] }

abbrev pub saw_new : List ℕ → TriggerView
saw_new after = record { old = None; new = Some (ints after); transition = [] }

abbrev pub saw_both : List ℕ → List ℕ → TriggerView
saw_both before after = record { old = Some (ints before); new = Some (ints after); transition = [] }

-- a trigger that is skipped saw this
abbrev pub without : Truth → SkippedView
without when = record { old = None; new = None; when = when }

abbrev pub without_new : List ℕ → Truth → SkippedView
without_new after when = record { old = None; new = Some (ints after); when = when }

abbrev pub without_old : List ℕ → Truth → SkippedView
without_old before when = record { old = Some (ints before); new = None; when = when }

-- a statement trigger saw these changes
abbrev pub saw : List Change → TriggerView
saw changes = record { old = None; new = None; transition = changes }

-- ---- scripts

-- CREATE TABLE p (k INT PRIMARY KEY); CREATE TABLE c (x INT REFERENCES p ON DELETE CASCADE); INSERT
-- INTO p VALUES (1); INSERT INTO p VALUES (2); INSERT INTO c VALUES (1); INSERT INTO c VALUES (2);
-- INSERT INTO c VALUES (1); DELETE FROM p WHERE k = 1;
abbrev pub deletion_that_cascades : List Plan
deletion_that_cascades =
    create_table (integer_column ∷ []) (not_deferrable 0 (rule.PrimaryKey (0 ∷ [])) ∷ [])
    ∷ create_table (integer_column ∷ []) (not_deferrable 1 (references_rule 0 0 0 Cascade NoAction) ∷ [])
    ∷ insert_value 0 (number 1) ∷ insert_value 0 (number 2) ∷ insert_value 1 (number 1)
    ∷ insert_value 1 (number 2) ∷ insert_value 1 (number 1) ∷ delete 0 (where_column Equal 0 1) ∷ []

-- CREATE TABLE t (a INT NOT NULL INITIALLY DEFERRED, b INT CHECK (b < 5) INITIALLY DEFERRED); INSERT
-- INTO t VALUES (NULL, 3), (1, 9); and then the end
abbrev pub two_violations_at : Plan → List Plan
two_violations_at end =
    create_table (integer_column ∷ integer_column ∷ [])
    (initially_deferred 0 (rule.NotNull 0) ∷ initially_deferred 0 (rule.Check (where_column Less 1 5)) ∷ [])
    ∷ insert 0 ((null ∷ number 3 ∷ []) ∷ numbers (1 ∷ 9 ∷ []) ∷ []) ∷ end ∷ []

abbrev pub both_violations : List Entry
both_violations =
    Faulted (fault 0 1) (record { table = 0; number = 1; values = Null ∷ int 3 ∷ [] } ∷ [])
    ∷ Faulted (fault 1 2) (stored 0 2 (1 ∷ 9 ∷ []) ∷ []) ∷ []

-- a foreign key of table 1 whose columns refer to both columns of table 0, with its action for an update
abbrev pub refers_to_both : List ℕ × ReferentialAction → Constraint
refers_to_both key = not_deferrable 1 (foreign_key_rule key.0 0 (0 ∷ 1 ∷ []) Simple NoAction key.1)

-- CREATE TABLE p (k INT, m INT, PRIMARY KEY (k, m)); CREATE TABLE c (x INT, y INT, z INT, ..) with these foreign keys; INSERT INTO p
-- VALUES (1, 1); INSERT INTO c VALUES (1, 1, 1); UPDATE p SET k = 5, m = 6;
abbrev pub both_columns_referenced : List ℕ × ReferentialAction → List ℕ × ReferentialAction → List ℕ × ReferentialAction → List Plan
both_columns_referenced first second third =
    create_table (integer_column ∷ integer_column ∷ []) (not_deferrable 0 (rule.PrimaryKey (0 ∷ 1 ∷ [])) ∷ [])
    ∷ create_table (integer_column ∷ integer_column ∷ integer_column ∷ [])
    (refers_to_both first ∷ refers_to_both second ∷ refers_to_both third ∷ [])
    ∷ insert_row 0 (numbers (1 ∷ 1 ∷ [])) ∷ insert_row 1 (numbers (1 ∷ 1 ∷ 1 ∷ []))
    ∷ update 0 (setting 0 (number 5) ∷ setting 1 (number 6) ∷ []) Always ∷ []

pub record WorkedAccounts : Type 0 where
  -- CREATE TABLE t (a INT); INSERT INTO t VALUES (4), (7);
  pub insert_of_two_rows : told (
      create_table (integer_column ∷ []) [] ∷ insert 0 (numbers (4 ∷ []) ∷ numbers (7 ∷ []) ∷ []) ∷ [])
      ≡ Changed (inserted 0 1 (4 ∷ []) ∷ inserted 0 2 (7 ∷ []) ∷ []) ∷ []
  -- CREATE TABLE t (a INT, b INT); INSERT INTO t VALUES (1, 10), (2, 20), (3, 30); UPDATE t SET b = b +
  -- a WHERE a > 1;
  pub update_of_two_rows : told (
      create_table (integer_column ∷ integer_column ∷ []) []
      ∷ insert 0 (numbers (1 ∷ 10 ∷ []) ∷ numbers (2 ∷ 20 ∷ []) ∷ numbers (3 ∷ 30 ∷ []) ∷ [])
      ∷ update 0 (setting 1 (plus (column 1) (column 0)) ∷ []) (where_column Greater 0 1) ∷ [])
      ≡ Changed (updated 0 2 (2 ∷ 20 ∷ []) (2 ∷ 22 ∷ []) ∷ updated 0 3 (3 ∷ 30 ∷ []) (3 ∷ 33 ∷ []) ∷ [])
      ∷ []
  -- CREATE TABLE t (a INT); DELETE FROM t; no row is changed, so there is no wave
  pub delete_of_no_row : told (create_table (integer_column ∷ []) [] ∷ delete_all 0 ∷ []) ≡ []
  pub delete_cascades : told deletion_that_cascades
      ≡ Changed (deleted 0 1 (1 ∷ []) ∷ [])
      ∷ Acted (acts_on 1 Cascade 1 3 ∷ acts_on 1 Cascade 1 5 ∷ [])
      ∷ Changed (deleted 1 3 (1 ∷ []) ∷ deleted 1 5 (1 ∷ []) ∷ [])
      ∷ []
  -- Of a budget of three the statement and the first wave take two, so that the second wave isn't made.
  pub budget_ends_after_a_wave : told_within 3 deletion_that_cascades
      ≡ Changed (deleted 0 1 (1 ∷ []) ∷ [])
      ∷ Acted (acts_on 1 Cascade 1 3 ∷ acts_on 1 Cascade 1 5 ∷ [])
      ∷ []
  -- CREATE TABLE p (k INT PRIMARY KEY); CREATE TABLE c (x INT REFERENCES p ON DELETE SET NULL, y INT);
  -- INSERT INTO p VALUES (1); INSERT INTO c VALUES (1, 7); DELETE FROM p;
  pub delete_sets_null : told (
      create_table (integer_column ∷ []) (not_deferrable 0 (rule.PrimaryKey (0 ∷ [])) ∷ [])
      ∷ create_table (integer_column ∷ integer_column ∷ [])
      (not_deferrable 1 (references_rule 0 0 0 SetNull NoAction) ∷ [])
      ∷ insert_value 0 (number 1) ∷ insert_row 1 (numbers (1 ∷ 7 ∷ [])) ∷ delete_all 0 ∷ [])
      ≡ Changed (deleted 0 1 (1 ∷ []) ∷ [])
      ∷ Acted (acts_on 1 SetNull 1 2 ∷ [])
      ∷ Changed (updated_to 1 2 (1 ∷ 7 ∷ []) (Null ∷ int 7 ∷ []) ∷ [])
      ∷ []
  -- CREATE TABLE p (k INT PRIMARY KEY); CREATE TABLE c (x INT REFERENCES p ON UPDATE CASCADE REFERENCES
  -- p, y INT REFERENCES p ON UPDATE SET NULL); INSERT INTO p VALUES (1); INSERT INTO c VALUES (1, 1);
  -- UPDATE p SET k = 5; two foreign keys make one change of the row, and that with NO ACTION has no part
  -- in it
  pub two_keys_act_on_a_row : told (
      create_table (integer_column ∷ []) (not_deferrable 0 (rule.PrimaryKey (0 ∷ [])) ∷ [])
      ∷ create_table (integer_column ∷ integer_column ∷ [])
      (not_deferrable 1 (references_rule 0 0 0 NoAction Cascade)
      ∷ not_deferrable 1 (references_rule 0 0 0 NoAction NoAction)
      ∷ not_deferrable 1 (references_rule 1 0 0 NoAction SetNull) ∷ [])
      ∷ insert_value 0 (number 1) ∷ insert_row 1 (numbers (1 ∷ 1 ∷ [])) ∷ update_all 0 0 (number 5) ∷ [])
      ≡ Changed (updated 0 1 (1 ∷ []) (5 ∷ []) ∷ [])
      ∷ Acted (acts_on 1 Cascade 1 2 ∷ acts_on 3 SetNull 1 2 ∷ [])
      ∷ Changed (updated_to 1 2 (1 ∷ 1 ∷ []) (int 5 ∷ Null ∷ []) ∷ [])
      ∷ []
  -- CREATE TABLE t (a INT); CREATE TABLE log (x INT); CREATE TRIGGER r AFTER DELETE ON t REFERENCING OLD
  -- AS o FOR EACH ROW INSERT INTO log VALUES (o.a); INSERT INTO t VALUES (3), (8); DELETE FROM t;
  pub after_row_trigger_logs : told (
      create_table (integer_column ∷ []) [] ∷ create_table (integer_column ∷ []) []
      ∷ create_trigger 0 0 After event.Delete Row Always (inserts 1 (old 0 ∷ []) ∷ [])
      ∷ insert 0 (numbers (3 ∷ []) ∷ numbers (8 ∷ []) ∷ []) ∷ delete_all 0 ∷ [])
      ≡ Changed (deleted 0 1 (3 ∷ []) ∷ deleted 0 2 (8 ∷ []) ∷ [])
      ∷ Ran 0 (saw_old (3 ∷ [])) ∷ Began 1 ∷ Changed (inserted 1 3 (3 ∷ []) ∷ []) ∷ Ended
      ∷ Ran 0 (saw_old (8 ∷ [])) ∷ Began 1 ∷ Changed (inserted 1 4 (8 ∷ []) ∷ []) ∷ Ended
      ∷ []
  -- CREATE TABLE t (a INT); CREATE TRIGGER b BEFORE UPDATE ON t REFERENCING OLD AS o NEW AS n FOR EACH
  -- ROW SET n.a = n.a + o.a; CREATE TRIGGER c BEFORE UPDATE ON t REFERENCING NEW AS n FOR EACH ROW SET
  -- n.a = n.a * 2; INSERT INTO t VALUES (3); UPDATE t SET a = 4;
  pub before_row_triggers_set : told (
      create_table (integer_column ∷ []) []
      ∷ create_trigger 0 0 Before event.Update Row Always (sets 0 (plus (new 0) (old 0)) ∷ [])
      ∷ create_trigger 1 0 Before event.Update Row Always (sets 0 (times (new 0) (number 2)) ∷ [])
      ∷ insert_value 0 (number 3) ∷ update_all 0 0 (number 4) ∷ [])
      ≡ Ran 0 (saw_both (3 ∷ []) (4 ∷ [])) ∷ Ran 1 (saw_both (3 ∷ []) (7 ∷ []))
      ∷ Changed (updated 0 1 (3 ∷ []) (14 ∷ []) ∷ [])
      ∷ []
  -- CREATE TABLE t (a INT); CREATE TRIGGER b BEFORE INSERT ON t REFERENCING NEW AS n FOR EACH ROW WHEN
  -- (n.a > 5) SET n.a = n.a * 2; CREATE TRIGGER r AFTER INSERT ON t REFERENCING NEW AS n FOR EACH ROW
  -- WHEN (n.a > 20) SIGNAL 'stop'; INSERT INTO t VALUES (4), (6); each trigger is skipped for the rows of which its condition
  -- is false
  pub trigger_whose_condition_is_false : told (
      create_table (integer_column ∷ []) []
      ∷ create_trigger 0 0 Before event.Insert Row (Compare Greater (new 0) (number 5))
      (sets 0 (times (new 0) (number 2)) ∷ [])
      ∷ create_trigger 1 0 After event.Insert Row (Compare Greater (new 0) (number 20)) (signals ∷ [])
      ∷ insert 0 (numbers (4 ∷ []) ∷ numbers (6 ∷ []) ∷ []) ∷ [])
      ≡ Skipped 0 (without_new (4 ∷ []) False) ∷ Ran 0 (saw_new (6 ∷ []))
      ∷ Changed (inserted 0 1 (4 ∷ []) ∷ inserted 0 2 (12 ∷ []) ∷ [])
      ∷ Skipped 1 (without_new (4 ∷ []) False) ∷ Skipped 1 (without_new (12 ∷ []) False) ∷ []
  -- CREATE TABLE t (a INT); CREATE TRIGGER b BEFORE INSERT ON t WHEN (NULL > 5) SIGNAL 'stop'; CREATE TRIGGER r AFTER INSERT ON t
  -- WHEN (1 > 5) SIGNAL 'stop'; CREATE TRIGGER d AFTER DELETE ON t WHEN (1 > 5) SIGNAL 'stop'; INSERT INTO t VALUES (4), (6); a
  -- statement trigger is skipped once, and tells no rows; one that is on another event isn't asked
  pub statement_triggers_are_skipped : told (
      create_table (integer_column ∷ []) []
      ∷ create_trigger 0 0 Before event.Insert Statement (Compare Greater null (number 5)) (signals ∷ [])
      ∷ create_trigger 1 0 After event.Insert Statement (Compare Greater (number 1) (number 5)) (signals ∷ [])
      ∷ create_trigger 2 0 After event.Delete Statement (Compare Greater (number 1) (number 5)) (signals ∷ [])
      ∷ insert 0 (numbers (4 ∷ []) ∷ numbers (6 ∷ []) ∷ []) ∷ [])
      ≡ Skipped 0 (without Unknown) ∷ Changed (inserted 0 1 (4 ∷ []) ∷ inserted 0 2 (6 ∷ []) ∷ []) ∷ Skipped 1 (without False) ∷ []
  -- CREATE TABLE t (a INT); CREATE TRIGGER r AFTER DELETE ON t REFERENCING OLD AS o FOR EACH ROW WHEN (o.a > 5) SIGNAL 'stop';
  -- INSERT INTO t VALUES (4), (6); DELETE FROM t; the trigger is skipped for the first row, and runs for the second
  pub skipped_before_one_that_runs : told (
      create_table (integer_column ∷ []) []
      ∷ create_trigger 0 0 After event.Delete Row (Compare Greater (old 0) (number 5)) (signals ∷ [])
      ∷ insert 0 (numbers (4 ∷ []) ∷ numbers (6 ∷ []) ∷ []) ∷ delete_all 0 ∷ [])
      ≡ Changed (deleted 0 1 (4 ∷ []) ∷ deleted 0 2 (6 ∷ []) ∷ []) ∷ Skipped 0 (without_old (4 ∷ []) False) ∷ Ran 0 (saw_old (6 ∷ [])) ∷ []
  -- CREATE TABLE t (a INT); CREATE TRIGGER b BEFORE INSERT ON t WHEN (9223372036854775807 + 1 > 5) SIGNAL 'stop'; INSERT INTO t
  -- VALUES (4); a condition that is at fault is neither, and what failed in it is told
  pub condition_at_fault : told (
      create_table (integer_column ∷ []) []
      ∷ create_trigger 0 0 Before event.Insert Statement (Compare Greater (plus (number 9223372036854775807) (number 1)) (number 5)) (signals ∷ [])
      ∷ insert_value 0 (number 4) ∷ [])
      ≡ out_of_range no_variables (part.When 0) ∷ []
  -- CREATE TABLE t (a INT); CREATE TRIGGER b BEFORE INSERT ON t REFERENCING NEW AS n FOR EACH ROW SET n.a
  -- = 0; INSERT INTO t VALUES (4), (6); of a budget of two the statement takes one, so that the wave isn't
  -- entered, and its triggers don't run
  pub budget_ends_before_triggers : told_within 2 (
      create_table (integer_column ∷ []) [] ∷ create_trigger 0 0 Before event.Insert Row Always (sets 0 (number 0) ∷ [])
      ∷ insert 0 (numbers (4 ∷ []) ∷ numbers (6 ∷ []) ∷ []) ∷ [])
      ≡ []
  -- CREATE TABLE t (a INT CHECK (a < 5)); INSERT INTO t VALUES (3), (9);
  pub check_is_violated : told (
      create_table (integer_column ∷ []) (not_deferrable 0 (rule.Check (where_column Less 0 5)) ∷ [])
      ∷ insert 0 (numbers (3 ∷ []) ∷ numbers (9 ∷ []) ∷ []) ∷ [])
      ≡ Changed (inserted 0 1 (3 ∷ []) ∷ inserted 0 2 (9 ∷ []) ∷ [])
      ∷ Faulted (fault 0 2) (stored 0 2 (9 ∷ []) ∷ [])
      ∷ []
  -- CREATE TABLE t (a INT UNIQUE, b INT); INSERT INTO t VALUES (1, 10); INSERT INTO t VALUES (1, 20);
  pub unique_is_violated : told (
      create_table (integer_column ∷ integer_column ∷ []) (not_deferrable 0 (rule.Unique Distinct (0 ∷ [])) ∷ [])
      ∷ insert_row 0 (numbers (1 ∷ 10 ∷ [])) ∷ insert_row 0 (numbers (1 ∷ 20 ∷ [])) ∷ [])
      ≡ Changed (inserted 0 2 (1 ∷ 20 ∷ []) ∷ [])
      ∷ Faulted (fault 0 1) (stored 0 1 (1 ∷ 10 ∷ []) ∷ stored 0 2 (1 ∷ 20 ∷ []) ∷ [])
      ∷ []
  -- CREATE TABLE t (k INT PRIMARY KEY, up INT REFERENCES t ON DELETE RESTRICT); INSERT INTO t VALUES (1,
  -- NULL), (2, 1); DELETE FROM t; the rows are gone when RESTRICT is tested, and are told as they were
  pub restrict_protects_a_row : told (
      create_table (integer_column ∷ integer_column ∷ [])
      (not_deferrable 0 (rule.PrimaryKey (0 ∷ []))
      ∷ not_deferrable 0 (references_rule 1 0 0 Restrict NoAction) ∷ [])
      ∷ insert 0 ((number 1 ∷ null ∷ []) ∷ numbers (2 ∷ 1 ∷ []) ∷ []) ∷ delete_all 0 ∷ [])
      ≡ Changed (record { table = 0; row = 1; old = Some (int 1 ∷ Null ∷ []); new = None } ∷ deleted 0 2 (2 ∷ 1 ∷ []) ∷ [])
      ∷ Faulted (fault 1 2) (stored 0 2 (2 ∷ 1 ∷ []) ∷ [])
      ∷ []
  -- CREATE TABLE t (a INT); CREATE TABLE u (a INT); CREATE TABLE v (a INT); CREATE TRIGGER r AFTER
  -- INSERT ON t BEGIN ATOMIC INSERT INTO u VALUES (1); INSERT INTO v VALUES (2); END; CREATE TRIGGER s
  -- AFTER INSERT ON u REFERENCING NEW AS n FOR EACH ROW INSERT INTO v VALUES (n.a); INSERT INTO t VALUES
  -- (7);
  pub two_levels_of_triggers : told (
      create_table (integer_column ∷ []) [] ∷ create_table (integer_column ∷ []) []
      ∷ create_table (integer_column ∷ []) []
      ∷ create_trigger 0 0 After event.Insert Statement Always
      (inserts 1 (number 1 ∷ []) ∷ inserts 2 (number 2 ∷ []) ∷ [])
      ∷ create_trigger 1 1 After event.Insert Row Always (inserts 2 (new 0 ∷ []) ∷ [])
      ∷ insert_value 0 (number 7) ∷ [])
      ≡ Changed (inserted 0 1 (7 ∷ []) ∷ [])
      ∷ Ran 0 (saw (inserted 0 1 (7 ∷ []) ∷ []))
      ∷ Began 1 ∷ Changed (inserted 1 2 (1 ∷ []) ∷ [])
      ∷ Ran 1 (saw_new (1 ∷ [])) ∷ Began 1 ∷ Changed (inserted 2 3 (1 ∷ []) ∷ []) ∷ Ended
      ∷ Ended
      ∷ Began 2 ∷ Changed (inserted 2 4 (2 ∷ []) ∷ []) ∷ Ended
      ∷ []
  -- CREATE TABLE t (a INT); CREATE TABLE u (a INT); CREATE TRIGGER r AFTER INSERT ON t INSERT INTO u
  -- VALUES (1); CREATE TRIGGER s AFTER INSERT ON u SIGNAL 'stop'; INSERT INTO t VALUES (7); the INSERT
  -- of the body is refused, and has no end
  pub refusal_inside_a_body : told (
      create_table (integer_column ∷ []) [] ∷ create_table (integer_column ∷ []) []
      ∷ create_trigger 0 0 After event.Insert Statement Always (inserts 1 (number 1 ∷ []) ∷ [])
      ∷ create_trigger 1 1 After event.Insert Statement Always (signals ∷ []) ∷ insert_value 0 (number 7) ∷ [])
      ≡ Changed (inserted 0 1 (7 ∷ []) ∷ [])
      ∷ Ran 0 (saw (inserted 0 1 (7 ∷ []) ∷ []))
      ∷ Began 1 ∷ Changed (inserted 1 2 (1 ∷ []) ∷ []) ∷ Ran 1 (saw (inserted 1 2 (1 ∷ []) ∷ []))
      ∷ []
  -- CREATE TABLE t (a INT); CREATE TRIGGER g BEFORE DELETE ON t SIGNAL 'stop'; DELETE FROM t;
  pub before_statement_trigger_runs : told (
      create_table (integer_column ∷ []) [] ∷ create_trigger 0 0 Before event.Delete Statement Always (signals ∷ [])
      ∷ delete_all 0 ∷ [])
      ≡ Ran 0 (saw []) ∷ []
  -- all violations are told, in creation order of the constraints, then by row
  pub commit_is_refused : told (two_violations_at commit) ≡ both_violations
  -- SET CONSTRAINTS ALL IMMEDIATE
  pub set_constraints_is_refused : told (two_violations_at (set_all Immediate)) ≡ both_violations
  pub start_tells_nothing : told (start ∷ []) ≡ []
  -- ---- what isn't told
  -- CREATE TABLE t (a INT); CREATE TRIGGER b BEFORE INSERT ON t FOR EACH ROW SIGNAL 'stop'; INSERT INTO t VALUES
  -- (4), (6); the first row's SIGNAL ends the statement
  pub signal_of_the_first_row : told (
      create_table (integer_column ∷ []) [] ∷ create_trigger 0 0 Before event.Insert Row Always (signals ∷ [])
      ∷ insert 0 (numbers (4 ∷ []) ∷ numbers (6 ∷ []) ∷ []) ∷ [])
      ≡ Ran 0 (saw_new (4 ∷ [])) ∷ []
  -- CREATE TABLE t (a INT); CREATE TRIGGER g BEFORE DELETE ON t SIGNAL 'stop'; CREATE TRIGGER h BEFORE DELETE ON t
  -- SIGNAL 'stop'; DELETE FROM t;
  pub signal_of_the_first_trigger : told (
      create_table (integer_column ∷ []) [] ∷ create_trigger 0 0 Before event.Delete Statement Always (signals ∷ [])
      ∷ create_trigger 1 0 Before event.Delete Statement Always (signals ∷ []) ∷ delete_all 0 ∷ [])
      ≡ Ran 0 (saw []) ∷ []
  -- CREATE TABLE t (a INT); CREATE TRIGGER b BEFORE INSERT ON t REFERENCING NEW AS n FOR EACH ROW SET n.a = 0; and
  -- then in a transaction of 1,048,576 changes: INSERT INTO t VALUES (4);
  pub transaction_is_full_before_triggers : told_from (with_change_count 1048576 (
      create_table (integer_column ∷ []) [] ∷ create_trigger 0 0 Before event.Insert Row Always (sets 0 (number 0) ∷ []) ∷ []))
      (insert_value 0 (number 4) ∷ [])
      ≡ []
  -- CREATE TABLE t (a INT); CREATE TRIGGER g BEFORE INSERT ON t SIGNAL 'stop'; INSERT INTO t VALUES
  -- (9223372036854775807 + 1); the value is refused before the trigger runs, and is told
  pub value_before_a_statement_trigger : told (
      create_table (integer_column ∷ []) [] ∷ create_trigger 0 0 Before event.Insert Statement Always (signals ∷ [])
      ∷ insert_value 0 (plus (number 9223372036854775807) (number 1)) ∷ [])
      ≡ out_of_range no_variables (part.Column 0 0) ∷ []
  -- ---- UPDATE OF
  -- CREATE TABLE t (a INT, b INT); CREATE TRIGGER r AFTER UPDATE OF a ON t SIGNAL 'stop'; UPDATE t SET a = 1;
  pub update_of_fires : told (
      create_table (integer_column ∷ integer_column ∷ []) [] ∷ create_update_of 0 0 After (0 ∷ []) Statement (signals ∷ [])
      ∷ update_all 0 0 (number 1) ∷ [])
      ≡ Ran 0 (saw []) ∷ []
  -- CREATE TABLE t (a INT, b INT); CREATE TRIGGER b BEFORE UPDATE OF a ON t REFERENCING NEW AS n FOR EACH ROW SET n.b
  -- = 7; INSERT INTO t VALUES (1, 5); UPDATE t SET a = 2;
  pub update_of_sets : told (
      create_table (integer_column ∷ integer_column ∷ []) [] ∷ create_update_of 0 0 Before (0 ∷ []) Row (sets 1 (number 7) ∷ [])
      ∷ insert_row 0 (numbers (1 ∷ 5 ∷ [])) ∷ update_all 0 0 (number 2) ∷ [])
      ≡ Ran 0 (saw_both (1 ∷ 5 ∷ []) (2 ∷ 5 ∷ [])) ∷ Changed (updated 0 1 (1 ∷ 5 ∷ []) (2 ∷ 7 ∷ []) ∷ []) ∷ []
  -- ---- foreign keys that act
  -- CREATE TABLE t (k INT PRIMARY KEY, a INT REFERENCES t ON UPDATE CASCADE, b INT REFERENCES t ON UPDATE CASCADE);
  -- INSERT INTO t VALUES (1, NULL, NULL), (2, 1, 1); UPDATE t SET k = k + 10, a = NULL; row 2 lets its key go by
  -- itself, so that only the other foreign key acts
  pub key_that_the_row_lets_go : told (
      create_table (integer_column ∷ integer_column ∷ integer_column ∷ [])
      (not_deferrable 0 (rule.PrimaryKey (0 ∷ [])) ∷ not_deferrable 0 (references_rule 1 0 0 NoAction Cascade)
      ∷ not_deferrable 0 (references_rule 2 0 0 NoAction Cascade) ∷ [])
      ∷ insert 0 ((number 1 ∷ null ∷ null ∷ []) ∷ numbers (2 ∷ 1 ∷ 1 ∷ []) ∷ [])
      ∷ update 0 (setting 0 (plus (column 0) (number 10)) ∷ setting 1 null ∷ []) Always ∷ [])
      ≡ Changed (
      record { table = 0; row = 1; old = Some (int 1 ∷ Null ∷ Null ∷ []); new = Some (int 11 ∷ Null ∷ Null ∷ []) }
      ∷ updated_to 0 2 (2 ∷ 1 ∷ 1 ∷ []) (int 12 ∷ Null ∷ int 1 ∷ []) ∷ [])
      ∷ Acted (acts_on 2 Cascade 0 2 ∷ [])
      ∷ Changed (record { table = 0; row = 2; old = Some (int 12 ∷ Null ∷ int 1 ∷ []); new = Some (int 12 ∷ Null ∷ int 11 ∷ []) } ∷ [])
      ∷ []
  -- CREATE TABLE p (k INT PRIMARY KEY); CREATE TABLE c (x INT REFERENCES p ON DELETE CASCADE); CREATE TRIGGER r AFTER
  -- DELETE ON c REFERENCING OLD AS o FOR EACH ROW SIGNAL 'stop'; INSERT INTO p VALUES (1); INSERT INTO c VALUES (1);
  -- DELETE FROM p;
  pub trigger_of_the_child : told (
      create_table (integer_column ∷ []) (not_deferrable 0 (rule.PrimaryKey (0 ∷ [])) ∷ [])
      ∷ create_table (integer_column ∷ []) (not_deferrable 1 (references_rule 0 0 0 Cascade NoAction) ∷ [])
      ∷ create_trigger 0 1 After event.Delete Row Always (signals ∷ [])
      ∷ insert_value 0 (number 1) ∷ insert_value 1 (number 1) ∷ delete_all 0 ∷ [])
      ≡ Changed (deleted 0 1 (1 ∷ []) ∷ []) ∷ Acted (acts_on 1 Cascade 1 2 ∷ []) ∷ Changed (deleted 1 2 (1 ∷ []) ∷ [])
      ∷ Ran 0 (saw_old (1 ∷ [])) ∷ []
  -- CREATE TABLE p (k INT PRIMARY KEY); CREATE TABLE c (x INT REFERENCES p ON UPDATE CASCADE REFERENCES p ON UPDATE SET
  -- NULL); INSERT INTO p VALUES (1); INSERT INTO c VALUES (1); UPDATE p SET k = 5; the two disagree, so that neither acts; the
  -- earlier sets x to 5, and the later sets it to null
  pub two_keys_disagree : told (
      create_table (integer_column ∷ []) (not_deferrable 0 (rule.PrimaryKey (0 ∷ [])) ∷ [])
      ∷ create_table (integer_column ∷ [])
      (not_deferrable 1 (references_rule 0 0 0 NoAction Cascade) ∷ not_deferrable 1 (references_rule 0 0 0 NoAction SetNull) ∷ [])
      ∷ insert_value 0 (number 1) ∷ insert_value 1 (number 1) ∷ update_all 0 0 (number 5) ∷ [])
      ≡ Changed (updated 0 1 (1 ∷ []) (5 ∷ []) ∷ [])
      ∷ Disagreed (fault 2 2) (stored 1 2 (1 ∷ []) ∷ []) (record { earlier = 1; column = 0; earlier_value = int 5; value = Null })
      ∷ []
  -- The same with a key of k and m, and FOREIGN KEY (x, y) REFERENCES p ON UPDATE CASCADE, FOREIGN KEY (z, x) REFERENCES p ON UPDATE
  -- CASCADE, FOREIGN KEY (y, x) REFERENCES p ON UPDATE SET NULL; UPDATE p SET k = 5, m = 6; by the first the row would be (5, 6, 1),
  -- by the second (6, 1, 5): they disagree about x; that the third disagrees with both isn't told
  pub second_column_of_the_later_key : told (
      both_columns_referenced
      ((0 ∷ 1 ∷ []), Cascade) ((2 ∷ 0 ∷ []), Cascade) ((1 ∷ 0 ∷ []), SetNull))
      ≡ Changed (updated 0 1 (1 ∷ 1 ∷ []) (5 ∷ 6 ∷ []) ∷ [])
      ∷ Disagreed (fault 2 2) (stored 1 2 (1 ∷ 1 ∷ 1 ∷ []) ∷ [])
      (record { earlier = 1; column = 0; earlier_value = int 5; value = int 6 })
      ∷ []
  -- and FOREIGN KEY (x, y) REFERENCES p ON UPDATE CASCADE, FOREIGN KEY (x, z) REFERENCES p ON UPDATE CASCADE, FOREIGN KEY (z, y)
  -- REFERENCES p ON UPDATE SET NULL; the third disagrees with the first about y, and with the second about z; the first earlier one
  -- comes before the first column
  pub first_of_two_earlier_keys : told (
      both_columns_referenced
      ((0 ∷ 1 ∷ []), Cascade) ((0 ∷ 2 ∷ []), Cascade) ((2 ∷ 1 ∷ []), SetNull))
      ≡ Changed (updated 0 1 (1 ∷ 1 ∷ []) (5 ∷ 6 ∷ []) ∷ [])
      ∷ Disagreed (fault 3 2) (stored 1 2 (1 ∷ 1 ∷ 1 ∷ []) ∷ [])
      (record { earlier = 1; column = 1; earlier_value = int 6; value = Null })
      ∷ []
  -- CREATE TABLE t (k INT PRIMARY KEY, l INT UNIQUE, x INT REFERENCES t (k) ON UPDATE CASCADE REFERENCES t (l) ON UPDATE CASCADE);
  -- INSERT INTO t VALUES (1, 1, 1); UPDATE t SET k = 2, l = 3; the row is told as it was before the wave
  pub conflict_of_a_row_of_the_wave : told (
      create_table (integer_column ∷ integer_column ∷ integer_column ∷ [])
      (not_deferrable 0 (rule.PrimaryKey (0 ∷ [])) ∷ not_deferrable 0 (rule.Unique Distinct (1 ∷ []))
      ∷ not_deferrable 0 (references_rule 2 0 0 NoAction Cascade) ∷ not_deferrable 0 (references_rule 2 0 1 NoAction Cascade) ∷ [])
      ∷ insert_row 0 (numbers (1 ∷ 1 ∷ 1 ∷ [])) ∷ update 0 (setting 0 (number 2) ∷ setting 1 (number 3) ∷ []) Always ∷ [])
      ≡ Changed (updated 0 1 (1 ∷ 1 ∷ 1 ∷ []) (2 ∷ 3 ∷ 1 ∷ []) ∷ [])
      ∷ Disagreed (fault 3 1) (stored 0 1 (1 ∷ 1 ∷ 1 ∷ []) ∷ []) (record { earlier = 2; column = 2; earlier_value = int 2; value = int 3 })
      ∷ []
  -- ---- rows of a violation
  -- CREATE TABLE t (a INT UNIQUE); INSERT INTO t VALUES (1), (1), (1); the first other row of the key
  pub first_other_row : told (
      create_table (integer_column ∷ []) (not_deferrable 0 (rule.Unique Distinct (0 ∷ [])) ∷ [])
      ∷ insert 0 (numbers (1 ∷ []) ∷ numbers (1 ∷ []) ∷ numbers (1 ∷ []) ∷ []) ∷ [])
      ≡ Changed (inserted 0 1 (1 ∷ []) ∷ inserted 0 2 (1 ∷ []) ∷ inserted 0 3 (1 ∷ []) ∷ [])
      ∷ Faulted (fault 0 1) (stored 0 1 (1 ∷ []) ∷ stored 0 2 (1 ∷ []) ∷ []) ∷ []
  -- CREATE TABLE t (a INT PRIMARY KEY); INSERT INTO t VALUES (NULL), (NULL); a null, and no other row
  pub null_primary_keys : told (
      create_table (integer_column ∷ []) (not_deferrable 0 (rule.PrimaryKey (0 ∷ [])) ∷ []) ∷ insert 0 ((null ∷ []) ∷ (null ∷ []) ∷ []) ∷ [])
      ≡ Changed (inserted_null 1 ∷ inserted_null 2 ∷ []) ∷ Faulted (fault 0 1) (stored_null 1 ∷ []) ∷ []
  -- CREATE TABLE t (a INT UNIQUE NULLS NOT DISTINCT); INSERT INTO t VALUES (NULL), (NULL);
  pub nulls_not_distinct : told (
      create_table (integer_column ∷ []) (not_deferrable 0 (rule.Unique NotDistinct (0 ∷ [])) ∷ []) ∷ insert 0 ((null ∷ []) ∷ (null ∷ []) ∷ []) ∷ [])
      ≡ Changed (inserted_null 1 ∷ inserted_null 2 ∷ []) ∷ Faulted (fault 0 1) (stored_null 1 ∷ stored_null 2 ∷ []) ∷ []
  -- ---- SET CONSTRAINTS, and a depth
  -- of two violated constraints one is set
  pub one_constraint_is_set : told (two_violations_at (set_one 1 Immediate)) ≡ Faulted (fault 1 2) (stored 0 2 (1 ∷ 9 ∷ []) ∷ []) ∷ []
  -- CREATE TABLE t (a INT NOT NULL INITIALLY DEFERRED, b INT CHECK (b < 5)); INSERT INTO t VALUES (NULL, 3); SET
  -- CONSTRAINTS x, y IMMEDIATE; y isn't deferrable
  pub set_constraints_of_one_not_deferrable : told (
      create_table (integer_column ∷ integer_column ∷ [])
      (initially_deferred 0 (rule.NotNull 0) ∷ not_deferrable 0 (rule.Check (where_column Less 1 5)) ∷ [])
      ∷ insert 0 ((null ∷ number 3 ∷ []) ∷ []) ∷ set_these (0 ∷ 1 ∷ []) Immediate ∷ [])
      ≡ []
  -- With a depth of 1: CREATE TABLE t (a INT); CREATE TRIGGER r AFTER INSERT ON t INSERT INTO t VALUES (1); INSERT INTO t
  -- VALUES (0); the statement of the body begins, and is refused
  pub depth_of_one : told_from (empty_state (record { depth = 1; changes = 65536 })) (
      create_table (integer_column ∷ []) [] ∷ create_trigger 0 0 After event.Insert Statement Always (inserts 0 (number 1 ∷ []) ∷ [])
      ∷ insert_value 0 (number 0) ∷ [])
      ≡ Changed (inserted 0 1 (0 ∷ []) ∷ []) ∷ Ran 0 (saw (inserted 0 1 (0 ∷ []) ∷ [])) ∷ Began 1 ∷ []
