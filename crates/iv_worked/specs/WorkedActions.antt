-- Worked scripts on referential actions and the budget of changes. Constraints, tables and triggers
-- have numbers from 0.
use Rattle.std.specs.Prelude.{◌≡◌, List, [], ◌∷◌}
use Rattle.iv_expr.specs.Trees.{minus}
use Rattle.iv_worked.specs.Types.{ReferentialAction, Plan}
use Rattle.iv_worked.specs.Types.side.{Old}
use Rattle.iv_worked.specs.Types.expr.{Variable}
use Rattle.iv_worked.specs.Types.comparison.{Equal}
use Rattle.iv_worked.specs.Types.cond.{Always}
use Rattle.iv_worked.specs.Types.referential_action.{NoAction, Restrict, Cascade, SetNull, SetDefault}
use Rattle.iv_worked.specs.Types.time.{After}
use Rattle.iv_worked.specs.Types.event
use Rattle.iv_worked.specs.Types.granularity.{Row, Statement}
use Rattle.iv_worked.specs.Types.nulls.{Distinct}
use Rattle.iv_worked.specs.Types.rule
use Rattle.iv_worked.specs.Types.cause
use Rattle.iv_worked.specs.Types.body
use Rattle.iv_worked.specs.WorkedPlans.{number, null, column, where_column, integer_column, integer_default, not_deferrable, references_rule, create_table, setting, insert_statement, insert, insert_value, update, delete, create_trigger, select_all, count_all, commit, rollback}
use Rattle.iv_worked.specs.WorkedAnswers.{Answered, ok, ok_rows, int, rows, fault, refused, work, answers, answers_within, works_within}

-- CREATE TABLE p (k INT PRIMARY KEY); CREATE TABLE c (x INT REFERENCES p ON UPDATE CASCADE); INSERT
-- INTO p VALUES (1), (2); INSERT INTO c VALUES (1), (2); UPDATE p SET k = 3 - k; SELECT * FROM c;
-- COMMIT;
abbrev pub swapped_keys : List Plan
swapped_keys =
    create_table (integer_column ∷ []) (not_deferrable 0 (rule.PrimaryKey (0 ∷ [])) ∷ [])
    ∷ create_table (integer_column ∷ []) (not_deferrable 1 (references_rule 0 0 0 NoAction Cascade) ∷ [])
    ∷ insert 0 ((number 1 ∷ []) ∷ (number 2 ∷ []) ∷ [])
    ∷ insert 1 ((number 1 ∷ []) ∷ (number 2 ∷ []) ∷ [])
    ∷ update 0 (setting 0 (minus (number 3) (column 0)) ∷ []) Always ∷ select_all 1 ∷ commit ∷ []

-- CREATE TABLE t (k INT PRIMARY KEY, up INT REFERENCES t ON DELETE ..); INSERT INTO t VALUES (1,
-- NULL), (2, 1); COMMIT; DELETE FROM t; ROLLBACK; SELECT COUNT(*) FROM t;
abbrev pub self_reference : ReferentialAction → List Plan
self_reference action =
    create_table (integer_column ∷ integer_column ∷ [])
    (not_deferrable 0 (rule.PrimaryKey (0 ∷ []))
    ∷ not_deferrable 0 (references_rule 1 0 0 action NoAction) ∷ [])
    ∷ insert 0 ((number 1 ∷ null ∷ []) ∷ (number 2 ∷ number 1 ∷ []) ∷ []) ∷ commit ∷ delete 0 Always
    ∷ rollback ∷ count_all 0 ∷ []

-- CREATE TABLE p (k INT PRIMARY KEY); CREATE TABLE c (x INT REFERENCES p ON DELETE CASCADE); INSERT
-- INTO p VALUES (1); INSERT INTO c VALUES (1); three times; COMMIT; DELETE FROM p;
abbrev pub three_children : List Plan
three_children =
    create_table (integer_column ∷ []) (not_deferrable 0 (rule.PrimaryKey (0 ∷ [])) ∷ [])
    ∷ create_table (integer_column ∷ []) (not_deferrable 1 (references_rule 0 0 0 Cascade NoAction) ∷ [])
    ∷ insert_value 0 (number 1) ∷ insert_value 1 (number 1) ∷ insert_value 1 (number 1)
    ∷ insert_value 1 (number 1) ∷ commit ∷ delete 0 Always ∷ []

abbrev pub three_children_answers : Answered → List Answered
three_children_answers last = ok ∷ ok ∷ ok_rows 1 ∷ ok_rows 1 ∷ ok_rows 1 ∷ ok_rows 1 ∷ ok ∷ last
    ∷ []

pub record WorkedActions : Type 0 where
  pub update_cascade_swaps_keys : answers swapped_keys
      ≡ ok ∷ ok ∷ ok_rows 2 ∷ ok_rows 2 ∷ ok_rows 2 ∷ rows ((int 2 ∷ []) ∷ (int 1 ∷ []) ∷ []) ∷ ok
      ∷ []
  pub update_cascade_counts_both_waves : works_within 65536 swapped_keys
      ≡ work 0 0 ∷ work 0 0 ∷ work 2 0 ∷ work 2 0 ∷ work 4 0 ∷ work 0 0 ∷ work 0 0 ∷ []
  pub self_reference_deleted_whole : answers (self_reference NoAction)
      ≡ ok ∷ ok_rows 2 ∷ ok ∷ ok_rows 2 ∷ ok ∷ rows ((int 2 ∷ []) ∷ []) ∷ []
  pub self_reference_restrict : answers (self_reference Restrict)
      ≡ ok ∷ ok_rows 2 ∷ ok ∷ refused (cause.Restrict (fault 1 2)) ∷ ok ∷ rows ((int 2 ∷ []) ∷ [])
      ∷ []
  -- CREATE TABLE a (k INT PRIMARY KEY); CREATE TABLE b (k INT PRIMARY KEY, ak INT REFERENCES a ON
  -- DELETE CASCADE); CREATE TABLE c (ak INT REFERENCES a ON DELETE SET NULL, bk INT REFERENCES b ON
  -- DELETE CASCADE); CREATE TABLE log (x INT, y INT); CREATE TRIGGER d AFTER DELETE ON c
  -- REFERENCING OLD AS o FOR EACH ROW INSERT INTO log VALUES (o.ak, o.bk); CREATE TRIGGER u AFTER
  -- UPDATE ON c INSERT INTO log VALUES (0, 0); INSERT INTO a VALUES (1); INSERT INTO b VALUES (2,
  -- 1); INSERT INTO c VALUES (1, 2); DELETE FROM a; SELECT * FROM log; SELECT COUNT(*) FROM c;
  -- COMMIT;
  pub deletion_wins_over_set_null : answers (
      create_table (integer_column ∷ []) (not_deferrable 0 (rule.PrimaryKey (0 ∷ [])) ∷ [])
      ∷ create_table (integer_column ∷ integer_column ∷ [])
      (not_deferrable 1 (rule.PrimaryKey (0 ∷ []))
      ∷ not_deferrable 1 (references_rule 1 0 0 Cascade NoAction) ∷ [])
      ∷ create_table (integer_column ∷ integer_column ∷ [])
      (not_deferrable 2 (references_rule 0 0 0 SetNull NoAction)
      ∷ not_deferrable 2 (references_rule 1 1 0 Cascade NoAction) ∷ [])
      ∷ create_table (integer_column ∷ integer_column ∷ []) []
      ∷ create_trigger 0 2 After event.Delete Row Always
      (body.Data (insert_statement 3 ((Variable Old 0 ∷ Variable Old 1 ∷ []) ∷ [])) ∷ [])
      ∷ create_trigger 1 2 After event.Update Statement Always
      (body.Data (insert_statement 3 ((number 0 ∷ number 0 ∷ []) ∷ [])) ∷ [])
      ∷ insert_value 0 (number 1) ∷ insert 1 ((number 2 ∷ number 1 ∷ []) ∷ [])
      ∷ insert 2 ((number 1 ∷ number 2 ∷ []) ∷ [])
      ∷ delete 0 Always ∷ select_all 3 ∷ count_all 2 ∷ commit ∷ [])
      ≡ ok ∷ ok ∷ ok ∷ ok ∷ ok ∷ ok ∷ ok_rows 1 ∷ ok_rows 1 ∷ ok_rows 1 ∷ ok_rows 1
      ∷ rows ((int 1 ∷ int 2 ∷ []) ∷ []) ∷ rows ((int 0 ∷ []) ∷ []) ∷ ok ∷ []
  -- CREATE TABLE p (k INT PRIMARY KEY); CREATE TABLE c (x INT REFERENCES p ON DELETE SET NULL, y
  -- INT REFERENCES p ON DELETE CASCADE); INSERT INTO p VALUES (1); INSERT INTO c VALUES (1, 1);
  -- DELETE FROM p; SELECT COUNT(*) FROM c;
  pub deletion_wins_in_one_wave : answers (
      create_table (integer_column ∷ []) (not_deferrable 0 (rule.PrimaryKey (0 ∷ [])) ∷ [])
      ∷ create_table (integer_column ∷ integer_column ∷ [])
      (not_deferrable 1 (references_rule 0 0 0 SetNull NoAction)
      ∷ not_deferrable 1 (references_rule 1 0 0 Cascade NoAction) ∷ [])
      ∷ insert_value 0 (number 1) ∷ insert 1 ((number 1 ∷ number 1 ∷ []) ∷ []) ∷ delete 0 Always
      ∷ count_all 1 ∷ [])
      ≡ ok ∷ ok ∷ ok_rows 1 ∷ ok_rows 1 ∷ ok_rows 1 ∷ rows ((int 0 ∷ []) ∷ []) ∷ []
  -- CREATE TABLE p (k1 INT UNIQUE, k2 INT UNIQUE); CREATE TABLE c (x INT, CONSTRAINT f1 FOREIGN KEY
  -- (x) REFERENCES p (k1) ON UPDATE SET NULL, CONSTRAINT f2 FOREIGN KEY (x) REFERENCES p (k2) ON
  -- UPDATE CASCADE); INSERT INTO p VALUES (5, 5); INSERT INTO c VALUES (5); UPDATE p SET k1 = 6, k2
  -- = 7; COMMIT;
  pub two_actions_on_one_column : answers (
      create_table (integer_column ∷ integer_column ∷ [])
      (not_deferrable 0 (rule.Unique Distinct (0 ∷ [])) ∷ not_deferrable 0 (rule.Unique Distinct (1 ∷ [])) ∷ [])
      ∷ create_table (integer_column ∷ [])
      (not_deferrable 1 (references_rule 0 0 0 NoAction SetNull)
      ∷ not_deferrable 1 (references_rule 0 0 1 NoAction Cascade) ∷ [])
      ∷ insert 0 ((number 5 ∷ number 5 ∷ []) ∷ []) ∷ insert_value 1 (number 5)
      ∷ update 0 (setting 0 (number 6) ∷ setting 1 (number 7) ∷ []) Always ∷ commit ∷ [])
      ≡ ok ∷ ok ∷ ok_rows 1 ∷ ok_rows 1 ∷ refused (cause.ActionConflict (fault 3 2)) ∷ ok ∷ []
  -- CREATE TABLE p (k INT PRIMARY KEY); CREATE TABLE c (x INT DEFAULT 0 CONSTRAINT f REFERENCES p
  -- ON DELETE SET DEFAULT); INSERT INTO p VALUES (0), (1); INSERT INTO c VALUES (1); COMMIT; DELETE
  -- FROM p WHERE k = 1; SELECT * FROM c; DELETE FROM p; COMMIT;
  pub set_default : answers (
      create_table (integer_column ∷ []) (not_deferrable 0 (rule.PrimaryKey (0 ∷ [])) ∷ [])
      ∷ create_table (integer_default 0 ∷ [])
      (not_deferrable 1 (references_rule 0 0 0 SetDefault NoAction) ∷ [])
      ∷ insert 0 ((number 0 ∷ []) ∷ (number 1 ∷ []) ∷ []) ∷ insert_value 1 (number 1) ∷ commit
      ∷ delete 0 (where_column Equal 0 1) ∷ select_all 1 ∷ delete 0 Always ∷ commit ∷ [])
      ≡ ok ∷ ok ∷ ok_rows 2 ∷ ok_rows 1 ∷ ok ∷ ok_rows 1 ∷ rows ((int 0 ∷ []) ∷ [])
      ∷ refused (cause.Violation (fault 1 3)) ∷ ok ∷ []
  pub budget_of_three : answers_within 3 three_children
      ≡ three_children_answers (refused cause.TooManyChanges)
  pub budget_of_three_undoes : works_within 3 three_children
      ≡ work 0 0 ∷ work 0 0 ∷ work 1 0 ∷ work 1 0 ∷ work 1 0 ∷ work 1 0 ∷ work 0 0 ∷ work 1 1 ∷ []
  pub budget_of_four : answers_within 4 three_children
      ≡ three_children_answers (refused cause.TooManyChanges)
  pub budget_of_five : answers_within 5 three_children ≡ three_children_answers (ok_rows 1)
  pub budget_of_five_counts : works_within 5 three_children
      ≡ work 0 0 ∷ work 0 0 ∷ work 1 0 ∷ work 1 0 ∷ work 1 0 ∷ work 1 0 ∷ work 0 0 ∷ work 4 0 ∷ []
  -- CREATE TABLE p (a INT UNIQUE, b INT UNIQUE); CREATE TABLE c (x INT REFERENCES p (a) ON UPDATE SET NULL
  -- CHECK (x = 5) REFERENCES p (b) ON UPDATE CASCADE); INSERT INTO p VALUES (5, 5); INSERT INTO c VALUES
  -- (5); UPDATE p SET a = 6, b = 7; between the two foreign keys is another constraint
  pub keys_apart_disagree : answers (
      create_table (integer_column ∷ integer_column ∷ [])
      (not_deferrable 0 (rule.Unique Distinct (0 ∷ [])) ∷ not_deferrable 0 (rule.Unique Distinct (1 ∷ [])) ∷ [])
      ∷ create_table (integer_column ∷ [])
      (not_deferrable 1 (references_rule 0 0 0 NoAction SetNull) ∷ not_deferrable 1 (rule.Check (where_column Equal 0 5))
      ∷ not_deferrable 1 (references_rule 0 0 1 NoAction Cascade) ∷ [])
      ∷ insert 0 ((number 5 ∷ number 5 ∷ []) ∷ []) ∷ insert_value 1 (number 5)
      ∷ update 0 (setting 0 (number 6) ∷ setting 1 (number 7) ∷ []) Always ∷ [])
      ≡ ok ∷ ok ∷ ok_rows 1 ∷ ok_rows 1 ∷ refused (cause.ActionConflict (fault 4 2)) ∷ []
