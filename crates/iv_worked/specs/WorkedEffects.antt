-- Worked scripts on referential actions: which rows an action reaches, what it sets, RESTRICT, and
-- two actions on one row.
use Rattle.std.specs.Prelude.{◌≡◌, List, [], ◌∷◌}
use Rattle.iv_worked.specs.Types.{Expr, ReferentialAction, Plan}
use Rattle.iv_worked.specs.Types.value.{Null}
use Rattle.iv_worked.specs.Types.comparison.{Equal}
use Rattle.iv_worked.specs.Types.cond.{Always, Compare}
use Rattle.iv_worked.specs.Types.matching.{Simple}
use Rattle.iv_worked.specs.Types.referential_action.{NoAction, Restrict, Cascade, SetNull, SetDefault}
use Rattle.iv_worked.specs.Types.time.{Before}
use Rattle.iv_worked.specs.Types.event
use Rattle.iv_worked.specs.Types.granularity.{Row}
use Rattle.iv_worked.specs.Types.nulls.{Distinct}
use Rattle.iv_worked.specs.Types.rule
use Rattle.iv_worked.specs.Types.cause
use Rattle.iv_expr.specs.Trees.{plus}
use Rattle.iv_worked.specs.WorkedPlans.{number, numbers, null, column, old, new, where_column, integer_column, integer_default, not_deferrable, initially_deferred, foreign_key_rule, references_rule, create_table, setting, insert, insert_row, insert_value, update, update_all, delete, delete_all, create_trigger, sets, select_all, count_all, commit}
use Rattle.iv_worked.specs.WorkedAnswers.{ok, ok_rows, int, rows, rows_of, count_row, fault, refused, work, idle, answers, works}

-- In the first wave both rows of b get the key 5, which no row had, but to which the row of c
-- refers, deferred.
-- In the second wave both lose it again: the trigger gives the one 11 and the other 12.
-- CREATE TABLE b (id INT PRIMARY KEY, k INT UNIQUE, up INT REFERENCES b ON UPDATE CASCADE); CREATE
-- TABLE c (x INT REFERENCES b (k) ON UPDATE CASCADE INITIALLY DEFERRED); CREATE TRIGGER r BEFORE
-- UPDATE ON b REFERENCING OLD AS o NEW AS n FOR EACH ROW WHEN (o.k = 5) SET n.k = n.id; INSERT INTO
-- b VALUES (1, 1, 1), (2, 2, 2); INSERT INTO c VALUES (5); UPDATE b SET id = id + 10, k = 5; SELECT
-- * FROM c; COMMIT;
abbrev pub key_lost_by_two_rows : List Plan
key_lost_by_two_rows =
    create_table (integer_column ∷ integer_column ∷ integer_column ∷ [])
    (not_deferrable 0 (rule.PrimaryKey (0 ∷ [])) ∷ not_deferrable 0 (rule.Unique Distinct (1 ∷ []))
    ∷ not_deferrable 0 (references_rule 2 0 0 NoAction Cascade) ∷ [])
    ∷ create_table (integer_column ∷ []) (initially_deferred 1 (references_rule 0 0 1 NoAction Cascade) ∷ [])
    ∷ create_trigger 0 0 Before event.Update Row (Compare Equal (old 1) (number 5))
    (sets 1 (new 0) ∷ [])
    ∷ insert 0 (numbers (1 ∷ 1 ∷ 1 ∷ []) ∷ numbers (2 ∷ 2 ∷ 2 ∷ []) ∷ []) ∷ insert_value 1 (number 5)
    ∷ update 0 (setting 0 (plus (column 0) (number 10)) ∷ setting 1 (number 5) ∷ []) Always
    ∷ select_all 1 ∷ commit ∷ []

-- CREATE TABLE t (k INT PRIMARY KEY, up INT REFERENCES t ON UPDATE ..); INSERT INTO t VALUES (1,
-- NULL), (2, 1);
abbrev pub two_rows_of_one_table : ReferentialAction → List Plan → List Plan
two_rows_of_one_table action rest =
    create_table (integer_column ∷ integer_column ∷ [])
    (not_deferrable 0 (rule.PrimaryKey (0 ∷ []))
    ∷ not_deferrable 0 (references_rule 1 0 0 NoAction action) ∷ [])
    ∷ insert 0 ((number 1 ∷ null ∷ []) ∷ numbers (2 ∷ 1 ∷ []) ∷ []) ∷ rest

-- UPDATE t SET k = k + 10, up = ..;
abbrev pub new_keys : Expr → Plan
new_keys up = update 0 (setting 0 (plus (column 0) (number 10)) ∷ setting 1 up ∷ []) Always

-- RESTRICT: two_rows_of_one_table; UPDATE t SET k = k + 10, up = NULL; UPDATE t SET up = NULL;
-- UPDATE t SET k = k + 10, up = k; SELECT * FROM t;
abbrev pub restricted_updates : List Plan
restricted_updates = two_rows_of_one_table Restrict
    (new_keys null ∷ update_all 0 1 null ∷ new_keys (column 0) ∷ select_all 0 ∷ [])

-- CREATE TABLE p (k1 INT UNIQUE, k2 INT UNIQUE, k3 INT UNIQUE); CREATE TABLE c (x INT DEFAULT 9,
-- FOREIGN KEY (x) REFERENCES p (k1) .., FOREIGN KEY (x) REFERENCES p (k2) .., FOREIGN KEY (x)
-- REFERENCES p (k3) ..); INSERT INTO p VALUES (5, 5, 5); INSERT INTO c VALUES (5); with the same
-- actions on DELETE and on UPDATE
abbrev pub three_foreign_keys : ReferentialAction → ReferentialAction → ReferentialAction
    → List Plan → List Plan
three_foreign_keys first second third rest =
    create_table (integer_column ∷ integer_column ∷ integer_column ∷ [])
    (not_deferrable 0 (rule.Unique Distinct (0 ∷ [])) ∷ not_deferrable 0 (rule.Unique Distinct (1 ∷ []))
    ∷ not_deferrable 0 (rule.Unique Distinct (2 ∷ [])) ∷ [])
    ∷ create_table (integer_default 9 ∷ [])
    (not_deferrable 1 (references_rule 0 0 0 first first)
    ∷ not_deferrable 1 (references_rule 0 0 1 second second)
    ∷ not_deferrable 1 (references_rule 0 0 2 third third) ∷ [])
    ∷ insert_row 0 (numbers (5 ∷ 5 ∷ 5 ∷ [])) ∷ insert_value 1 (number 5) ∷ rest

-- UPDATE p SET k1 = 6, k2 = 7, k3 = 8;
abbrev pub three_new_keys : Plan
three_new_keys = update 0
    (setting 0 (number 6) ∷ setting 1 (number 7) ∷ setting 2 (number 8) ∷ []) Always

-- CREATE TABLE p (a INT DEFAULT 3, b INT DEFAULT 4, PRIMARY KEY (a, b)); CREATE TABLE c (n INT
-- DEFAULT 8, y INT DEFAULT 2, x INT DEFAULT 1, FOREIGN KEY (x, y) REFERENCES p ON DELETE .. ON
-- UPDATE ..); INSERT INTO p VALUES (1, 2), (3, 4), (5, 6); INSERT INTO c VALUES (0, 6, 5);
abbrev pub key_of_two_columns : ReferentialAction → List Plan → List Plan
key_of_two_columns action rest =
    create_table (integer_default 3 ∷ integer_default 4 ∷ [])
    (not_deferrable 0 (rule.PrimaryKey (0 ∷ 1 ∷ [])) ∷ [])
    ∷ create_table (integer_default 8 ∷ integer_default 2 ∷ integer_default 1 ∷ [])
    (not_deferrable 1 (foreign_key_rule (2 ∷ 1 ∷ []) 0 (0 ∷ 1 ∷ []) Simple action action) ∷ [])
    ∷ insert 0 (numbers (1 ∷ 2 ∷ []) ∷ numbers (3 ∷ 4 ∷ []) ∷ numbers (5 ∷ 6 ∷ []) ∷ [])
    ∷ insert_row 1 (numbers (0 ∷ 6 ∷ 5 ∷ [])) ∷ rest

-- DELETE FROM p WHERE a = 5; SELECT * FROM c;
abbrev pub third_key_deleted : List Plan
third_key_deleted = delete 0 (where_column Equal 0 5) ∷ select_all 1 ∷ []

pub record WorkedEffects : Type 0 where
  -- of rows that lose one key, the one of the least number gives the new key
  pub least_row_gives_the_new_key : answers key_lost_by_two_rows
      ≡ ok ∷ ok ∷ ok ∷ ok_rows 2 ∷ ok_rows 1 ∷ ok_rows 2 ∷ rows_of ((11 ∷ []) ∷ []) ∷ ok ∷ []
  pub three_waves_are_counted : works key_lost_by_two_rows
      ≡ idle ∷ idle ∷ idle ∷ work 2 0 ∷ work 1 0 ∷ work 5 0 ∷ idle ∷ idle ∷ []
  -- CASCADE: UPDATE t SET k = k + 10, up = NULL; SELECT * FROM t;
  pub row_that_lets_go_of_the_key_is_not_reached : answers
      (two_rows_of_one_table Cascade (new_keys null ∷ select_all 0 ∷ []))
      ≡ ok ∷ ok_rows 2 ∷ ok_rows 2 ∷ rows ((int 11 ∷ Null ∷ []) ∷ (int 12 ∷ Null ∷ []) ∷ []) ∷ []
  -- CASCADE: UPDATE t SET up = NULL; UPDATE t SET k = k + 10, up = k; so each row takes a key that
  -- is lost at once
  pub row_that_takes_the_key_is_not_reached : answers
      (two_rows_of_one_table Cascade (update_all 0 1 null ∷ new_keys (column 0) ∷ []))
      ≡ ok ∷ ok_rows 2 ∷ ok_rows 2 ∷ refused (cause.Violation (fault 1 1)) ∷ []
  -- RESTRICT asks who held the key before the wave
  pub restrict_protects_rows_that_change_too : answers restricted_updates
      ≡ ok ∷ ok_rows 2 ∷ refused (cause.Restrict (fault 1 2)) ∷ ok_rows 2
      ∷ refused (cause.Violation (fault 1 1))
      ∷ rows ((int 1 ∷ Null ∷ []) ∷ (int 2 ∷ Null ∷ []) ∷ []) ∷ []
  -- a wave that RESTRICT refuses was applied, so its changes count
  pub restricted_wave_is_counted : works restricted_updates
      ≡ idle ∷ work 2 0 ∷ work 2 2 ∷ work 2 0 ∷ work 2 2 ∷ idle ∷ []
  -- SET NULL, SET NULL, SET NULL: UPDATE p SET k1 = 6, k2 = 7, k3 = 8; SELECT * FROM c;
  pub equal_values_are_no_conflict : answers
      (three_foreign_keys SetNull SetNull SetNull (three_new_keys ∷ select_all 1 ∷ []))
      ≡ ok ∷ ok ∷ ok_rows 1 ∷ ok_rows 1 ∷ ok_rows 1 ∷ rows ((Null ∷ []) ∷ []) ∷ []
  -- SET NULL, SET NULL, CASCADE: the third disagrees with the first
  pub conflict_names_the_later_key : answers
      (three_foreign_keys SetNull SetNull Cascade (three_new_keys ∷ select_all 1 ∷ []))
      ≡ ok ∷ ok ∷ ok_rows 1 ∷ ok_rows 1 ∷ refused (cause.ActionConflict (fault 5 2))
      ∷ rows_of ((5 ∷ []) ∷ []) ∷ []
  -- SET NULL, SET DEFAULT, SET DEFAULT: the second disagrees with the first, and so does the third
  pub conflict_names_the_first_that_disagrees : answers
      (three_foreign_keys SetNull SetDefault SetDefault (three_new_keys ∷ []))
      ≡ ok ∷ ok ∷ ok_rows 1 ∷ ok_rows 1 ∷ refused (cause.ActionConflict (fault 4 2)) ∷ []
  pub conflicting_wave_is_counted : works
      (three_foreign_keys SetNull SetNull Cascade (three_new_keys ∷ []))
      ≡ idle ∷ idle ∷ work 1 0 ∷ work 1 0 ∷ work 1 1 ∷ []
  -- SET NULL, SET DEFAULT, CASCADE: DELETE FROM p; SELECT COUNT(*) FROM c;
  pub no_conflict_on_a_deleted_row : answers
      (three_foreign_keys SetNull SetDefault Cascade (delete_all 0 ∷ count_all 1 ∷ []))
      ≡ ok ∷ ok ∷ ok_rows 1 ∷ ok_rows 1 ∷ ok_rows 1 ∷ count_row 0 ∷ []
  -- CASCADE, SET NULL, RESTRICT: the conflict is with the second, RESTRICT with the third
  pub restrict_comes_before_a_conflict : answers
      (three_foreign_keys Cascade SetNull Restrict (three_new_keys ∷ []))
      ≡ ok ∷ ok ∷ ok_rows 1 ∷ ok_rows 1 ∷ refused (cause.Restrict (fault 5 2)) ∷ []
  pub set_null_sets_all_columns : answers (key_of_two_columns SetNull third_key_deleted)
      ≡ ok ∷ ok ∷ ok_rows 3 ∷ ok_rows 1 ∷ ok_rows 1 ∷ rows ((int 0 ∷ Null ∷ Null ∷ []) ∷ []) ∷ []
  pub set_default_takes_the_defaults_of_its_own_table : answers
      (key_of_two_columns SetDefault third_key_deleted)
      ≡ ok ∷ ok ∷ ok_rows 3 ∷ ok_rows 1 ∷ ok_rows 1 ∷ rows_of ((0 ∷ 2 ∷ 1 ∷ []) ∷ []) ∷ []
  -- CASCADE: UPDATE p SET b = 7 WHERE a = 5; SELECT * FROM c;
  pub cascade_copies_the_whole_key : answers
      (key_of_two_columns Cascade
      (update 0 (setting 1 (number 7) ∷ []) (where_column Equal 0 5) ∷ select_all 1 ∷ []))
      ≡ ok ∷ ok ∷ ok_rows 3 ∷ ok_rows 1 ∷ ok_rows 1 ∷ rows_of ((0 ∷ 7 ∷ 5 ∷ []) ∷ []) ∷ []
