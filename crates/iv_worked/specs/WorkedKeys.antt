-- Worked scripts on keys and their nulls, on the scan, and on constraints that are added over rows.
use Rattle.std.specs.Prelude.{◌≡◌, List, [], ◌∷◌}
use Rattle.iv_worked.specs.Types.{MatchType, Plan}
use Rattle.iv_worked.specs.Types.comparison.{Greater}
use Rattle.iv_worked.specs.Types.matching.{Simple, Full}
use Rattle.iv_worked.specs.Types.referential_action.{NoAction}
use Rattle.iv_worked.specs.Types.nulls.{Distinct}
use Rattle.iv_worked.specs.Types.rule
use Rattle.iv_worked.specs.Types.cause.{Violation, CommitRefused, AddRefused}
use Rattle.iv_worked.specs.WorkedPlans.{number, numbers, null, where_column, integer_column, not_deferrable, deferrable, initially_deferred, foreign_key_rule, create_table, add_constraint, insert, insert_row, insert_value, update_all, delete, commit}
use Rattle.iv_worked.specs.WorkedAnswers.{ok, ok_rows, fault, refused, answers, pending_after}

-- CREATE TABLE p (a INT, b INT, UNIQUE (a, b)); CREATE TABLE f (a INT, b INT, FOREIGN KEY (a, b)
-- REFERENCES p (a, b) MATCH ..); INSERT INTO p VALUES (1, NULL), (1, 2); INSERT INTO f VALUES (1,
-- NULL); INSERT INTO f VALUES (NULL, 2); INSERT INTO f VALUES (NULL, NULL); INSERT INTO f VALUES
-- (1, 2); INSERT INTO f VALUES (1, 3);
abbrev pub nulls_in_a_foreign_key : MatchType → List Plan
nulls_in_a_foreign_key matching =
    create_table (integer_column ∷ integer_column ∷ []) (not_deferrable 0 (rule.Unique Distinct (0 ∷ 1 ∷ [])) ∷ [])
    ∷ create_table (integer_column ∷ integer_column ∷ [])
    (not_deferrable 1 (foreign_key_rule (0 ∷ 1 ∷ []) 0 (0 ∷ 1 ∷ []) matching NoAction NoAction) ∷ [])
    ∷ insert 0 ((number 1 ∷ null ∷ []) ∷ numbers (1 ∷ 2 ∷ []) ∷ [])
    ∷ insert_row 1 (number 1 ∷ null ∷ []) ∷ insert_row 1 (null ∷ number 2 ∷ [])
    ∷ insert_row 1 (null ∷ null ∷ [])
    ∷ insert_row 1 (numbers (1 ∷ 2 ∷ [])) ∷ insert_row 1 (numbers (1 ∷ 3 ∷ [])) ∷ []

-- CREATE TABLE t (k INT UNIQUE INITIALLY DEFERRED, x INT CHECK (x > 0)); INSERT INTO t VALUES (1,
-- 1), (2, 1), (1, 1), (NULL, 1), (NULL, 1);
abbrev pub duplicates : List Plan
duplicates =
    create_table (integer_column ∷ integer_column ∷ [])
    (initially_deferred 0 (rule.Unique Distinct (0 ∷ []))
    ∷ not_deferrable 0 (rule.Check (where_column Greater 1 0)) ∷ [])
    ∷ insert 0
    (numbers (1 ∷ 1 ∷ []) ∷ numbers (2 ∷ 1 ∷ []) ∷ numbers (1 ∷ 1 ∷ []) ∷ (null ∷ number 1 ∷ [])
    ∷ (null ∷ number 1 ∷ []) ∷ []) ∷ []

pub record WorkedKeys : Type 0 where
  -- CREATE TABLE t (a INT, b INT, PRIMARY KEY (a, b)); INSERT INTO t VALUES (1, NULL); INSERT INTO
  -- t VALUES (NULL, 1); INSERT INTO t VALUES (1, 1); UPDATE t SET a = NULL; INSERT INTO t VALUES
  -- (1, 1); INSERT INTO t VALUES (1, 2);
  pub primary_key_has_no_null : answers (
      create_table (integer_column ∷ integer_column ∷ []) (not_deferrable 0 (rule.PrimaryKey (0 ∷ 1 ∷ [])) ∷ [])
      ∷ insert_row 0 (number 1 ∷ null ∷ []) ∷ insert_row 0 (null ∷ number 1 ∷ [])
      ∷ insert_row 0 (numbers (1 ∷ 1 ∷ []))
      ∷ update_all 0 0 null ∷ insert_row 0 (numbers (1 ∷ 1 ∷ []))
      ∷ insert_row 0 (numbers (1 ∷ 2 ∷ [])) ∷ [])
      ≡ ok ∷ refused (Violation (fault 0 1)) ∷ refused (Violation (fault 0 1)) ∷ ok_rows 1
      ∷ refused (Violation (fault 0 1)) ∷ refused (Violation (fault 0 1)) ∷ ok_rows 1 ∷ []
  pub match_simple_with_nulls : answers (nulls_in_a_foreign_key Simple)
      ≡ ok ∷ ok ∷ ok_rows 2 ∷ ok_rows 1 ∷ ok_rows 1 ∷ ok_rows 1 ∷ ok_rows 1
      ∷ refused (Violation (fault 1 7)) ∷ []
  -- all null, or none
  pub match_full_with_nulls : answers (nulls_in_a_foreign_key Full)
      ≡ ok ∷ ok ∷ ok_rows 2 ∷ refused (Violation (fault 1 3)) ∷ refused (Violation (fault 1 3))
      ∷ ok_rows 1 ∷ ok_rows 1
      ∷ refused (Violation (fault 1 5)) ∷ []
  -- both rows of an equal pair violate UNIQUE, and none with a null
  pub duplicates_violate_both : pending_after duplicates ≡ fault 0 1 ∷ fault 0 3 ∷ []
  -- CREATE TABLE t (a INT); INSERT INTO t VALUES (5), (1), (0); COMMIT; ALTER TABLE t ADD CHECK (a
  -- > 1) INITIALLY DEFERRED; ALTER TABLE t ADD CHECK (a > 0) DEFERRABLE; DELETE FROM t WHERE a > 4;
  -- COMMIT; ALTER TABLE t ADD CHECK (a > 2); UPDATE t SET a = 3; COMMIT; ALTER TABLE t ADD CHECK (a
  -- > 2) INITIALLY DEFERRED; INSERT INTO t VALUES (2); COMMIT;
  pub added_constraint_looks_at_all_rows : answers (
      create_table (integer_column ∷ []) []
      ∷ insert 0 (numbers (5 ∷ []) ∷ numbers (1 ∷ []) ∷ numbers (0 ∷ []) ∷ []) ∷ commit
      ∷ add_constraint (initially_deferred 0 (rule.Check (where_column Greater 0 1)))
      ∷ add_constraint (deferrable 0 (rule.Check (where_column Greater 0 0)))
      ∷ delete 0 (where_column Greater 0 4) ∷ commit
      ∷ add_constraint (not_deferrable 0 (rule.Check (where_column Greater 0 2)))
      ∷ update_all 0 0 (number 3) ∷ commit
      ∷ add_constraint (initially_deferred 0 (rule.Check (where_column Greater 0 2)))
      ∷ insert_value 0 (number 2) ∷ commit ∷ [])
      ≡ ok ∷ ok_rows 3 ∷ ok ∷ refused (AddRefused 2) ∷ refused (AddRefused 3) ∷ ok_rows 1 ∷ ok
      ∷ refused (AddRefused 2)
      ∷ ok_rows 2 ∷ ok ∷ ok ∷ ok_rows 1 ∷ refused (CommitRefused (fault 0 4)) ∷ []
