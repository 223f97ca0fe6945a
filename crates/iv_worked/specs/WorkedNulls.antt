-- Worked scripts on UNIQUE NULLS NOT DISTINCT. Constraints and tables have numbers from 0.
use Rattle.std.specs.Prelude.{◌≡◌, List, [], ◌∷◌}
use Rattle.iv_worked.specs.Types.{MatchType, Plan}
use Rattle.iv_worked.specs.Types.value.{Null}
use Rattle.iv_worked.specs.Types.comparison.{Equal}
use Rattle.iv_worked.specs.Types.matching.{Simple, Full}
use Rattle.iv_worked.specs.Types.nulls.{Distinct, NotDistinct}
use Rattle.iv_worked.specs.Types.referential_action.{NoAction, Cascade}
use Rattle.iv_worked.specs.Types.rule
use Rattle.iv_worked.specs.Types.cause.{Violation, AddRefused}
use Rattle.iv_worked.specs.WorkedPlans.{number, numbers, null, where_column, integer_column, not_deferrable, initially_deferred, foreign_key_rule, references_rule, create_table, add_constraint, insert, insert_row, update, setting, delete_all, select_all, commit}
use Rattle.iv_worked.specs.WorkedAnswers.{ok, ok_rows, rows, fault, refused, answers, pending_after}

-- CREATE TABLE p (a INT, b INT, UNIQUE NULLS NOT DISTINCT (a, b)); CREATE TABLE f (a INT, b INT, FOREIGN KEY (a, b)
-- REFERENCES p (a, b) MATCH ..); INSERT INTO p VALUES (1, NULL); INSERT INTO f VALUES (1, NULL); INSERT INTO f VALUES
-- (NULL, NULL);
abbrev pub referenced_nulls : MatchType → List Plan
referenced_nulls matching =
    create_table (integer_column ∷ integer_column ∷ []) (not_deferrable 0 (rule.Unique NotDistinct (0 ∷ 1 ∷ [])) ∷ [])
    ∷ create_table (integer_column ∷ integer_column ∷ [])
    (not_deferrable 1 (foreign_key_rule (0 ∷ 1 ∷ []) 0 (0 ∷ 1 ∷ []) matching NoAction NoAction) ∷ [])
    ∷ insert_row 0 (number 1 ∷ null ∷ []) ∷ insert_row 1 (number 1 ∷ null ∷ [])
    ∷ insert_row 1 (null ∷ null ∷ []) ∷ []

pub record WorkedNulls : Type 0 where
  -- CREATE TABLE t (a INT, b INT, UNIQUE NULLS NOT DISTINCT (a, b)); INSERT INTO t VALUES (1, NULL); INSERT INTO t VALUES (1,
  -- NULL); INSERT INTO t VALUES (NULL, NULL), (2, NULL); UPDATE t SET a = 1 WHERE a = 2; COMMIT;
  pub nulls_not_distinct : answers (
      create_table (integer_column ∷ integer_column ∷ []) (not_deferrable 0 (rule.Unique NotDistinct (0 ∷ 1 ∷ [])) ∷ [])
      ∷ insert_row 0 (number 1 ∷ null ∷ []) ∷ insert_row 0 (number 1 ∷ null ∷ [])
      ∷ insert 0 ((null ∷ null ∷ []) ∷ (number 2 ∷ null ∷ []) ∷ [])
      ∷ update 0 (setting 0 (number 1) ∷ []) (where_column Equal 0 2) ∷ commit ∷ [])
      ≡ ok ∷ ok_rows 1 ∷ refused (Violation (fault 0 1)) ∷ ok_rows 2 ∷ refused (Violation (fault 0 1)) ∷ ok ∷ []
  -- CREATE TABLE p (k INT UNIQUE NULLS NOT DISTINCT); CREATE TABLE c (x INT REFERENCES p (k) ON DELETE CASCADE); INSERT INTO p
  -- VALUES (NULL), (1); INSERT INTO c VALUES (NULL), (1); DELETE FROM p; SELECT * FROM c; COMMIT;
  pub nulls_not_distinct_parent : answers (
      create_table (integer_column ∷ []) (not_deferrable 0 (rule.Unique NotDistinct (0 ∷ [])) ∷ [])
      ∷ create_table (integer_column ∷ []) (not_deferrable 1 (references_rule 0 0 0 Cascade NoAction) ∷ [])
      ∷ insert 0 ((null ∷ []) ∷ numbers (1 ∷ []) ∷ []) ∷ insert 1 ((null ∷ []) ∷ numbers (1 ∷ []) ∷ [])
      ∷ delete_all 0 ∷ select_all 1 ∷ commit ∷ [])
      ≡ ok ∷ ok ∷ ok_rows 2 ∷ ok_rows 2 ∷ ok_rows 2 ∷ rows ((Null ∷ []) ∷ []) ∷ ok ∷ []
  -- both rows of a pair violate it: CREATE TABLE t (k INT UNIQUE NULLS NOT DISTINCT INITIALLY DEFERRED); INSERT INTO t VALUES
  -- (NULL), (1), (NULL);
  pub both_rows_violate : pending_after (
      create_table (integer_column ∷ []) (initially_deferred 0 (rule.Unique NotDistinct (0 ∷ [])) ∷ [])
      ∷ insert 0 ((null ∷ []) ∷ numbers (1 ∷ []) ∷ (null ∷ []) ∷ []) ∷ [])
      ≡ fault 0 1 ∷ fault 0 3 ∷ []
  -- one null row violates nothing, and a plain UNIQUE beside it lets nulls be: CREATE TABLE t (a INT UNIQUE, b INT UNIQUE NULLS
  -- NOT DISTINCT); INSERT INTO t VALUES (NULL, NULL); INSERT INTO t VALUES (NULL, 1); INSERT INTO t VALUES (2, NULL);
  pub beside_a_plain_unique : answers (
      create_table (integer_column ∷ integer_column ∷ [])
      (not_deferrable 0 (rule.Unique Distinct (0 ∷ [])) ∷ not_deferrable 0 (rule.Unique NotDistinct (1 ∷ [])) ∷ [])
      ∷ insert_row 0 (null ∷ null ∷ []) ∷ insert_row 0 (null ∷ number 1 ∷ []) ∷ insert_row 0 (number 2 ∷ null ∷ []) ∷ [])
      ≡ ok ∷ ok_rows 1 ∷ ok_rows 1 ∷ refused (Violation (fault 1 1)) ∷ []
  -- a key with a null is no referenced key: MATCH SIMPLE needs none, and MATCH FULL refuses it
  pub simple_needs_none : answers (referenced_nulls Simple) ≡ ok ∷ ok ∷ ok_rows 1 ∷ ok_rows 1 ∷ ok_rows 1 ∷ []
  pub full_refuses_it : answers (referenced_nulls Full)
      ≡ ok ∷ ok ∷ ok_rows 1 ∷ refused (Violation (fault 1 2)) ∷ ok_rows 1 ∷ []
  -- CREATE TABLE t (a INT); INSERT INTO t VALUES (NULL), (NULL); COMMIT; ALTER TABLE t ADD UNIQUE (a); ALTER TABLE t ADD UNIQUE
  -- NULLS NOT DISTINCT (a);
  pub added_over_nulls : answers (
      create_table (integer_column ∷ []) [] ∷ insert 0 ((null ∷ []) ∷ (null ∷ []) ∷ []) ∷ commit
      ∷ add_constraint (not_deferrable 0 (rule.Unique Distinct (0 ∷ [])))
      ∷ add_constraint (not_deferrable 0 (rule.Unique NotDistinct (0 ∷ []))) ∷ [])
      ≡ ok ∷ ok_rows 2 ∷ ok ∷ ok ∷ refused (AddRefused 1) ∷ []
