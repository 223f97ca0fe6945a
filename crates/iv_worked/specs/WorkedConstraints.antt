-- Worked scripts on constraints, their modes, transactions and savepoints. Constraints, tables and
-- triggers have numbers from 0.
use Rattle.std.specs.Prelude.{◌≡◌, List, [], ◌∷◌, codes}
use Rattle.iv_worked.specs.Types.{Rule, Plan}
use Rattle.iv_worked.specs.Types.value.{Null}
use Rattle.iv_worked.specs.Types.comparison.{Greater}
use Rattle.iv_worked.specs.Types.cond.{Always}
use Rattle.iv_worked.specs.Types.mode.{Immediate, Deferred}
use Rattle.iv_worked.specs.Types.matching.{Simple, Full}
use Rattle.iv_worked.specs.Types.referential_action.{NoAction}
use Rattle.iv_worked.specs.Types.nulls.{Distinct}
use Rattle.iv_worked.specs.Types.rule
use Rattle.iv_worked.specs.Types.cause.{Violation, CommitRefused, UnknownSavepoint, NumberOutOfRange, AddRefused, NotDeferrable}
use Rattle.iv_expr.specs.Trees.{plus}
use Rattle.iv_worked.specs.WorkedPlans.{number, null, column, where_column, integer_column, not_deferrable, deferrable, initially_deferred, references_rule, create_table, add_constraint, setting, insert, insert_value, update, select, select_all, count_all, set_all, set_one, start, commit, rollback, savepoint, release, rollback_to}
use Rattle.iv_worked.specs.WorkedAnswers.{ok, ok_rows, int, rows, fault, refused, work, answers, works_within}

-- CREATE TABLE p (k INT PRIMARY KEY); CREATE TABLE c (x INT REFERENCES p INITIALLY DEFERRED);
abbrev pub parent_and_child : List Plan → List Plan
parent_and_child rest =
    create_table (integer_column ∷ []) (not_deferrable 0 (rule.PrimaryKey (0 ∷ [])) ∷ [])
    ∷ create_table (integer_column ∷ []) (initially_deferred 1 (references_rule 0 0 0 NoAction NoAction) ∷ [])
    ∷ rest

-- two columns that refer to the two columns of table 0
abbrev pub pair_simple : Rule
pair_simple = rule.ForeignKey
    (record {
      columns = 0 ∷ 1 ∷ [];
      referenced = 0;
      key = 0 ∷ 1
          ∷ [];
      matching = Simple;
      on_delete = NoAction;
      on_update = NoAction;
    })

abbrev pub pair_full : Rule
pair_full = rule.ForeignKey
    (record {
      columns = 0 ∷ 1 ∷ [];
      referenced = 0;
      key = 0 ∷ 1
          ∷ [];
      matching = Full;
      on_delete = NoAction;
      on_update = NoAction;
    })

abbrev pub commit_refused_plans : List Plan
commit_refused_plans = parent_and_child
    (insert_value 1 (number 7) ∷ commit ∷ select_all 1 ∷ start ∷ [])

pub record WorkedConstraints : Type 0 where
  -- CREATE TABLE t (a INT CHECK (a > 0)); INSERT .. (NULL); INSERT .. (0); COMMIT; SELECT * FROM t;
  pub check_unknown_passes : answers (
      create_table (integer_column ∷ []) (not_deferrable 0 (rule.Check (where_column Greater 0 0)) ∷ [])
      ∷ insert_value 0 null ∷ insert_value 0 (number 0) ∷ commit ∷ select_all 0 ∷ [])
      ≡ ok ∷ ok_rows 1 ∷ refused (Violation (fault 0 2)) ∷ ok ∷ rows ((Null ∷ []) ∷ []) ∷ []
  -- CREATE TABLE t (a INT, b INT, UNIQUE (a, b)); INSERT .. (1, NULL), (1, NULL); INSERT .. (1, 2);
  -- INSERT .. (1, 2);
  pub unique_passes_over_nulls : answers (
      create_table (integer_column ∷ integer_column ∷ []) (not_deferrable 0 (rule.Unique Distinct (0 ∷ 1 ∷ [])) ∷ [])
      ∷ insert 0 ((number 1 ∷ null ∷ []) ∷ (number 1 ∷ null ∷ []) ∷ [])
      ∷ insert 0 ((number 1 ∷ number 2 ∷ []) ∷ []) ∷ insert 0 ((number 1 ∷ number 2 ∷ []) ∷ [])
      ∷ [])
      ≡ ok ∷ ok_rows 2 ∷ ok_rows 1 ∷ refused (Violation (fault 0 3)) ∷ []
  -- CREATE TABLE t (k INT UNIQUE); INSERT .. (1), (2), (3); UPDATE t SET k = k + 1; SELECT k FROM t
  -- WHERE k > 2; COMMIT;
  pub unique_after_shift : answers (
      create_table (integer_column ∷ []) (not_deferrable 0 (rule.Unique Distinct (0 ∷ [])) ∷ [])
      ∷ insert 0 ((number 1 ∷ []) ∷ (number 2 ∷ []) ∷ (number 3 ∷ []) ∷ [])
      ∷ update 0 (setting 0 (plus (column 0) (number 1)) ∷ []) Always
      ∷ select 0 (column 0 ∷ []) (where_column Greater 0 2) ∷ commit ∷ [])
      ≡ ok ∷ ok_rows 3 ∷ ok_rows 3 ∷ rows ((int 3 ∷ []) ∷ (int 4 ∷ []) ∷ []) ∷ ok ∷ []
  -- CREATE TABLE a (k INT PRIMARY KEY, x INT); CREATE TABLE b (k INT PRIMARY KEY, y INT REFERENCES
  -- a INITIALLY DEFERRED); ALTER TABLE a ADD CONSTRAINT ring FOREIGN KEY (x) REFERENCES b INITIALLY
  -- DEFERRED; INSERT INTO b VALUES (1, 1); INSERT INTO a VALUES (1, 1); COMMIT;
  pub ring_of_deferred_keys : answers (
      create_table (integer_column ∷ integer_column ∷ []) (not_deferrable 0 (rule.PrimaryKey (0 ∷ [])) ∷ [])
      ∷ create_table (integer_column ∷ integer_column ∷ [])
      (not_deferrable 1 (rule.PrimaryKey (0 ∷ []))
      ∷ initially_deferred 1 (references_rule 1 0 0 NoAction NoAction) ∷ [])
      ∷ add_constraint (initially_deferred 0 (references_rule 1 1 0 NoAction NoAction))
      ∷ insert 1 ((number 1 ∷ number 1 ∷ []) ∷ []) ∷ insert 0 ((number 1 ∷ number 1 ∷ []) ∷ [])
      ∷ commit ∷ [])
      ≡ ok ∷ ok ∷ ok ∷ ok_rows 1 ∷ ok_rows 1 ∷ ok ∷ []
  -- CREATE TABLE t (a INT); INSERT INTO t VALUES (1); COMMIT; ALTER TABLE t ADD CHECK (a > 1);
  -- ALTER TABLE t ADD CONSTRAINT q CHECK (a > 0); START TRANSACTION; SET CONSTRAINTS q DEFERRED;
  -- ROLLBACK;
  pub constraint_added_over_rows : answers (
      create_table (integer_column ∷ []) [] ∷ insert_value 0 (number 1) ∷ commit
      ∷ add_constraint (not_deferrable 0 (rule.Check (where_column Greater 0 1)))
      ∷ add_constraint (not_deferrable 0 (rule.Check (where_column Greater 0 0))) ∷ start
      ∷ set_one 0 Deferred ∷ rollback ∷ [])
      ≡ ok ∷ ok_rows 1 ∷ ok ∷ refused (AddRefused 1) ∷ ok ∷ ok ∷ refused (NotDeferrable 0) ∷ ok ∷ []
  -- parent and child; INSERT INTO c VALUES (7); INSERT INTO p VALUES (7); COMMIT;
  pub deferred_key_mended : answers
      (parent_and_child (insert_value 1 (number 7) ∷ insert_value 0 (number 7) ∷ commit ∷ []))
      ≡ ok ∷ ok ∷ ok_rows 1 ∷ ok_rows 1 ∷ ok ∷ []
  -- parent and child; INSERT INTO c VALUES (7); COMMIT; SELECT * FROM c; START TRANSACTION;
  pub commit_refused_rolls_back : answers commit_refused_plans
      ≡ ok ∷ ok ∷ ok_rows 1 ∷ refused (CommitRefused (fault 1 1)) ∷ rows [] ∷ ok ∷ []
  pub commit_refused_undoes : works_within 65536 commit_refused_plans
      ≡ work 0 0 ∷ work 0 0 ∷ work 1 0 ∷ work 0 1 ∷ work 0 0 ∷ work 0 0 ∷ []
  -- parent and child; INSERT INTO c VALUES (7); SET CONSTRAINTS ALL IMMEDIATE; INSERT INTO c VALUES
  -- (8); INSERT INTO p VALUES (7), (8); SET CONSTRAINTS ALL IMMEDIATE; INSERT INTO c VALUES (9);
  -- COMMIT;
  pub set_constraints_immediate : answers (parent_and_child (
      insert_value 1 (number 7) ∷ set_all Immediate ∷ insert_value 1 (number 8)
      ∷ insert 0 ((number 7 ∷ []) ∷ (number 8 ∷ []) ∷ [])
      ∷ set_all Immediate ∷ insert_value 1 (number 9) ∷ commit ∷ []))
      ≡ ok ∷ ok ∷ ok_rows 1 ∷ refused (Violation (fault 1 1)) ∷ ok_rows 1 ∷ ok_rows 2 ∷ ok
      ∷ refused (Violation (fault 1 5)) ∷ ok ∷ []
  -- CREATE TABLE p (a INT, b INT, PRIMARY KEY (a, b)); CREATE TABLE s (a INT, b INT, FOREIGN KEY
  -- (a, b) REFERENCES p); CREATE TABLE f (a INT, b INT, FOREIGN KEY (a, b) REFERENCES p MATCH FULL
  -- DEFERRABLE); INSERT INTO s VALUES (1, NULL); INSERT INTO f VALUES (1, NULL); SET CONSTRAINTS
  -- f_c1 DEFERRED; INSERT INTO f VALUES (1, NULL); INSERT INTO p VALUES (1, 2); UPDATE f SET b = 2;
  -- COMMIT;
  pub match_simple_and_full : answers (
      create_table (integer_column ∷ integer_column ∷ []) (not_deferrable 0 (rule.PrimaryKey (0 ∷ 1 ∷ [])) ∷ [])
      ∷ create_table (integer_column ∷ integer_column ∷ []) (not_deferrable 1 pair_simple ∷ [])
      ∷ create_table (integer_column ∷ integer_column ∷ []) (deferrable 2 pair_full ∷ [])
      ∷ insert 1 ((number 1 ∷ null ∷ []) ∷ []) ∷ insert 2 ((number 1 ∷ null ∷ []) ∷ [])
      ∷ set_one 2 Deferred
      ∷ insert 2 ((number 1 ∷ null ∷ []) ∷ []) ∷ insert 0 ((number 1 ∷ number 2 ∷ []) ∷ [])
      ∷ update 2 (setting 1 (number 2) ∷ []) Always ∷ commit ∷ [])
      ≡ ok ∷ ok ∷ ok ∷ ok_rows 1 ∷ refused (Violation (fault 2 2)) ∷ ok ∷ ok_rows 1 ∷ ok_rows 1
      ∷ ok_rows 1 ∷ ok ∷ []
  -- CREATE TABLE t (a INT); INSERT .. (1), (9223372036854775807), (3); UPDATE t SET a = a + 1;
  -- SELECT * FROM t; COMMIT;
  pub overflow_undoes_statement : answers (
      create_table (integer_column ∷ []) []
      ∷ insert 0 ((number 1 ∷ []) ∷ (number 9223372036854775807 ∷ []) ∷ (number 3 ∷ []) ∷ [])
      ∷ update 0 (setting 0 (plus (column 0) (number 1)) ∷ []) Always ∷ select_all 0 ∷ commit ∷ [])
      ≡ ok ∷ ok_rows 3 ∷ refused NumberOutOfRange
      ∷ rows ((int 1 ∷ []) ∷ (int 9223372036854775807 ∷ []) ∷ (int 3 ∷ []) ∷ []) ∷ ok ∷ []
  -- CREATE TABLE p (k INT PRIMARY KEY); CREATE TABLE c (x INT CONSTRAINT fk REFERENCES p
  -- DEFERRABLE); START TRANSACTION; SAVEPOINT s; SET CONSTRAINTS fk DEFERRED; INSERT INTO c VALUES
  -- (2); SAVEPOINT s; INSERT INTO p VALUES (2); SET CONSTRAINTS fk IMMEDIATE; ROLLBACK TO SAVEPOINT
  -- s; INSERT INTO c VALUES (3); ROLLBACK TO SAVEPOINT s; SELECT * FROM c; RELEASE SAVEPOINT s;
  -- ROLLBACK TO SAVEPOINT s; COMMIT;
  pub savepoint_restores_modes : answers (
      create_table (integer_column ∷ []) (not_deferrable 0 (rule.PrimaryKey (0 ∷ [])) ∷ [])
      ∷ create_table (integer_column ∷ []) (deferrable 1 (references_rule 0 0 0 NoAction NoAction) ∷ [])
      ∷ start ∷ savepoint (codes "S") ∷ set_one 1 Deferred ∷ insert_value 1 (number 2)
      ∷ savepoint (codes "S")
      ∷ insert_value 0 (number 2) ∷ set_one 1 Immediate ∷ rollback_to (codes "S")
      ∷ insert_value 1 (number 3) ∷ rollback_to (codes "S")
      ∷ select_all 1 ∷ release (codes "S") ∷ rollback_to (codes "S") ∷ commit ∷ [])
      ≡ ok ∷ ok ∷ ok ∷ ok ∷ ok ∷ ok_rows 1 ∷ ok ∷ ok_rows 1 ∷ ok ∷ ok ∷ ok_rows 1 ∷ ok
      ∷ rows ((int 2 ∷ []) ∷ []) ∷ ok
      ∷ refused UnknownSavepoint ∷ refused (CommitRefused (fault 1 1)) ∷ []
  -- CREATE TABLE t (a INT); START TRANSACTION; SAVEPOINT x; INSERT INTO t VALUES (1); SAVEPOINT y;
  -- INSERT INTO t VALUES (2); RELEASE SAVEPOINT x; ROLLBACK TO SAVEPOINT y; COMMIT; SELECT COUNT(*)
  -- FROM t;
  pub release_keeps_no_later : answers (
      create_table (integer_column ∷ []) [] ∷ start ∷ savepoint (codes "X") ∷ insert_value 0 (number 1)
      ∷ savepoint (codes "Y")
      ∷ insert_value 0 (number 2) ∷ release (codes "X") ∷ rollback_to (codes "Y") ∷ commit
      ∷ count_all 0 ∷ [])
      ≡ ok ∷ ok ∷ ok ∷ ok_rows 1 ∷ ok ∷ ok_rows 1 ∷ ok ∷ refused UnknownSavepoint ∷ ok
      ∷ rows ((int 2 ∷ []) ∷ []) ∷ []
  -- CREATE TABLE t (a INT CHECK (a > 0), b INT CHECK (b > 0)); INSERT INTO t VALUES (1, 0), (0, 1); the
  -- earlier constraint is told, and not the earlier row
  pub violations_by_constraint : answers (
      create_table (integer_column ∷ integer_column ∷ [])
      (not_deferrable 0 (rule.Check (where_column Greater 0 0)) ∷ not_deferrable 0 (rule.Check (where_column Greater 1 0)) ∷ [])
      ∷ insert 0 ((number 1 ∷ number 0 ∷ []) ∷ (number 0 ∷ number 1 ∷ []) ∷ []) ∷ [])
      ≡ ok ∷ refused (Violation (fault 0 2)) ∷ []
