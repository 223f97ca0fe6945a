-- Worked scripts on transactions: savepoints, what is undone, modes at the end, and SET
-- CONSTRAINTS.
use Rattle.std.specs.Prelude.{◌≡◌, List, [], ◌∷◌, codes}
use Rattle.iv_worked.specs.Types.{Plan}
use Rattle.iv_worked.specs.Types.comparison.{Less, Greater}
use Rattle.iv_worked.specs.Types.mode.{Immediate, Deferred}
use Rattle.iv_worked.specs.Types.referential_action.{NoAction}
use Rattle.iv_worked.specs.Types.nulls.{Distinct}
use Rattle.iv_worked.specs.Types.rule
use Rattle.iv_worked.specs.Types.cause.{Violation, UnknownSavepoint, NotDeferrable}
use Rattle.iv_worked.specs.WorkedPlans.{number, numbers, where_column, integer_column, not_deferrable, deferrable, initially_deferred, references_rule, create_table, insert_row, insert_value, update_all, select_all, count_all, set_all, set_these, set_one, start, commit, rollback, savepoint, release, rollback_to}
use Rattle.iv_worked.specs.WorkedAnswers.{ok, ok_rows, rows_of, count_row, fault, refused, work, idle, answers, works}

-- CREATE TABLE t (a INT CHECK (a < 5));
abbrev pub small_numbers : List Plan → List Plan
small_numbers rest = create_table (integer_column ∷ [])
    (not_deferrable 0 (rule.Check (where_column Less 0 5)) ∷ []) ∷ rest

-- small_numbers; START TRANSACTION; INSERT INTO t VALUES (1); SAVEPOINT s; INSERT INTO t VALUES
-- (2); INSERT INTO t VALUES (3); ROLLBACK TO SAVEPOINT s; INSERT INTO t VALUES (9); INSERT INTO t
-- VALUES (4); ROLLBACK;
abbrev pub back_to_a_savepoint : List Plan
back_to_a_savepoint = small_numbers (
    start ∷ insert_value 0 (number 1) ∷ savepoint (codes "S") ∷ insert_value 0 (number 2)
    ∷ insert_value 0 (number 3)
    ∷ rollback_to (codes "S") ∷ insert_value 0 (number 9) ∷ insert_value 0 (number 4) ∷ rollback ∷ [])

-- small_numbers; INSERT INTO t VALUES (1); COMMIT; INSERT INTO t VALUES (2); ROLLBACK; INSERT INTO
-- t VALUES (9); ROLLBACK; SELECT * FROM t;
abbrev pub committed_and_rolled_back : List Plan
committed_and_rolled_back = small_numbers (
    insert_value 0 (number 1) ∷ commit ∷ insert_value 0 (number 2) ∷ rollback ∷ insert_value 0 (number 9)
    ∷ rollback ∷ select_all 0 ∷ [])

-- CREATE TABLE p (k INT PRIMARY KEY); CREATE TABLE c (x INT CONSTRAINT fk REFERENCES p DEFERRABLE);
-- START TRANSACTION; SET CONSTRAINTS fk DEFERRED; the end; INSERT INTO c VALUES (7);
abbrev pub deferred_until : Plan → List Plan
deferred_until end =
    create_table (integer_column ∷ []) (not_deferrable 0 (rule.PrimaryKey (0 ∷ [])) ∷ [])
    ∷ create_table (integer_column ∷ []) (deferrable 1 (references_rule 0 0 0 NoAction NoAction) ∷ [])
    ∷ start ∷ set_one 1 Deferred ∷ end ∷ insert_value 1 (number 7) ∷ []

pub record WorkedTransactions : Type 0 where
  -- CREATE TABLE t (a INT); START TRANSACTION; SAVEPOINT x; INSERT INTO t VALUES (1); SAVEPOINT y;
  -- INSERT INTO t VALUES (2); SAVEPOINT x; INSERT INTO t VALUES (3); ROLLBACK TO SAVEPOINT x;
  -- SELECT COUNT(*) FROM t; ROLLBACK TO SAVEPOINT y; SELECT COUNT(*) FROM t; ROLLBACK TO SAVEPOINT
  -- x; RELEASE SAVEPOINT x;
  pub savepoint_of_a_used_name : answers (
      create_table (integer_column ∷ []) [] ∷ start ∷ savepoint (codes "X") ∷ insert_value 0 (number 1)
      ∷ savepoint (codes "Y")
      ∷ insert_value 0 (number 2) ∷ savepoint (codes "X") ∷ insert_value 0 (number 3)
      ∷ rollback_to (codes "X") ∷ count_all 0
      ∷ rollback_to (codes "Y") ∷ count_all 0 ∷ rollback_to (codes "X") ∷ release (codes "X") ∷ [])
      ≡ ok ∷ ok ∷ ok ∷ ok_rows 1 ∷ ok ∷ ok_rows 1 ∷ ok ∷ ok_rows 1 ∷ ok ∷ count_row 2
      ∷ ok ∷ count_row 1 ∷ refused UnknownSavepoint ∷ refused UnknownSavepoint ∷ []
  -- rows 2 and 3 are undone, so the next row has the number 2 again
  pub rollback_to_gives_numbers_back : answers back_to_a_savepoint
      ≡ ok ∷ ok ∷ ok_rows 1 ∷ ok ∷ ok_rows 1 ∷ ok_rows 1 ∷ ok ∷ refused (Violation (fault 0 2))
      ∷ ok_rows 1 ∷ ok ∷ []
  -- CREATE TABLE t (a INT); INSERT INTO t VALUES (1); INSERT INTO t VALUES (2); ROLLBACK; SELECT COUNT(*) FROM t;
  pub rollback_leads_to_before_the_first_statement : answers (
      create_table (integer_column ∷ []) [] ∷ insert_value 0 (number 1) ∷ insert_value 0 (number 2)
      ∷ rollback ∷ count_all 0 ∷ [])
      ≡ ok ∷ ok_rows 1 ∷ ok_rows 1 ∷ ok ∷ count_row 0 ∷ []
  -- START TRANSACTION; SAVEPOINT x; COMMIT; START TRANSACTION; ROLLBACK TO SAVEPOINT x; ROLLBACK;
  pub savepoints_end_with_their_transaction : answers (
      start ∷ savepoint (codes "X") ∷ commit ∷ start ∷ rollback_to (codes "X") ∷ rollback ∷ [])
      ≡ ok ∷ ok ∷ ok ∷ ok ∷ refused UnknownSavepoint ∷ ok ∷ []
  -- ROLLBACK TO undoes two changes; then one is refused, and two are left, which ROLLBACK undoes
  pub rollback_to_gives_the_count_back : works back_to_a_savepoint
      ≡ idle ∷ idle ∷ work 1 0 ∷ idle ∷ work 1 0 ∷ work 1 0 ∷ work 0 2 ∷ work 1 1 ∷ work 1 0
      ∷ work 0 2 ∷ []
  -- row 1 is committed; row 2 was undone, and its number is given again
  pub committed_numbers_stay : answers committed_and_rolled_back
      ≡ ok ∷ ok_rows 1 ∷ ok ∷ ok_rows 1 ∷ ok ∷ refused (Violation (fault 0 2)) ∷ ok
      ∷ rows_of ((1 ∷ []) ∷ []) ∷ []
  -- what was committed isn't undone, and outside a transaction nothing is
  pub commit_ends_the_count : works committed_and_rolled_back
      ≡ idle ∷ work 1 0 ∷ idle ∷ work 1 0 ∷ work 0 1 ∷ work 1 1 ∷ idle ∷ idle ∷ []
  pub commit_ends_the_modes : answers (deferred_until commit)
      ≡ ok ∷ ok ∷ ok ∷ ok ∷ ok ∷ refused (Violation (fault 1 1)) ∷ []
  pub rollback_ends_the_modes : answers (deferred_until rollback)
      ≡ ok ∷ ok ∷ ok ∷ ok ∷ ok ∷ refused (Violation (fault 1 1)) ∷ []
  -- CREATE TABLE p (k INT PRIMARY KEY); CREATE TABLE c (x INT CONSTRAINT fk REFERENCES p INITIALLY
  -- DEFERRED, y INT CONSTRAINT pos CHECK (y > 0) INITIALLY DEFERRED); INSERT INTO c VALUES (7, 1);
  -- SET CONSTRAINTS pos IMMEDIATE; INSERT INTO c VALUES (7, 0); SET CONSTRAINTS pos, fk IMMEDIATE;
  -- SET CONSTRAINTS ALL IMMEDIATE; INSERT INTO p VALUES (7); SET CONSTRAINTS fk IMMEDIATE; COMMIT;
  pub set_constraints_looks_at_those_it_names : answers (
      create_table (integer_column ∷ []) (not_deferrable 0 (rule.PrimaryKey (0 ∷ [])) ∷ [])
      ∷ create_table (integer_column ∷ integer_column ∷ [])
      (initially_deferred 1 (references_rule 0 0 0 NoAction NoAction)
      ∷ initially_deferred 1 (rule.Check (where_column Greater 1 0)) ∷ [])
      ∷ insert_row 1 (numbers (7 ∷ 1 ∷ [])) ∷ set_one 2 Immediate
      ∷ insert_row 1 (numbers (7 ∷ 0 ∷ []))
      ∷ set_these (2 ∷ 1 ∷ []) Immediate ∷ set_all Immediate ∷ insert_value 0 (number 7)
      ∷ set_one 1 Immediate ∷ commit ∷ [])
      ≡ ok ∷ ok ∷ ok_rows 1 ∷ ok ∷ refused (Violation (fault 2 2)) ∷ refused (Violation (fault 1 1))
      ∷ refused (Violation (fault 1 1)) ∷ ok_rows 1 ∷ ok ∷ ok ∷ []
  -- A refusal leaves all modes, and one that isn't deferrable is answered before any violation.
  -- CREATE TABLE t (a INT CONSTRAINT pos CHECK (a > 0) INITIALLY DEFERRED, CONSTRAINT one UNIQUE
  -- (a)); INSERT INTO t VALUES (0); SET CONSTRAINTS pos, one IMMEDIATE; UPDATE t SET a = 0; UPDATE
  -- t SET a = 1; COMMIT;
  pub refused_modes_stay : answers (
      create_table (integer_column ∷ [])
      (initially_deferred 0 (rule.Check (where_column Greater 0 0))
      ∷ not_deferrable 0 (rule.Unique Distinct (0 ∷ [])) ∷ [])
      ∷ insert_value 0 (number 0) ∷ set_these (0 ∷ 1 ∷ []) Immediate ∷ update_all 0 0 (number 0)
      ∷ update_all 0 0 (number 1) ∷ commit ∷ [])
      ≡ ok ∷ ok_rows 1 ∷ refused (NotDeferrable 1) ∷ ok_rows 1 ∷ ok_rows 1 ∷ ok ∷ []
