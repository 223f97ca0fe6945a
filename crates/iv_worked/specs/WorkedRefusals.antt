-- Worked scripts with what is told of a savepoint that isn't there, and of a constraint that isn't added. Tables and columns have numbers
-- from 0, rows from 1.
use Rattle.std.specs.Prelude.{◌≡◌, ℕ, List, [], ◌∷◌, ◌++◌, map, codes}
use Rattle.iv_worked.specs.Types.{Constraint, Plan, Entry}
use Rattle.iv_worked.specs.Types.comparison.{Greater}
use Rattle.iv_worked.specs.Types.nulls.{Distinct, NotDistinct}
use Rattle.iv_worked.specs.Types.referential_action.{NoAction}
use Rattle.iv_worked.specs.Types.rule
use Rattle.iv_worked.specs.Types.entry.{Standing, NotAdded}
use Rattle.iv_worked.specs.WorkedPlans.{number, numbers, null, where_column, integer_column, not_deferrable, initially_deferred, references_rule, create_table, insert, insert_value, add_constraint, start, commit, savepoint, release, rollback_to}
use Rattle.iv_worked.specs.WorkedAnswers.{told}
use Rattle.iv_worked.specs.WorkedAccounts.{stored, stored_null}

-- START TRANSACTION; SAVEPOINT a; SAVEPOINT b; and so on, and then the last
abbrev pub with_savepoints : List (List ℕ) → List Plan → List Plan
with_savepoints names last = start ∷ (map savepoint names ++ last)

-- CREATE TABLE t (a INT); INSERT INTO t VALUES (4), (7), (4); COMMIT; ALTER TABLE t ADD ..
abbrev pub adding : Constraint → List Plan
adding k =
    create_table (integer_column ∷ []) [] ∷ insert 0 (numbers (4 ∷ []) ∷ numbers (7 ∷ []) ∷ numbers (4 ∷ []) ∷ []) ∷ commit
    ∷ add_constraint k ∷ []

-- the same with the rows 4, NULL and NULL
abbrev pub adding_to_nulls : Constraint → List Plan
adding_to_nulls k =
    create_table (integer_column ∷ []) [] ∷ insert 0 (numbers (4 ∷ []) ∷ (null ∷ []) ∷ (null ∷ []) ∷ []) ∷ commit ∷ add_constraint k ∷ []

abbrev pub is_above : ℕ → Constraint
is_above n = not_deferrable 0 (rule.Check (where_column Greater 0 n))

pub record WorkedRefusals : Type 0 where
  -- ---- savepoints
  -- SAVEPOINT a; SAVEPOINT b; RELEASE SAVEPOINT z; the earliest is first
  pub release_of_none : told (with_savepoints (codes "A" ∷ codes "B" ∷ []) (release (codes "Z") ∷ []))
      ≡ Standing (codes "A" ∷ codes "B" ∷ []) ∷ []
  -- SAVEPOINT a; SAVEPOINT b; SAVEPOINT a; ROLLBACK TO SAVEPOINT z; a used name is that of the latest
  pub rollback_to_none : told (with_savepoints (codes "A" ∷ codes "B" ∷ codes "A" ∷ []) (rollback_to (codes "Z") ∷ []))
      ≡ Standing (codes "B" ∷ codes "A" ∷ []) ∷ []
  -- SAVEPOINT a; SAVEPOINT b; SAVEPOINT c; ROLLBACK TO SAVEPOINT b; RELEASE SAVEPOINT c; c went, and b stands
  pub later_ones_are_gone : told (
      with_savepoints (codes "A" ∷ codes "B" ∷ codes "C" ∷ []) (rollback_to (codes "B") ∷ release (codes "C") ∷ []))
      ≡ Standing (codes "A" ∷ codes "B" ∷ []) ∷ []
  -- SAVEPOINT a; RELEASE SAVEPOINT a; ROLLBACK TO SAVEPOINT a; none stands
  pub none_stands : told (with_savepoints (codes "A" ∷ []) (release (codes "A") ∷ rollback_to (codes "A") ∷ []))
      ≡ Standing [] ∷ []
  -- SAVEPOINT a; SAVEPOINT b; ROLLBACK TO SAVEPOINT a; nothing is told of one that is there
  pub rollback_to_one : told (with_savepoints (codes "A" ∷ codes "B" ∷ []) (rollback_to (codes "A") ∷ [])) ≡ []
  -- SAVEPOINT a; SAVEPOINT b; RELEASE SAVEPOINT a;
  pub release_of_one : told (with_savepoints (codes "A" ∷ codes "B" ∷ []) (release (codes "A") ∷ [])) ≡ []
  -- ---- constraints
  -- ADD CHECK (a > 5); the first of two rows
  pub check_of_a_row : told (adding (is_above 5)) ≡ NotAdded (is_above 5) (stored 0 1 (4 ∷ []) ∷ []) ∷ []
  -- ADD CHECK (a > 3); it is added
  pub check_of_no_row : told (adding (is_above 3)) ≡ []
  -- ADD CHECK (a > 5) INITIALLY DEFERRED; it is asked at once too
  pub deferred_check : told (adding (initially_deferred 0 (rule.Check (where_column Greater 0 5))))
      ≡ NotAdded (initially_deferred 0 (rule.Check (where_column Greater 0 5))) (stored 0 1 (4 ∷ []) ∷ []) ∷ []
  -- ADD UNIQUE (a); the row, and the first other row with its key
  pub key_of_two_rows : told (adding (not_deferrable 0 (rule.Unique Distinct (0 ∷ []))))
      ≡ NotAdded (not_deferrable 0 (rule.Unique Distinct (0 ∷ []))) (stored 0 1 (4 ∷ []) ∷ stored 0 3 (4 ∷ []) ∷ []) ∷ []
  -- ADD PRIMARY KEY (a); a null in the key, and no other row
  pub null_in_a_key : told (adding_to_nulls (not_deferrable 0 (rule.PrimaryKey (0 ∷ []))))
      ≡ NotAdded (not_deferrable 0 (rule.PrimaryKey (0 ∷ []))) (stored_null 2 ∷ []) ∷ []
  -- ADD UNIQUE NULLS NOT DISTINCT (a); two nulls are one key
  pub nulls_as_a_key : told (adding_to_nulls (not_deferrable 0 (rule.Unique NotDistinct (0 ∷ []))))
      ≡ NotAdded (not_deferrable 0 (rule.Unique NotDistinct (0 ∷ []))) (stored_null 2 ∷ stored_null 3 ∷ []) ∷ []
  -- CREATE TABLE p (k INT PRIMARY KEY); CREATE TABLE c (x INT); INSERT INTO p VALUES (4); INSERT INTO c VALUES (4), (7); COMMIT; ALTER
  -- TABLE c ADD FOREIGN KEY (x) REFERENCES p; rows are numbered over all tables
  pub key_that_is_missing : told (
      create_table (integer_column ∷ []) (not_deferrable 0 (rule.PrimaryKey (0 ∷ [])) ∷ []) ∷ create_table (integer_column ∷ []) []
      ∷ insert_value 0 (number 4) ∷ insert 1 (numbers (4 ∷ []) ∷ numbers (7 ∷ []) ∷ []) ∷ commit
      ∷ add_constraint (not_deferrable 1 (references_rule 0 0 0 NoAction NoAction)) ∷ [])
      ≡ NotAdded (not_deferrable 1 (references_rule 0 0 0 NoAction NoAction)) (stored 1 3 (7 ∷ []) ∷ []) ∷ []
