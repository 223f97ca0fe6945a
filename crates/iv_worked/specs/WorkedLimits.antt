-- Worked scripts on limits: the budget of a statement, the changes of a transaction, and row
-- numbers.
use Rattle.std.specs.Prelude.{◌≡◌, List, [], ◌∷◌}
use Rattle.iv_worked.specs.Types.{Plan}
use Rattle.iv_worked.specs.Types.comparison.{Equal, Less}
use Rattle.iv_worked.specs.Types.cond.{Always}
use Rattle.iv_worked.specs.Types.time.{After}
use Rattle.iv_worked.specs.Types.event
use Rattle.iv_worked.specs.Types.granularity.{Statement}
use Rattle.iv_worked.specs.Types.rule
use Rattle.iv_worked.specs.Types.cause.{Violation, TooManyChanges, TransactionTooLarge, Limit}
use Rattle.iv_worked.specs.Types.body
use Rattle.iv_worked.specs.WorkedPlans.{number, numbers, where_column, integer_column, not_deferrable, create_table, deletion_of, insert, insert_value, update_all, delete_all, create_trigger, count_all, start, commit, rollback}
use Rattle.iv_worked.specs.WorkedAnswers.{ok, ok_rows, count_row, fault, refused, refused_in, work, idle, answers_within, works_within, with_change_count, numbered_from, answers_from, works_from}

-- CREATE TABLE t (a INT); CREATE TRIGGER r AFTER INSERT ON t BEGIN ATOMIC DELETE FROM t WHERE a =
-- 9; DELETE FROM t WHERE a = 9; END; INSERT INTO t VALUES (1); SELECT COUNT(*) FROM t;
abbrev pub statements_of_no_row : List Plan
statements_of_no_row =
    create_table (integer_column ∷ []) []
    ∷ create_trigger 0 0 After event.Insert Statement Always
    (body.Data (deletion_of 0 (where_column Equal 0 9))
    ∷ body.Data (deletion_of 0 (where_column Equal 0 9)) ∷ [])
    ∷ insert_value 0 (number 1) ∷ count_all 0 ∷ []

-- CREATE TABLE t (a INT CHECK (a < 5)); START TRANSACTION;
abbrev pub small_numbers_in_transaction : List Plan
small_numbers_in_transaction =
    create_table (integer_column ∷ []) (not_deferrable 0 (rule.Check (where_column Less 0 5)) ∷ []) ∷ start
    ∷ []

-- INSERT INTO t VALUES (1);
abbrev pub one_row : Plan
one_row = insert_value 0 (number 1)

-- INSERT INTO t VALUES (1), (2);
abbrev pub two_rows : Plan
two_rows = insert 0 (numbers (1 ∷ []) ∷ numbers (2 ∷ []) ∷ [])

pub record WorkedLimits : Type 0 where
  -- a statement that changes no row takes one from the budget, too: the INSERT takes 2, each DELETE
  -- 1
  pub budget_of_three_for_four : answers_within 3 statements_of_no_row
      ≡ ok ∷ ok ∷ refused_in 0 TooManyChanges ∷ count_row 0 ∷ []
  pub budget_of_three_for_four_undoes : works_within 3 statements_of_no_row
      ≡ idle ∷ idle ∷ work 1 1 ∷ idle ∷ []
  pub budget_of_four_for_four : answers_within 4 statements_of_no_row
      ≡ ok ∷ ok ∷ ok_rows 1 ∷ count_row 1 ∷ []
  -- a transaction may have 1,048,576 changes, and COMMIT ends their count
  pub last_change_of_a_transaction : answers_from (with_change_count 1048575 small_numbers_in_transaction)
      (two_rows ∷ one_row ∷ one_row ∷ commit ∷ two_rows ∷ [])
      ≡ refused TransactionTooLarge ∷ ok_rows 1 ∷ refused TransactionTooLarge ∷ ok ∷ ok_rows 2 ∷ []
  pub last_two_changes_of_a_transaction : answers_from
      (with_change_count 1048574 small_numbers_in_transaction)
      (two_rows ∷ update_all 0 0 (number 3) ∷ rollback ∷ two_rows ∷ [])
      ≡ ok_rows 2 ∷ refused TransactionTooLarge ∷ ok ∷ ok_rows 2 ∷ []
  -- the last row number is 9,223,372,036,854,775,807
  pub last_row_number : answers_from
      (numbered_from 9223372036854775807 small_numbers_in_transaction)
      (two_rows ∷ insert_value 0 (number 9) ∷ one_row ∷ one_row ∷ update_all 0 0 (number 9) ∷ [])
      ≡ refused Limit ∷ refused (Violation (fault 0 9223372036854775807)) ∷ ok_rows 1
      ∷ refused Limit ∷ refused (Violation (fault 0 9223372036854775807)) ∷ []
  pub last_two_row_numbers : answers_from
      (numbered_from 9223372036854775806 small_numbers_in_transaction)
      (two_rows ∷ one_row ∷ delete_all 0 ∷ one_row ∷ [])
      ≡ ok_rows 2 ∷ refused Limit ∷ ok_rows 2 ∷ refused Limit ∷ []
  -- a wave that is refused for a limit isn't applied
  pub refused_for_a_limit_changes_nothing : works_from
      (with_change_count 1048575 small_numbers_in_transaction) (two_rows ∷ one_row ∷ [])
      ≡ idle ∷ work 1 0 ∷ []
