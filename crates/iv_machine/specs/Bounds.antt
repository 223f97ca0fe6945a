-- The limits of a session, and those of every session.
use Rattle.std.specs.Prelude.{ℕ}
use Rattle.iv_machine.specs.declared.limits.TheConstants.{LEAST_DEPTH, GREATEST_DEPTH, FEWEST_CHANGES_IN_A_STATEMENT, MOST_CHANGES_IN_A_STATEMENT, MOST_CHANGES_IN_A_TRANSACTION, LAST_ROW_NUMBER}

-- How deep triggers may nest, and how many row changes one statement may make.
pub record Bounds : Type 0 where
  pub depth : ℕ
  pub changes : ℕ

-- The least depth and the greatest that a session may have.
abbrev pub least_depth : ℕ
least_depth = LEAST_DEPTH

abbrev pub greatest_depth : ℕ
greatest_depth = GREATEST_DEPTH

-- The least number of row changes in a statement that a session may have, and the greatest.
abbrev pub fewest_changes_in_a_statement : ℕ
fewest_changes_in_a_statement = FEWEST_CHANGES_IN_A_STATEMENT

abbrev pub most_changes_in_a_statement : ℕ
most_changes_in_a_statement = MOST_CHANGES_IN_A_STATEMENT

-- How many row changes a transaction may have.
abbrev pub most_changes_in_a_transaction : ℕ
most_changes_in_a_transaction = MOST_CHANGES_IN_A_TRANSACTION

-- The last number that a row may have.
abbrev pub last_row_number : ℕ
last_row_number = LAST_ROW_NUMBER
