-- Worked scripts on INSERT: its columns, its query, and the order in which values are stored; and a condition that is unknown.
use Rattle.std.specs.Prelude.{◌≡◌, [], ◌∷◌, codes}
use Rattle.iv_worked.specs.Types.{Expr}
use Rattle.iv_worked.specs.Types.value.{Null}
use Rattle.iv_worked.specs.Types.comparison.{Equal}
use Rattle.iv_worked.specs.Types.range.{Table}
use Rattle.iv_worked.specs.Types.cause.{NumberOutOfRange, TextTooLong}
use Rattle.iv_expr.specs.Trees.{plus}
use Rattle.iv_worked.specs.WorkedPlans.{number, numbers, null, text, column, where_column, integer_column, integer_default, varchar, create_table, insert_row, insert_listed, insert_from, delete, select_all}
use Rattle.iv_worked.specs.WorkedAnswers.{ok, ok_rows, int, rows, refused, answers}

-- 9223372036854775807 + 1
abbrev pub too_large : Expr
too_large = plus (number 9223372036854775807) (number 1)

pub record WorkedStatements : Type 0 where
  -- CREATE TABLE t (a INT DEFAULT 7, b INT, c INT); INSERT INTO t (c, b) VALUES (1, 2); INSERT INTO
  -- t (c) VALUES (3); INSERT INTO t SELECT c, a, b FROM t; SELECT * FROM t;
  pub columns_that_are_listed : answers (
      create_table (integer_default 7 ∷ integer_column ∷ integer_column ∷ []) []
      ∷ insert_listed 0 (2 ∷ 1 ∷ []) (numbers (1 ∷ 2 ∷ []))
      ∷ insert_listed 0 (2 ∷ []) (numbers (3 ∷ []))
      ∷ insert_from 0 (Table 0) (column 2 ∷ column 0 ∷ column 1 ∷ []) ∷ select_all 0 ∷ [])
      ≡ ok ∷ ok_rows 1 ∷ ok_rows 1 ∷ ok_rows 2
      ∷ rows
      ((int 7 ∷ int 2 ∷ int 1 ∷ []) ∷ (int 7 ∷ Null ∷ int 3 ∷ []) ∷ (int 1 ∷ int 7 ∷ int 2 ∷ [])
      ∷ (int 3 ∷ int 7 ∷ Null ∷ []) ∷ []) ∷ []
  -- Each value is evaluated and stored before the next one, in the order of the list.
  -- CREATE TABLE t (a INT, m VARCHAR(3)); INSERT INTO t VALUES (9223372036854775807 + 1, 'long');
  -- INSERT INTO t (m, a) VALUES ('long', 9223372036854775807 + 1);
  pub values_are_stored_in_turn : answers (
      create_table (integer_column ∷ varchar 3 ∷ []) []
      ∷ insert_row 0 (too_large ∷ text (codes "long") ∷ [])
      ∷ insert_listed 0 (1 ∷ 0 ∷ []) (text (codes "long") ∷ too_large ∷ []) ∷ [])
      ≡ ok ∷ refused NumberOutOfRange ∷ refused TextTooLong ∷ []
  -- CREATE TABLE t (a INT); INSERT INTO t VALUES (NULL); DELETE FROM t WHERE a = 1; the condition is unknown
  pub unknown_finds_no_row : answers (
      create_table (integer_column ∷ []) [] ∷ insert_row 0 (null ∷ []) ∷ delete 0 (where_column Equal 0 1) ∷ [])
      ≡ ok ∷ ok_rows 1 ∷ ok_rows 0 ∷ []
