-- Worked scripts with what failed in their last statement, for which it is refused: a number is out of range, or a text is too long.
-- Tables, columns and triggers have numbers from 0, rows and the items of a SELECT from 1.
use Rattle.std.specs.Prelude.{◌≡◌, ℕ, pos, List, [], ◌∷◌, codes, Some, None}
use Rattle.iv_expr.specs.Trees.{plus, minus, times, and_c, exists_c}
use Rattle.iv_worked.specs.Types.{Change, StoredRow, Plan, Entry, TriggerView, SkippedView, EvaluatedFor, Operator, RowAtHand}
use Rattle.iv_worked.specs.Types.value.{Text}
use Rattle.iv_worked.specs.Types.truth.{False}
use Rattle.iv_worked.specs.Types.comparison.{Equal, Less, Greater}
use Rattle.iv_worked.specs.Types.cond.{Always, Compare}
use Rattle.iv_worked.specs.Types.range.{Table, Transition}
use Rattle.iv_worked.specs.Types.side
use Rattle.iv_worked.specs.Types.time.{Before, After}
use Rattle.iv_worked.specs.Types.event
use Rattle.iv_worked.specs.Types.granularity.{Row, Statement}
use Rattle.iv_worked.specs.Types.entry.{Changed, Ran, Skipped, Began, Failed}
use Rattle.iv_worked.specs.Types.part
use Rattle.iv_worked.specs.Types.hand
use Rattle.iv_worked.specs.Types.operator.{Plus, Times}
use Rattle.iv_worked.specs.Types.failure.{OutOfRange, TooLong}
use Rattle.iv_worked.specs.WorkedPlans.{number, numbers, text, column, old, new, where_column, integer_column, varchar, create_table, setting, insert, insert_row, insert_value, insert_listed, insert_from, update, update_all, delete, delete_all, create_trigger, inserts, inserts_from, sets, select}
use Rattle.iv_worked.specs.WorkedAnswers.{int, told}

-- ---- what is told

-- no row variables are at hand
abbrev pub no_variables : RowAtHand
no_variables = hand.Variables None None

-- the row variables with these values
abbrev pub with_new : ℕ → RowAtHand
with_new after = hand.Variables None (Some (int after ∷ []))

abbrev pub with_both : ℕ → ℕ → RowAtHand
with_both before after = hand.Variables (Some (int before ∷ [])) (Some (int after ∷ []))

abbrev pub row_of_one : ℕ → ℕ → ℕ → StoredRow
row_of_one table number value = record { table = table; number = number; values = int value ∷ [] }

-- the greatest integer
abbrev pub greatest : ℕ
greatest = 9223372036854775807

-- an operation on these two numbers fails
abbrev pub number_fails : RowAtHand → EvaluatedFor → ℕ → Operator → ℕ → Entry
number_fails row evaluated left operator right =
    Failed (record { row = row; part = evaluated; failure = OutOfRange (pos left) operator (pos right) })

-- the greatest integer and one more
abbrev pub out_of_range : RowAtHand → EvaluatedFor → Entry
out_of_range row evaluated = number_fails row evaluated greatest Plus 1

-- a text for a column of so many characters at most is too long
abbrev pub text_fails : RowAtHand → EvaluatedFor → ℕ → ℕ → Entry
text_fails row evaluated most length = Failed (record { row = row; part = evaluated; failure = TooLong most length })

-- ---- scripts

-- CREATE TABLE t (a INT); INSERT INTO t VALUES (5), (9223372036854775807); and then the last
abbrev pub with_greatest : Plan → List Plan
with_greatest last = create_table (integer_column ∷ []) [] ∷ insert 0 (numbers (5 ∷ []) ∷ numbers (greatest ∷ []) ∷ []) ∷ last ∷ []

-- the row of the greatest integer
abbrev pub second_row : StoredRow
second_row = row_of_one 0 2 greatest

-- CREATE TABLE t (a VARCHAR(3)); and then the last
abbrev pub with_texts : List Plan → List Plan
with_texts last = create_table (varchar 3 ∷ []) [] ∷ last

-- a change of table 0 that inserts or deletes a row of one integer
abbrev pub made : ℕ → ℕ → Change
made row value = record { table = 0; row = row; old = None; new = Some (int value ∷ []) }

abbrev pub gone : ℕ → ℕ → Change
gone row value = record { table = 0; row = row; old = Some (int value ∷ []); new = None }

-- what a trigger saw: the row after, the row before, or both
abbrev pub saw_after : ℕ → TriggerView
saw_after after = record { old = None; new = Some (int after ∷ []); transition = [] }

abbrev pub saw_sides : ℕ → ℕ → TriggerView
saw_sides before after = record { old = Some (int before ∷ []); new = Some (int after ∷ []); transition = [] }

abbrev pub without_before : ℕ → SkippedView
without_before before = record { old = Some (int before ∷ []); new = None; when = False }

pub record WorkedFailures : Type 0 where
  -- ---- values
  -- CREATE TABLE t (a INT, b INT); INSERT INTO t VALUES (1, 2), (3, 9223372036854775807 + 1);
  pub second_tuple : told (
      create_table (integer_column ∷ integer_column ∷ []) []
      ∷ insert 0 (numbers (1 ∷ 2 ∷ []) ∷ (number 3 ∷ plus (number greatest) (number 1) ∷ []) ∷ []) ∷ [])
      ≡ out_of_range no_variables (part.Column 0 1) ∷ []
  -- CREATE TABLE t (a INT, b INT); INSERT INTO t (b) VALUES (9223372036854775807 * 2);
  pub listed_column : told (
      create_table (integer_column ∷ integer_column ∷ []) [] ∷ insert_listed 0 (1 ∷ []) (times (number greatest) (number 2) ∷ []) ∷ [])
      ≡ number_fails no_variables (part.Column 0 1) greatest Times 2 ∷ []
  -- CREATE TABLE t (a INT, b INT); INSERT INTO t VALUES (9223372036854775807 + 1, 9223372036854775807 * 2); the first is told
  pub first_value : told (
      create_table (integer_column ∷ integer_column ∷ []) []
      ∷ insert_row 0 (plus (number greatest) (number 1) ∷ times (number greatest) (number 2) ∷ []) ∷ [])
      ≡ out_of_range no_variables (part.Column 0 0) ∷ []
  -- CREATE TABLE t (a INT); INSERT INTO t VALUES ((9223372036854775807 + 1) * (9223372036854775807 * 2)); the left side is first
  pub left_side : told (
      create_table (integer_column ∷ []) []
      ∷ insert_value 0 (times (plus (number greatest) (number 1)) (times (number greatest) (number 2))) ∷ [])
      ≡ out_of_range no_variables (part.Column 0 0) ∷ []
  -- CREATE TABLE t (a INT); INSERT INTO t VALUES ((9223372036854775807 - 1) + 2); the sum of a part that has a value
  pub whole_after_parts : told (
      create_table (integer_column ∷ []) []
      ∷ insert_value 0 (plus (minus (number greatest) (number 1)) (number 2)) ∷ [])
      ≡ number_fails no_variables (part.Column 0 0) 9223372036854775806 Plus 2 ∷ []
  -- UPDATE t SET a = a + 1; the first row has a value
  pub second_row_of_an_update : told (with_greatest (update_all 0 0 (plus (column 0) (number 1))))
      ≡ out_of_range (hand.Row second_row) (part.Column 0 0) ∷ []
  -- INSERT INTO t SELECT a + 1 FROM t;
  pub row_of_a_query : told (with_greatest (insert_from 0 (Table 0) (plus (column 0) (number 1) ∷ [])))
      ≡ out_of_range (hand.Source second_row) (part.Column 0 0) ∷ []
  -- SELECT a, a + 1 FROM t;
  pub item_of_a_query : told (with_greatest (select 0 (column 0 ∷ plus (column 0) (number 1) ∷ []) Always))
      ≡ out_of_range (hand.Row second_row) (part.Item 2) ∷ []
  -- ---- conditions
  -- UPDATE t SET a = a * 2 WHERE a + 1 > 0; the condition comes before the values
  pub condition_before_values : told (with_greatest
      (update 0 (setting 0 (times (column 0) (number 2)) ∷ []) (Compare Greater (plus (column 0) (number 1)) (number 0))))
      ≡ out_of_range (hand.Row second_row) part.Where ∷ []
  -- UPDATE t SET a = a + 1 WHERE a > 5; only rows where the condition is true have values
  pub value_where_true : told (with_greatest (update 0 (setting 0 (plus (column 0) (number 1)) ∷ []) (where_column Greater 0 5)))
      ≡ out_of_range (hand.Row second_row) (part.Column 0 0) ∷ []
  -- UPDATE t SET a = a * 9223372036854775807 WHERE a + 1 > 0; the condition comes at all rows before the value of the first
  pub conditions_before_values : told (with_greatest
      (update 0 (setting 0 (times (column 0) (number greatest)) ∷ []) (Compare Greater (plus (column 0) (number 1)) (number 0))))
      ≡ out_of_range (hand.Row second_row) part.Where ∷ []
  -- UPDATE t SET a = a * 9223372036854775807 WHERE a > 5; the first row, where the condition is false, has no value
  pub no_value_where_false : told (with_greatest (update 0 (setting 0 (times (column 0) (number greatest)) ∷ []) (where_column Greater 0 5)))
      ≡ number_fails (hand.Row second_row) (part.Column 0 0) greatest Times greatest ∷ []
  -- DELETE FROM t WHERE a < 6 AND a + 1 > 0; both sides are evaluated
  pub condition_of_a_deletion : told (with_greatest
      (delete 0 (and_c (where_column Less 0 6) (Compare Greater (plus (column 0) (number 1)) (number 0)))))
      ≡ out_of_range (hand.Row second_row) part.Where ∷ []
  -- DELETE FROM t AS x WHERE EXISTS (SELECT * FROM t AS y WHERE y.a + 1 > 0); at the first row of the DELETE
  pub condition_of_a_subquery : told (with_greatest
      (delete 0 (exists_c (Table 0) (Compare Greater (plus (column 0) (number 1)) (number 0)))))
      ≡ out_of_range (hand.Row (row_of_one 0 1 5)) part.Where ∷ []
  -- ---- triggers
  -- CREATE TRIGGER b BEFORE UPDATE ON t REFERENCING NEW AS n FOR EACH ROW SET n.a = n.a + 1; INSERT INTO t VALUES (5); UPDATE t SET a =
  -- 9223372036854775807;
  pub set_of_a_trigger : told (
      create_table (integer_column ∷ []) []
      ∷ create_trigger 0 0 Before event.Update Row Always (sets 0 (plus (new 0) (number 1)) ∷ [])
      ∷ insert_value 0 (number 5) ∷ update_all 0 0 (number greatest) ∷ [])
      ≡ Ran 0 (saw_sides 5 greatest) ∷ out_of_range (with_both 5 greatest) (part.Column 0 0) ∷ []
  -- CREATE TRIGGER b BEFORE INSERT ON t REFERENCING NEW AS n FOR EACH ROW BEGIN ATOMIC SET n.a = 9223372036854775807; SET n.a = n.a + 1;
  -- END; INSERT INTO t VALUES (5); the second SET sees what the first one set
  pub second_set : told (
      create_table (integer_column ∷ []) []
      ∷ create_trigger 0 0 Before event.Insert Row Always (sets 0 (number greatest) ∷ sets 0 (plus (new 0) (number 1)) ∷ [])
      ∷ insert_value 0 (number 5) ∷ [])
      ≡ Ran 0 (saw_after 5) ∷ out_of_range (with_new greatest) (part.Column 0 0) ∷ []
  -- CREATE TRIGGER b BEFORE INSERT ON t REFERENCING NEW AS n FOR EACH ROW WHEN (n.a + 1 > 0) SET n.a = 0; INSERT INTO t VALUES (5),
  -- (9223372036854775807);
  pub condition_of_a_before_trigger : told (
      create_table (integer_column ∷ []) []
      ∷ create_trigger 0 0 Before event.Insert Row (Compare Greater (plus (new 0) (number 1)) (number 0)) (sets 0 (number 0) ∷ [])
      ∷ insert 0 (numbers (5 ∷ []) ∷ numbers (greatest ∷ []) ∷ []) ∷ [])
      ≡ Ran 0 (saw_after 5) ∷ out_of_range (with_new greatest) (part.When 0) ∷ []
  -- CREATE TRIGGER r AFTER DELETE ON t REFERENCING OLD AS o FOR EACH ROW WHEN (o.a + 1 < 0) INSERT INTO t VALUES (1); INSERT INTO t
  -- VALUES (5), (9223372036854775807); DELETE FROM t;
  pub condition_of_an_after_trigger : told (
      create_table (integer_column ∷ []) []
      ∷ create_trigger 0 0 After event.Delete Row (Compare Less (plus (old 0) (number 1)) (number 0)) (inserts 0 (number 1 ∷ []) ∷ [])
      ∷ insert 0 (numbers (5 ∷ []) ∷ numbers (greatest ∷ []) ∷ []) ∷ delete_all 0 ∷ [])
      ≡ Changed (gone 1 5 ∷ gone 2 greatest ∷ []) ∷ Skipped 0 (without_before 5)
      ∷ out_of_range (hand.Variables (Some (int greatest ∷ [])) None) (part.When 0) ∷ []
  -- CREATE TABLE u (a INT); CREATE TRIGGER r AFTER INSERT ON t REFERENCING NEW AS n FOR EACH ROW INSERT INTO u VALUES (n.a + 1); INSERT
  -- INTO t VALUES (9223372036854775807); the statement of the body has no end
  pub statement_of_a_body : told (
      create_table (integer_column ∷ []) [] ∷ create_table (integer_column ∷ []) []
      ∷ create_trigger 0 0 After event.Insert Row Always (inserts 1 (plus (new 0) (number 1) ∷ []) ∷ [])
      ∷ insert_value 0 (number greatest) ∷ [])
      ≡ Changed (made 1 greatest ∷ []) ∷ Ran 0 (saw_after greatest) ∷ Began 1 ∷ out_of_range (with_new greatest) (part.Column 1 0) ∷ []
  -- CREATE TABLE u (a INT); CREATE TRIGGER r AFTER INSERT ON t REFERENCING NEW TABLE AS m INSERT INTO u SELECT a + 1 FROM m; INSERT
  -- INTO t VALUES (9223372036854775807); a row of a transition table has its number
  pub row_of_a_transition_table : told (
      create_table (integer_column ∷ []) [] ∷ create_table (integer_column ∷ []) []
      ∷ create_trigger 0 0 After event.Insert Statement Always (inserts_from 1 (Transition side.New) (plus (column 0) (number 1) ∷ []) ∷ [])
      ∷ insert_value 0 (number greatest) ∷ [])
      ≡ Changed (made 1 greatest ∷ []) ∷ Ran 0 (record { old = None; new = None; transition = made 1 greatest ∷ [] }) ∷ Began 1
      ∷ out_of_range (hand.Source (row_of_one 0 1 greatest)) (part.Column 1 0) ∷ []
  -- ---- texts
  -- INSERT INTO t VALUES ('four');
  pub text_of_values : told (with_texts (insert_value 0 (text (codes "four")) ∷ []))
      ≡ text_fails no_variables (part.Column 0 0) 3 4 ∷ []
  -- INSERT INTO t VALUES ('one'); UPDATE t SET a = 'three';
  pub text_of_an_update : told (with_texts (insert_value 0 (text (codes "one")) ∷ update_all 0 0 (text (codes "three")) ∷ []))
      ≡ text_fails (hand.Row (record { table = 0; number = 1; values = Text (codes "one") ∷ [] })) (part.Column 0 0) 3 5 ∷ []
  -- CREATE TRIGGER b BEFORE INSERT ON t REFERENCING NEW AS n FOR EACH ROW SET n.a = 'three'; INSERT INTO t VALUES ('one');
  pub text_of_a_set : told (with_texts (
      create_trigger 0 0 Before event.Insert Row Always (sets 0 (text (codes "three")) ∷ []) ∷ insert_value 0 (text (codes "one")) ∷ []))
      ≡ Ran 0 (record { old = None; new = Some (Text (codes "one") ∷ []); transition = [] })
      ∷ text_fails (hand.Variables None (Some (Text (codes "one") ∷ []))) (part.Column 0 0) 3 5 ∷ []
  -- ---- what isn't told
  -- DELETE FROM t WHERE a = 5; an accepted statement tells no failure
  pub accepted : told (with_greatest (delete 0 (where_column Equal 0 5))) ≡ Changed (gone 1 5 ∷ []) ∷ []
