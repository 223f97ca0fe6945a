-- Worked scripts: what the machine answers to lists of statements.
use Rattle.std.specs.Prelude.{◌≡◌, ℕ, pos, List, [], ◌∷◌, Option, Some, None, Result, Ok, Err, codes}
use Rattle.iv_value.specs.declared.value.Value.TheVariants.{Null, Int}
use Rattle.iv_expr.specs.declared.tree.Comparison.{Comparison}
use Rattle.iv_expr.specs.declared.tree.Comparison.TheVariants.{Less, Greater}
use Rattle.iv_syntax.specs.declared.tree.Expression.{Expression}
use Rattle.iv_syntax.specs.declared.tree.Expression.TheVariants as expression
use Rattle.iv_syntax.specs.declared.tree.Condition.TheVariants as condition
use Rattle.iv_syntax.specs.declared.table.ColumnType.TheVariants.{Integer}
use Rattle.iv_syntax.specs.declared.table.TableElement.{TableElement}
use Rattle.iv_syntax.specs.declared.table.TableElement.TheVariants as element
use Rattle.iv_syntax.specs.declared.table.TableRule.TheVariants.{Check}
use Rattle.iv_syntax.specs.declared.statement.ConstraintMode.{ConstraintMode}
use Rattle.iv_syntax.specs.declared.statement.ConstraintMode.TheVariants.{Deferred}
use Rattle.iv_syntax.specs.declared.statement.ValueOrDefault.TheVariants as value
use Rattle.iv_syntax.specs.declared.statement.InsertSource.TheVariants as source
use Rattle.iv_syntax.specs.declared.statement.Insert.TheVariants as insert
use Rattle.iv_syntax.specs.declared.statement.SelectList.TheVariants.{Star}
use Rattle.iv_syntax.specs.declared.statement.Select.TheVariants as select
use Rattle.iv_syntax.specs.declared.statement.Statement.{Statement}
use Rattle.iv_syntax.specs.declared.statement.Statement.TheVariants as statement
use Rattle.iv_catalogue.specs.declared.cause.Cause.TheVariants.{Duplicate, InTransaction, Violation, CommitRefused}
use Rattle.iv_catalogue.specs.declared.cause.Cause.{Cause}
use Rattle.iv_catalogue.specs.declared.cause.Fault.{Fault}
use Rattle.iv_catalogue.specs.declared.cause.Refusal.{Refusal}
use Rattle.iv_machine.specs.declared.answer.Answer.{Answer}
use Rattle.iv_machine.specs.declared.answer.Answer.TheVariants.{Done, Changed, Rows}
use Rattle.iv_machine.specs.Machine.{empty_state}
use Rattle.iv_value.specs.declared.value.Value.{Value}
use Rattle.iv_expr.specs.declared.row.Change.{Change}
use Rattle.iv_expr.specs.declared.row.StoredRow.{StoredRow}
use Rattle.iv_account.specs.declared.entry.Entry.{Entry}
use Rattle.iv_account.specs.declared.entry.Entry.TheVariants as entry
use Rattle.iv_step.specs.Step.{run}
use Rattle.iv_step.specs.Telling.{statement_told}

-- ---- answers

abbrev pub Answered : Type 0
Answered = Result Answer Refusal

abbrev pub ok : Answered
ok = Ok Done

abbrev pub ok_rows : ℕ → Answered
ok_rows n = Ok (Changed n)

abbrev pub rows : List (List Value) → Answered
rows values = Ok (Rows values)

abbrev pub fault : ℕ → ℕ → Fault
fault id row = record { constraint = id; row = row }

-- refused outside of any trigger
abbrev pub refused : Cause → Answered
refused cause = Err (record { cause = cause; trigger = None })

-- in a new session with the usual limits
abbrev pub answers_to : List Statement → List Answered
answers_to statements = (run (empty_state (record { depth = 16; changes = 65536 })) statements).0

-- what is told of a statement after these, in a new session with the usual limits
abbrev pub told_after : List Statement → Statement → List Entry
told_after statements st = statement_told (run (empty_state (record { depth = 16; changes = 65536 })) statements).1 st

-- a row of the first table, and its insertion
abbrev pub first_table_row : ℕ → List Value → StoredRow
first_table_row number values = record { table = 0; number = number; values = values }

abbrev pub row_inserted : ℕ → List Value → Change
row_inserted number values = record { table = 0; row = number; old = None; new = Some values }

-- ---- statements

-- name INTEGER
abbrev pub parsed_column : List ℕ → TableElement
parsed_column name = element.Column
    (record { name = name; kind = Integer; default = None; constraints = [] })

-- CHECK (A op number)
abbrev pub check : Option (List ℕ) → Comparison → ℕ → Option ConstraintMode → TableElement
check name op n mode =
    element.Constraint (record {
      name = name;
      rule = Check
          (condition.Compare op (expression.Column (record { qualifier = None; name = codes "A" }))
          (expression.Number n));
      time = record { deferrable = None; initially = mode };
    })

-- INSERT INTO T VALUES (literal)
abbrev pub parsed_insert : Expression → Statement
parsed_insert e = statement.Insert
    (insert.Rows (codes "T") None (source.Values ((value.Value e ∷ []) ∷ [])))

-- SELECT * FROM T
abbrev pub parsed_select : Statement
parsed_select = statement.Select (select.Rows Star (record { table = codes "T"; alias = None }) None)

-- CREATE TABLE T (A INTEGER)
abbrev pub a_table : Statement
a_table = statement.CreateTable (codes "T") (parsed_column (codes "A") ∷ [])

-- CREATE TABLE T (A INT, CONSTRAINT POS CHECK (A > 0) INITIALLY DEFERRED, CONSTRAINT BIG CHECK (A < 9))
abbrev pub two_checks_table : Statement
two_checks_table =
    statement.CreateTable (codes "T")
    (parsed_column (codes "A") ∷ check (Some (codes "POS")) Greater 0 (Some Deferred)
    ∷ check (Some (codes "BIG")) Less 9 None ∷ [])

-- CREATE TABLE T (A INTEGER, CHECK (A > 0)); INSERT INTO T VALUES (1); COMMIT; SELECT * FROM T;
abbrev pub check_insert_commit_select : List Statement
check_insert_commit_select =
    statement.CreateTable (codes "T") (parsed_column (codes "A") ∷ check None Greater 0 None ∷ [])
    ∷ parsed_insert (expression.Number 1) ∷ statement.Commit ∷ parsed_select ∷ []

-- CREATE TABLE T (A INT, CONSTRAINT POS CHECK (A > 0) INITIALLY DEFERRED, CONSTRAINT BIG CHECK (A <
-- 9)); INSERT INTO T VALUES (0); INSERT INTO T VALUES (9); COMMIT; INSERT INTO T VALUES (NULL);
-- COMMIT; SELECT * FROM T;
abbrev pub two_checks_one_deferred : List Statement
two_checks_one_deferred =
    two_checks_table ∷ parsed_insert (expression.Number 0) ∷ parsed_insert (expression.Number 9) ∷ statement.Commit
    ∷ parsed_insert expression.Null ∷ statement.Commit ∷ parsed_select ∷ []

-- CREATE TABLE T (A INTEGER); INSERT INTO T VALUES (1); CREATE TABLE T (A INTEGER); ROLLBACK;
-- CREATE TABLE T (A INTEGER);
abbrev pub table_created_again : List Statement
table_created_again =
    a_table ∷ parsed_insert (expression.Number 1) ∷ a_table ∷ statement.Rollback ∷ a_table ∷ []

-- The constraint POS has the number 0, and BIG the number 1.
pub record WorkedScripts : Type 0 where
  pub one_check : answers_to check_insert_commit_select
      ≡ ok ∷ ok_rows 1 ∷ ok ∷ rows ((Int (pos 1) ∷ []) ∷ []) ∷ []
  pub two_checks : answers_to two_checks_one_deferred
      ≡ ok ∷ ok_rows 1 ∷ refused (Violation (fault 1 2)) ∷ refused (CommitRefused (fault 0 1))
      ∷ ok_rows 1 ∷ ok ∷ rows ((Null ∷ []) ∷ []) ∷ []
  -- that a transaction is open is answered before all else
  pub table_in_transaction : answers_to table_created_again
      ≡ ok ∷ ok_rows 1 ∷ refused InTransaction ∷ ok ∷ refused Duplicate ∷ []
  -- the first INSERT of a session
  pub first_insert_told : told_after (a_table ∷ []) (parsed_insert (expression.Number 1)) ≡ entry.Changed (row_inserted 1 (Int (pos 1) ∷ []) ∷ []) ∷ []
  -- a COMMIT that is refused
  pub refused_commit_told :
      told_after (two_checks_table ∷ parsed_insert (expression.Number 0) ∷ []) statement.Commit
      ≡ entry.Faulted (fault 0 1) (first_table_row 1 (Int (pos 0) ∷ []) ∷ []) ∷ []
  -- a COMMIT that is accepted
  pub accepted_commit_told : told_after (a_table ∷ parsed_insert (expression.Number 1) ∷ []) statement.Commit ≡ []
  -- a statement without meaning: there is no table T
  pub without_meaning_told : told_after [] (parsed_insert (expression.Number 1)) ≡ []
