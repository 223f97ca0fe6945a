-- Words for worked scripts: plans as short as their statements. Constraints, tables and triggers
-- have numbers from 0.
use Rattle.std.specs.Prelude.{ℕ, pos, Bool, List, [], ◌∷◌, map, codes}
use Rattle.iv_worked.specs.Types.{Expr, Range, Comparison, Cond, ConstraintMode, MatchType, ReferentialAction, ActionTime, TriggerEvent, Granularity, Column, Constraint, Rule, BodyStatement, DataStatement, Setting, Plan}
use Rattle.iv_worked.specs.Types.value.{Null, Int, Text}
use Rattle.iv_worked.specs.Types.kind.{Integer, Varchar}
use Rattle.iv_worked.specs.Types.expr
use Rattle.iv_worked.specs.Types.side.{Old, New}
use Rattle.iv_worked.specs.Types.cond.{Always, Compare}
use Rattle.iv_worked.specs.Types.mode
use Rattle.iv_worked.specs.Types.matching.{Simple}
use Rattle.iv_worked.specs.Types.rule
use Rattle.iv_worked.specs.Types.body
use Rattle.iv_worked.specs.Types.set
use Rattle.iv_worked.specs.Types.data_statement
use Rattle.iv_worked.specs.Types.insert_columns
use Rattle.iv_worked.specs.Types.insert_rows
use Rattle.iv_worked.specs.Types.outputs
use Rattle.iv_worked.specs.Types.plan
use Rattle.iv_worked.specs.Types.schema
use Rattle.iv_worked.specs.Types.query
use Rattle.iv_worked.specs.Types.transaction
use Rattle.iv_worked.specs.Types.event

-- ---- expressions and conditions

abbrev pub number : ℕ → Expr
number n = expr.Literal (Int (pos n))

abbrev pub numbers : List ℕ → List Expr
numbers ns = map number ns

abbrev pub null : Expr
null = expr.Literal Null

abbrev pub text : List ℕ → Expr
text bytes = expr.Literal (Text bytes)

-- a column of the innermost range
abbrev pub column : ℕ → Expr
column place = expr.Column 0 place

-- a column of the row variable OLD
abbrev pub old : ℕ → Expr
old place = expr.Variable Old place

-- a column of the row variable NEW
abbrev pub new : ℕ → Expr
new place = expr.Variable New place

abbrev pub where_column : Comparison → ℕ → ℕ → Cond
where_column op place n = Compare op (column place) (number n)

-- ---- tables and constraints; names say nothing here, save those of savepoints

-- INTEGER
abbrev pub integer_column : Column
integer_column = record { name = codes "A"; kind = Integer; default = Null }

abbrev pub integer_default : ℕ → Column
integer_default n = record { name = codes "A"; kind = Integer; default = Int (pos n) }

abbrev pub varchar : ℕ → Column
varchar n = record { name = codes "M"; kind = Varchar n; default = Null }

abbrev pub constraint_on : ℕ → Rule → Bool → ConstraintMode → Constraint
constraint_on table r deferrable m =
    record { name = codes "C"; table = table; rule = r; deferrable = deferrable; initially = m }

abbrev pub not_deferrable : ℕ → Rule → Constraint
not_deferrable table r = constraint_on table r Bool.false mode.Immediate

abbrev pub deferrable : ℕ → Rule → Constraint
deferrable table r = constraint_on table r Bool.true mode.Immediate

abbrev pub initially_deferred : ℕ → Rule → Constraint
initially_deferred table r = constraint_on table r Bool.true mode.Deferred

-- columns that refer to columns of a table: ON DELETE, then ON UPDATE
abbrev pub foreign_key_rule :
    List ℕ → ℕ → List ℕ → MatchType → ReferentialAction → ReferentialAction → Rule
foreign_key_rule columns table key matching delete update =
    rule.ForeignKey (record {
      columns = columns;
      referenced = table;
      key = key;
      matching = matching;
      on_delete = delete;
      on_update = update;
    })

-- a foreign key of one column, MATCH SIMPLE
abbrev pub references_rule : ℕ → ℕ → ℕ → ReferentialAction → ReferentialAction → Rule
references_rule place table key delete update =
    foreign_key_rule (place ∷ []) table (key ∷ []) Simple delete update

abbrev pub create_table : List Column → List Constraint → Plan
create_table columns constraints =
    plan.Schema (schema.CreateTable (record { name = codes "T"; columns = columns }) constraints)

abbrev pub add_constraint : Constraint → Plan
add_constraint k = plan.Schema (schema.AddConstraint k)

-- ---- data statements

abbrev pub setting : ℕ → Expr → Setting
setting place e = record { column = place; value = e }

-- VALUES, for all columns
abbrev pub insert_statement : ℕ → List (List Expr) → DataStatement
insert_statement table tuples = data_statement.Insert table insert_columns.All
    (insert_rows.Values tuples)

-- INSERT INTO .. SELECT .. FROM a range, for all columns
abbrev pub insertion_from : ℕ → Range → List Expr → DataStatement
insertion_from table range es =
    data_statement.Insert table insert_columns.All
    (insert_rows.Query (outputs.Values es) range Always)

abbrev pub update_statement : ℕ → List Setting → Cond → DataStatement
update_statement table settings filter = data_statement.Update table settings filter

abbrev pub deletion_of : ℕ → Cond → DataStatement
deletion_of table filter = data_statement.Delete table filter

abbrev pub insert : ℕ → List (List Expr) → Plan
insert table tuples = plan.Change (insert_statement table tuples)

-- VALUES with one tuple
abbrev pub insert_row : ℕ → List Expr → Plan
insert_row table es = insert table (es ∷ [])

-- VALUES with one tuple of one value
abbrev pub insert_value : ℕ → Expr → Plan
insert_value table e = insert_row table (e ∷ [])

-- VALUES with one tuple, for these columns
abbrev pub insert_listed : ℕ → List ℕ → List Expr → Plan
insert_listed table places es =
    plan.Change
    (data_statement.Insert table (insert_columns.Listed places) (insert_rows.Values (es ∷ [])))

abbrev pub insert_from : ℕ → Range → List Expr → Plan
insert_from table range es = plan.Change (insertion_from table range es)

abbrev pub update : ℕ → List Setting → Cond → Plan
update table settings filter = plan.Change (update_statement table settings filter)

-- UPDATE of one column in all rows
abbrev pub update_all : ℕ → ℕ → Expr → Plan
update_all table place e = update table (setting place e ∷ []) Always

abbrev pub delete : ℕ → Cond → Plan
delete table filter = plan.Change (deletion_of table filter)

abbrev pub delete_all : ℕ → Plan
delete_all table = delete table Always

-- ---- triggers

-- with the columns of UPDATE OF; none if there is no list
abbrev pub create_listed :
    ℕ → ℕ → ActionTime → TriggerEvent → List ℕ → Granularity → Cond → List BodyStatement → Plan
create_listed id table time event columns granularity when_true statements =
    plan.Schema (schema.CreateTrigger (record {
      id = id;
      name = codes "R";
      table = table;
      time = time;
      event = event;
      columns = columns;
      granularity = granularity;
      when = when_true;
      body = statements;
    }))

abbrev pub create_trigger :
    ℕ → ℕ → ActionTime → TriggerEvent → Granularity → Cond → List BodyStatement → Plan
create_trigger id table time event granularity when_true statements =
    create_listed id table time event [] granularity when_true statements

-- a trigger of UPDATE OF these columns, without WHEN
abbrev pub create_update_of : ℕ → ℕ → ActionTime → List ℕ → Granularity → List BodyStatement → Plan
create_update_of id table time columns granularity statements =
    create_listed id table time event.Update columns granularity Always statements

abbrev pub drop_trigger : ℕ → Plan
drop_trigger id = plan.Schema (schema.DropTrigger id)

-- INSERT of one tuple, in a body
abbrev pub inserts : ℕ → List Expr → BodyStatement
inserts table es = body.Data (insert_statement table (es ∷ []))

-- INSERT of what a range holds, in a body
abbrev pub inserts_from : ℕ → Range → List Expr → BodyStatement
inserts_from table range es = body.Data (insertion_from table range es)

-- SET of a column of NEW, in a body
abbrev pub sets : ℕ → Expr → BodyStatement
sets place e = body.Set (setting place e)

abbrev pub signals : BodyStatement
signals = body.Signal (codes "stop")

-- ---- other statements

abbrev pub select : ℕ → List Expr → Cond → Plan
select table es filter = plan.Query (query.Rows table (outputs.Values es) filter)

abbrev pub select_all : ℕ → Plan
select_all table = plan.Query (query.Rows table outputs.Star Always)

abbrev pub count_all : ℕ → Plan
count_all table = plan.Query (query.Count table Always)

abbrev pub set_all : ConstraintMode → Plan
set_all m = plan.Transaction (transaction.SetConstraints set.All m)

abbrev pub set_these : List ℕ → ConstraintMode → Plan
set_these ids m = plan.Transaction (transaction.SetConstraints (set.Named ids) m)

abbrev pub set_one : ℕ → ConstraintMode → Plan
set_one id m = set_these (id ∷ []) m

abbrev pub start : Plan
start = plan.Transaction transaction.Start

abbrev pub commit : Plan
commit = plan.Transaction transaction.Commit

abbrev pub rollback : Plan
rollback = plan.Transaction transaction.Rollback

abbrev pub savepoint : List ℕ → Plan
savepoint name = plan.Transaction (transaction.Savepoint name)

abbrev pub release : List ℕ → Plan
release name = plan.Transaction (transaction.Release name)

abbrev pub rollback_to : List ℕ → Plan
rollback_to name = plan.Transaction (transaction.RollbackTo name)
