-- What fails where a number is out of range or a text is too long: the first operation whose result is no INTEGER, or the first text that
-- has more characters than its column holds, in the order in which the machine evaluates ("Numeric value expression", "Store assignment").
use Rattle.std.specs.Prelude.{ℕ, ℤ, ◌+ℤ◌, ◌-ℤ◌, ◌*ℤ◌, Bool, false, if◌then◌else◌, nat_le, List, [], length, chars, map, filter_map, zip, Option, Some, None, Result, Ok, Err}
use Rattle.std.specs.List.{enumerate_from}
use Rattle.std.specs.Option.{option_map}
use Rattle.iv_machine.specs.Types.{Value, StoredRow, Change, Cond, Column, Setting, Outputs, InsertColumns, InsertRows, DataStatement, QueryPlan, Trigger}
use Rattle.iv_machine.specs.Types.value.{Int, Text}
use Rattle.iv_machine.specs.Types.outputs.{Star, Values}
use Rattle.iv_machine.specs.Types.insert_columns as columns
use Rattle.iv_machine.specs.Types.insert_rows as rows
use Rattle.iv_machine.specs.Types.data_statement
use Rattle.iv_machine.specs.Types.query
use Rattle.iv_value.specs.declared.value.Kind.{Kind}
use Rattle.iv_value.specs.declared.value.Kind.TheVariants.{Varchar}
use Rattle.iv_value.specs.Truths.{is_true}
use Rattle.iv_value.specs.Values.{checked}
use Rattle.iv_expr.specs.declared.tree.Expr.{Expr}
use Rattle.iv_expr.specs.declared.tree.Expr.TheVariants.{Literal}
use Rattle.iv_expr.specs.declared.tree.Cond.TheVariants.{Always, Compare, IsNull}
use Rattle.iv_expr.specs.declared.tree.Range.{Range}
use Rattle.iv_expr.specs.declared.tree.Range.TheVariants.{Table, Transition}
use Rattle.iv_expr.specs.declared.tree.Side.{Side}
use Rattle.iv_expr.specs.Trees.{plus, minus, times, not_c, and_c, or_c, exists_c}
use Rattle.iv_expr.specs.Scopes.{Scope, Frame, no_frame, scope_of, within, side_of, range_rows, table_rows}
use Rattle.iv_expr.specs.Evaluation.{value, truth}
use Rattle.iv_catalogue.specs.Catalogues.{Schema}
use Rattle.iv_machine.specs.Proposals.{column_at}
use Rattle.iv_machine.specs.BeforeTriggers.{change_frame}
use Rattle.iv_account.specs.declared.failure.Operator.{Operator}
use Rattle.iv_account.specs.declared.failure.Operator.TheVariants.{Plus, Minus, Times}
use Rattle.iv_account.specs.declared.failure.ValueFailure.{ValueFailure}
use Rattle.iv_account.specs.declared.failure.ValueFailure.TheVariants.{OutOfRange, TooLong}
use Rattle.iv_account.specs.declared.failure.RowAtHand.{RowAtHand}
use Rattle.iv_account.specs.declared.failure.RowAtHand.TheVariants as hand
use Rattle.iv_account.specs.declared.failure.EvaluatedFor.{EvaluatedFor}
use Rattle.iv_account.specs.declared.failure.EvaluatedFor.TheVariants as part
use Rattle.iv_account.specs.declared.failure.FailedEvaluation.{FailedEvaluation}
use Rattle.iv_account.specs.Disagreements.{first_of}

-- ---- operations

abbrev pub operation : Operator → ℤ → ℤ → ℤ
operation Plus = ◌+ℤ◌
operation Minus = ◌-ℤ◌
operation Times = ◌*ℤ◌

-- an operation on two numbers, if its result is no INTEGER
abbrev pub out_of_range : Operator → Value → Value → Option ValueFailure
out_of_range operator (Int a) (Int b) = elim (checked (operation operator a b)) [ Some z ↦ None | None ↦ Some (OutOfRange a operator b) ]
out_of_range operator _ _ = None

-- Two parts, of which the left one is evaluated first: what fails in the first of them that has a fault, and otherwise what fails of both.
abbrev pub in_parts : {A B E F : Type 0} → Result A E → Result B E → Option F → Option F → (A → B → Option F) → Option F
in_parts (Err fault) b left right both = left
in_parts (Ok a) (Err fault) left right both = right
in_parts (Ok a) (Ok b) left right both = both a b

abbrev pub nothing : {A B F : Type 0} → A → B → Option F
nothing a b = None

-- the first operation of an expression that fails
abbrev pub expression_failure : Scope → Expr → Option ValueFailure
expression_failure s (plus a b) = in_parts (value s a) (value s b) (expression_failure s a) (expression_failure s b) (out_of_range Plus)
expression_failure s (minus a b) = in_parts (value s a) (value s b) (expression_failure s a) (expression_failure s b) (out_of_range Minus)
expression_failure s (times a b) = in_parts (value s a) (value s b) (expression_failure s a) (expression_failure s b) (out_of_range Times)
expression_failure s _ = None

-- what fails of something that has a fault
abbrev pub if_at_fault : {A E F : Type 0} → Result A E → Option F → Option F
if_at_fault (Ok a) failure = None
if_at_fault (Err fault) failure = failure

-- the first operation of a condition that fails; of EXISTS, at the first row where its condition has a fault
abbrev pub condition_failure : Scope → Cond → Option ValueFailure
condition_failure s Always = None
condition_failure s (Compare op a b) = in_parts (value s a) (value s b) (expression_failure s a) (expression_failure s b) nothing
condition_failure s (IsNull a) = expression_failure s a
condition_failure s (not_c a) = condition_failure s a
condition_failure s (and_c a b) = in_parts (truth s a) (truth s b) (condition_failure s a) (condition_failure s b) nothing
condition_failure s (or_c a b) = in_parts (truth s a) (truth s b) (condition_failure s a) (condition_failure s b) nothing
condition_failure s (exists_c range a) =
    first_of (λ row. if_at_fault (truth (within s row) a) (condition_failure (within s row) a)) (range_rows s range)

-- ---- values for columns

-- a text that has more characters than a column of its kind holds
abbrev pub text_failure : Value → Kind → Option ValueFailure
text_failure (Text t) (Varchar most) = if nat_le (length (chars t)) most then None else Some (TooLong most (length (chars t)))
text_failure _ _ = None

abbrev pub column_failure : Option Column → Value → Option ValueFailure
column_failure None v = None
column_failure (Some column) v = text_failure v column.kind

-- what fails of an expression whose value is for a column of a table
abbrev pub stored_failure : Schema → Scope → ℕ → ℕ → Expr → Option ValueFailure
stored_failure schema s table column e =
    elim (value s e) [ Ok v ↦ column_failure (column_at schema table column) v | Err fault ↦ expression_failure s e ]

-- a failure, with what was evaluated
abbrev pub of_part : EvaluatedFor → Option ValueFailure → Option (EvaluatedFor × ValueFailure)
of_part evaluated failure = option_map (λ f. (evaluated, f)) failure

-- the first failure of expressions whose values are for columns of a table, each with its column
abbrev pub values_failure : Schema → Scope → ℕ → List (ℕ × Expr) → Option (EvaluatedFor × ValueFailure)
values_failure schema s table pairs = first_of (λ p. of_part (part.Column table p.0) (stored_failure schema s table p.0 p.1)) pairs

-- ---- rows

-- a failure, with the row at hand
abbrev pub at_row : RowAtHand → Option (EvaluatedFor × ValueFailure) → Option FailedEvaluation
at_row row failure = option_map (λ f. record { row = row; part = f.0; failure = f.1 }) failure

-- the first that is there
abbrev pub or_else : {A : Type 0} → Option A → Option A → Option A
or_else (Some a) other = Some a
or_else None other = other

-- the failure of a condition at a row
abbrev pub where_failure : Scope → Cond → StoredRow → Option FailedEvaluation
where_failure s condition r =
    at_row (hand.Row r)
    (of_part part.Where (if_at_fault (truth (within s r.values) condition) (condition_failure (within s r.values) condition)))

abbrev pub is_true_at : Scope → Cond → StoredRow → Bool
is_true_at s condition r = elim (truth (within s r.values) condition) [ Ok t ↦ is_true t | Err fault ↦ false ]

-- what fails of what is made of a row, if the condition is true there
abbrev pub if_true_at : Scope → Cond → (StoredRow → Option FailedEvaluation) → StoredRow → Option FailedEvaluation
if_true_at s condition made r = if is_true_at s condition r then made r else None

-- The first failure of a condition, which is evaluated at all rows first, and then of what is made of the rows where it is true.
abbrev pub rows_failure : Scope → Cond → (StoredRow → Option FailedEvaluation) → List StoredRow → Option FailedEvaluation
rows_failure s condition made rows = or_else (first_of (where_failure s condition) rows) (first_of (if_true_at s condition made) rows)

-- one side of a change as a row
abbrev pub stored_side : Side → Change → Option StoredRow
stored_side side c = option_map (λ values. record { table = c.table; number = c.row; values = values }) (side_of side c)

-- the rows of a range, with their numbers
abbrev pub stored_rows : Scope → Range → List StoredRow
stored_rows s (Table t) = table_rows s.rows t
stored_rows s (Transition side) = filter_map (stored_side side) s.frame.transition

-- ---- what a statement proposes

-- the row variables of a frame are at hand
abbrev pub variables : Frame → RowAtHand
variables frame = hand.Variables frame.old frame.new

-- the expressions of an INSERT, each with the column that its value is for
abbrev pub by_column : InsertColumns → List Expr → List (ℕ × Expr)
by_column columns.All expressions = enumerate_from 0 expressions
by_column (columns.Listed places) expressions = zip places expressions

-- what a query gives of a row, as expressions
abbrev pub output_expressions : Outputs → List Value → List Expr
output_expressions Star row = map Literal row
output_expressions (Values expressions) row = expressions

-- the first failure of the insertion of what a query gives of a row
abbrev pub insertion_failure : Schema → Scope → ℕ → InsertColumns → Outputs → StoredRow → Option FailedEvaluation
insertion_failure schema s table listed outputs r =
    at_row (hand.Source r) (values_failure schema (within s r.values) table (by_column listed (output_expressions outputs r.values)))

-- that of the insertion of a tuple of VALUES
abbrev pub tuple_failure : Schema → Scope → ℕ → InsertColumns → List Expr → Option FailedEvaluation
tuple_failure schema s table listed tuple = at_row (variables s.frame) (values_failure schema s table (by_column listed tuple))

abbrev pub insertions_failure : Schema → Scope → ℕ → InsertColumns → InsertRows → Option FailedEvaluation
insertions_failure schema s table listed (rows.Values tuples) =
    first_of (tuple_failure schema s table listed) tuples
insertions_failure schema s table listed (rows.Query outputs range filter) =
    rows_failure s filter (insertion_failure schema s table listed outputs) (stored_rows s range)

-- the expressions of a SET list, each with its column
abbrev pub set_pairs : List Setting → List (ℕ × Expr)
set_pairs settings = map (λ s. (s.column, s.value)) settings

-- the first failure of the update of a row
abbrev pub update_failure : Schema → Scope → ℕ → List Setting → StoredRow → Option FailedEvaluation
update_failure schema s table settings r = at_row (hand.Row r) (values_failure schema (within s r.values) table (set_pairs settings))

-- The first failure of what a statement proposes.
abbrev pub proposal_failure : Schema → List StoredRow → Frame → DataStatement → Option FailedEvaluation
proposal_failure schema rows frame (data_statement.Insert table listed source) = insertions_failure schema (scope_of frame rows) table listed source
proposal_failure schema rows frame (data_statement.Update table settings filter) =
    rows_failure (scope_of frame rows) filter (update_failure schema (scope_of frame rows) table settings) (table_rows rows table)
proposal_failure schema rows frame (data_statement.Delete table filter) = first_of (where_failure (scope_of frame rows) filter) (table_rows rows table)

-- ---- triggers

-- the failure of a trigger's WHEN
abbrev pub when_failure : List StoredRow → Trigger → Frame → Option FailedEvaluation
when_failure rows t frame = at_row (variables frame) (of_part (part.When t.id) (condition_failure (scope_of frame rows) t.when))

-- that of a SET at a change
abbrev pub set_failure : Schema → List StoredRow → Setting → Change → Option FailedEvaluation
set_failure schema rows s c =
    at_row (variables (change_frame c))
    (of_part (part.Column c.table s.column) (stored_failure schema (scope_of (change_frame c) rows) c.table s.column s.value))

-- ---- queries

-- the first failure of the items that are selected
abbrev pub items_failure : Scope → Outputs → Option (EvaluatedFor × ValueFailure)
items_failure s Star = None
items_failure s (Values expressions) =
    first_of (λ p. of_part (part.Item p.0) (expression_failure s p.1)) (enumerate_from 1 expressions)

-- that of the items that are selected of a row
abbrev pub selection_failure : Scope → Outputs → StoredRow → Option FailedEvaluation
selection_failure s outputs r = at_row (hand.Row r) (items_failure (within s r.values) outputs)

-- The first failure of a query.
abbrev pub query_failure : List StoredRow → QueryPlan → Option FailedEvaluation
query_failure rows (query.Rows table outputs filter) =
    rows_failure (scope_of no_frame rows) filter (selection_failure (scope_of no_frame rows) outputs) (table_rows rows table)
query_failure rows (query.Count table filter) = first_of (where_failure (scope_of no_frame rows) filter) (table_rows rows table)
