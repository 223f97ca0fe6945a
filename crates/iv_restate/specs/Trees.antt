-- The trees of resolved expressions and conditions: with names in place of places, so that each name means what it should.
use Rattle.std.specs.Prelude.{ℕ, suc, Bool, true, false, not, ◌&&◌, ◌++◌, ◌+◌, ◌-◌, ◌==◌, if◌then◌else◌, pos, negsuc, decimal, List, [], ◌∷◌, find, Option, Some, None, option_map, nat_lt, slice_get}
use Rattle.iv_restate.specs.Types.{Value, Expr, Cond, Range, Side, ColumnName, Expression, Condition, RangeName, Referencing, TransitionName, Table}
use Rattle.iv_restate.specs.Types.value
use Rattle.iv_restate.specs.Types.expr
use Rattle.iv_restate.specs.Types.cond
use Rattle.iv_restate.specs.Types.range
use Rattle.iv_restate.specs.Types.sign
use Rattle.iv_restate.specs.Types.expression
use Rattle.iv_restate.specs.Types.condition
use Rattle.iv_expr.specs.Trees.{plus, minus, times, not_c, and_c, or_c, exists_c}
use Rattle.iv_syntax.specs.Trees.{signed, exists_where}
use Rattle.iv_syntax.specs.declared.limits.TheConstants.{GREATEST_INTEGER}
use Rattle.iv_resolution.specs.Scopes.{NamedColumn, NamedRange, named_columns, number}
use Rattle.iv_resolution.specs.Triggers.{is_side, names_row}
use Rattle.iv_resolution.specs.declared.origin.Origin.TheVariants.{Rows}
use Rattle.iv_restate.specs.Parentheses.{summed, difference, multiplied, denied, all_of, one_of}

-- ---- literals

-- the least integer, which is no number of the language
abbrev pub least_integer : Expression
least_integer = summed sign.Minus (signed sign.Minus (expression.Number GREATEST_INTEGER)) (expression.Number 1)

-- A number below 0 has a sign.
abbrev pub literal_of : Value → Expression
literal_of value.Null = expression.Null
literal_of (value.Int (pos n)) = expression.Number n
literal_of (value.Int (negsuc n)) =
    if nat_lt n GREATEST_INTEGER then signed sign.Minus (expression.Number (suc n)) else least_integer
literal_of (value.Text t) = expression.Text t

-- ---- names

-- What names there are besides those of ranges: tables by place, the items of REFERENCING of a trigger, the columns of its table, and how
-- an alias begins. A CHECK has none of them.
pub record Naming : Type 0 where
  pub tables : List Table
  pub items : List Referencing
  pub subject : List NamedColumn
  pub stem : List ℕ

abbrev pub no_naming : Naming
no_naming = record { tables = []; items = []; subject = []; stem = [] }

-- the item names the old or new row, or the old or new table
abbrev pub is_item : Side → Bool → Referencing → Bool
is_item s row i = is_side s i.side && elim row [ true ↦ names_row i | false ↦ not (names_row i) ]

abbrev pub item_name : Side → Bool → List Referencing → Option (List ℕ)
item_name s row items = option_map (λ i. i.name) (find (is_item s row) items)

abbrev pub column_in : Option (List ℕ) → List NamedColumn → ℕ → Option ColumnName
column_in qualifier columns place = option_map (λ c. record { qualifier = qualifier; name = c.name }) (slice_get columns place)

-- a column of the range that so many others are inside of, with the name of the range before it
abbrev pub column_outside : List NamedRange → ℕ → ℕ → Option ColumnName
column_outside [] outward place = None
column_outside (r ∷ ranges) outward place =
    if outward == 0 then column_in (Some r.name) r.columns place else column_outside ranges (outward - 1) place

-- A column of the innermost range needs no qualifier.
abbrev pub column_named : List NamedRange → ℕ → ℕ → Option ColumnName
column_named [] outward place = None
column_named (r ∷ ranges) outward place =
    if outward == 0 then column_in None r.columns place else column_outside ranges (outward - 1) place

-- a column of a row variable
abbrev pub variable_named : Naming → Side → ℕ → Option ColumnName
variable_named n s place = elim (item_name s true n.items) [ Some name ↦ column_in (Some name) n.subject place | None ↦ None ]

-- what a FROM names
abbrev pub source_name : Naming → Range → Option (List ℕ)
source_name n (range.Table place) = option_map (λ t. t.name) (slice_get n.tables place)
source_name n (range.Transition s) = item_name s false n.items

abbrev pub source_columns : Naming → Range → List NamedColumn
source_columns n (range.Table place) = elim (slice_get n.tables place) [ Some t ↦ named_columns t.columns | None ↦ [] ]
source_columns n (range.Transition s) = n.subject

-- how many ranges there are; a count of 32 bits is far beyond the limits of the language
abbrev pub depth_of : List NamedRange → ℕ
depth_of [] = 0
depth_of (r ∷ ranges) = number (depth_of ranges + 1)

-- a range is called after how many ranges are around it
abbrev pub alias_of : Naming → List NamedRange → List ℕ
alias_of n ranges = n.stem ++ decimal (depth_of ranges)

-- the range of an EXISTS, inside these
abbrev pub inner_range : Naming → List NamedRange → Range → NamedRange
inner_range n ranges r = record { name = alias_of n ranges; columns = source_columns n r; origin = Rows }

-- ---- expressions

-- NULL where there is no such column
abbrev pub column_or_null : Option ColumnName → Expression
column_or_null (Some c) = expression.Column c
column_or_null None = expression.Null

abbrev pub expression_of : Naming → List NamedRange → Expr → Expression
expression_of n ranges (expr.Literal v) = literal_of v
expression_of n ranges (expr.Column outward place) = column_or_null (column_named ranges outward place)
expression_of n ranges (expr.Variable s place) = column_or_null (variable_named n s place)
expression_of n ranges (plus a b) = summed sign.Plus (expression_of n ranges a) (expression_of n ranges b)
expression_of n ranges (minus a b) = difference (expression_of n ranges a) (expression_of n ranges b)
expression_of n ranges (times a b) = multiplied (expression_of n ranges a) (expression_of n ranges b)

-- ---- conditions

abbrev pub is_always : Cond → Bool
is_always cond.Always = true
is_always _ = false

-- what an IS NULL is of
abbrev pub null_operand : Cond → Option Expr
null_operand (cond.IsNull a) = Some a
null_operand _ = None

-- NOT over IS NULL is IS NOT NULL
abbrev pub not_of : Option Expression → Condition → Condition
not_of (Some a) c = condition.IsNotNull a
not_of None c = denied c

-- a condition that is true of every row
abbrev pub true_condition : Condition
true_condition = condition.IsNull expression.Null

-- EXISTS over a range, with the tree of its condition
abbrev pub exists_of : Naming → List NamedRange → Range → Bool → Condition → Condition
exists_of n ranges r every c =
    elim (source_name n r) [
      | Some name ↦ if every then condition.Exists (record { table = name; alias = Some (alias_of n ranges) })
          else exists_where (record { table = name; alias = Some (alias_of n ranges) }) c
      | None ↦ true_condition
    ]

unfoldable pub condition_of : Naming → List NamedRange → Cond → Condition
condition_of n ranges cond.Always = true_condition
condition_of n ranges (cond.Compare op a b) = condition.Compare op (expression_of n ranges a) (expression_of n ranges b)
condition_of n ranges (cond.IsNull a) = condition.IsNull (expression_of n ranges a)
condition_of n ranges (not_c a) = not_of (option_map (expression_of n ranges) (null_operand a)) (condition_of n ranges a)
condition_of n ranges (and_c a b) = all_of (condition_of n ranges a) (condition_of n ranges b)
condition_of n ranges (or_c a b) = one_of (condition_of n ranges a) (condition_of n ranges b)
condition_of n ranges (exists_c r a) = exists_of n ranges r (is_always a) (condition_of n (inner_range n ranges r ∷ ranges) a)

-- the one range of a CHECK; what it is called doesn't matter
abbrev pub check_range : List NamedColumn → NamedRange
check_range columns = record { name = []; columns = columns; origin = Rows }

-- the condition of a CHECK
abbrev pub check_of : List NamedColumn → Cond → Condition
check_of columns c = condition_of no_naming (check_range columns ∷ []) c
