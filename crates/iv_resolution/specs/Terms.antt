-- Value expressions and search conditions as they are written: a column that names nothing, an integer that meets a text, and what they
-- mean once every name is resolved ("Value expression", "Search condition").
use Rattle.std.specs.Prelude.{min, ℤ, ℕ, Bool, true, false, not, ◌&&◌, ◌||◌, List, ◌∷◌, pos, Option, Some, None, is_none}
use Rattle.iv_resolution.specs.Types.{Expr, Cond, ColumnType, Sign, ColumnName, Expression, Condition}
use Rattle.iv_resolution.specs.Types.value
use Rattle.iv_resolution.specs.Types.expr
use Rattle.iv_resolution.specs.Types.cond
use Rattle.iv_resolution.specs.Types.type
use Rattle.iv_resolution.specs.Types.sign
use Rattle.iv_resolution.specs.Types.expression
use Rattle.iv_resolution.specs.Types.condition
use Rattle.iv_expr.specs.Trees.{plus, minus, times, not_c, and_c, or_c, exists_c}
use Rattle.iv_syntax.specs.Trees.{group, signed, product, sum, enclosed, negated, both, either, exists_where}
use Rattle.iv_syntax.specs.declared.limits.TheConstants.{GREATEST_INTEGER}
use Rattle.iv_resolution.specs.declared.origin.Origin.TheVariants.{Rows, Variable}
use Rattle.iv_resolution.specs.Scopes.{NamedRange, Found, Names, column_meant, source_range, range_of}

-- ---- names that name nothing

-- a column's name that names nothing
abbrev pub unknown_column : List NamedRange → ColumnName → Bool
unknown_column ranges c = is_none (column_meant ranges c)

-- ---- kinds, on the tree as it is written: NULL, and a name that names nothing, suit every kind

abbrev pub is_integer_type : ColumnType → Bool
is_integer_type type.Integer = true
is_integer_type (type.Varchar n) = false

abbrev pub is_text_type : ColumnType → Bool
is_text_type t = not (is_integer_type t)

abbrev pub is_integer_column : Option Found → Bool
is_integer_column (Some f) = is_integer_type f.kind
is_integer_column None = false

abbrev pub is_text_column : Option Found → Bool
is_text_column (Some f) = is_text_type f.kind
is_text_column None = false

-- Signs and arithmetic give integers, over NULL too.
abbrev pub is_integer : List NamedRange → Expression → Bool
is_integer ranges (expression.Number n) = true
is_integer ranges (expression.Column c) = is_integer_column (column_meant ranges c)
is_integer ranges (group a) = is_integer ranges a
is_integer ranges (signed s a) = true
is_integer ranges (product a b) = true
is_integer ranges (sum s a b) = true
is_integer ranges _ = false

abbrev pub is_text : List NamedRange → Expression → Bool
is_text ranges (expression.Text t) = true
is_text ranges (expression.Column c) = is_text_column (column_meant ranges c)
is_text ranges (group a) = is_text ranges a
is_text ranges _ = false

-- an integer meets a text
unfoldable pub clash : List NamedRange → Expression → Expression → Bool
clash ranges a b = (is_integer ranges a && is_text ranges b) || (is_text ranges a && is_integer ranges b)

-- one of two operands is a text
unfoldable pub some_text : List NamedRange → Expression → Expression → Bool
some_text ranges a b = is_text ranges a || is_text ranges b

-- a sign or arithmetic on a text
abbrev pub misshaped_expression : List NamedRange → Expression → Bool
misshaped_expression ranges (group a) = misshaped_expression ranges a
misshaped_expression ranges (signed s a) = is_text ranges a || misshaped_expression ranges a
misshaped_expression ranges (product a b) = some_text ranges a b || (misshaped_expression ranges a || misshaped_expression ranges b)
misshaped_expression ranges (sum s a b) = some_text ranges a b || (misshaped_expression ranges a || misshaped_expression ranges b)
misshaped_expression ranges _ = false

unfoldable pub misshaped_condition : Names → List NamedRange → Condition → Bool
misshaped_condition names ranges (condition.Compare op a b) = clash ranges a b || (misshaped_expression ranges a || misshaped_expression ranges b)
misshaped_condition names ranges (condition.IsNull a) = misshaped_expression ranges a
misshaped_condition names ranges (condition.IsNotNull a) = misshaped_expression ranges a
misshaped_condition names ranges (condition.Exists r) = false
misshaped_condition names ranges (exists_where r a) = misshaped_condition names (range_of names r ∷ ranges) a
misshaped_condition names ranges (enclosed a) = misshaped_condition names ranges a
misshaped_condition names ranges (negated a) = misshaped_condition names ranges a
misshaped_condition names ranges (both a b) = misshaped_condition names ranges a || misshaped_condition names ranges b
misshaped_condition names ranges (either a b) = misshaped_condition names ranges a || misshaped_condition names ranges b

abbrev pub misshaped_filter : Names → List NamedRange → Option Condition → Bool
misshaped_filter names ranges None = false
misshaped_filter names ranges (Some c) = misshaped_condition names ranges c

-- ---- EXISTS, which no CHECK may have

abbrev pub has_exists : Condition → Bool
has_exists (condition.Exists r) = true
has_exists (exists_where r a) = true
has_exists (enclosed a) = has_exists a
has_exists (negated a) = has_exists a
has_exists (both a b) = has_exists a || has_exists b
has_exists (either a b) = has_exists a || has_exists b
has_exists _ = false

-- ---- what they mean, where every name names something; NULL is put where one doesn't

-- a number beyond the greatest INTEGER, which no text of the language has, is put as the greatest
unfoldable pub integer_of : ℕ → ℤ
integer_of n = pos (min n GREATEST_INTEGER)

abbrev pub bound_origin : Found → Expr
bound_origin f = elim f.origin [ Rows ↦ expr.Column f.outward f.place | Variable side ↦ expr.Variable side f.place ]

abbrev pub bound_column : Option Found → Expr
bound_column (Some f) = bound_origin f
bound_column None = expr.Literal value.Null

-- unary minus is 0 minus the operand
abbrev pub bound_sign : Sign → Expr → Expr
bound_sign sign.Plus a = a
bound_sign sign.Minus a = minus (expr.Literal (value.Int (pos 0))) a

abbrev pub bound_sum : Sign → Expr → Expr → Expr
bound_sum sign.Plus a b = plus a b
bound_sum sign.Minus a b = minus a b

abbrev pub bound_expression : List NamedRange → Expression → Expr
bound_expression ranges (expression.Number n) = expr.Literal (value.Int (integer_of n))
bound_expression ranges (expression.Text t) = expr.Literal (value.Text t)
bound_expression ranges expression.Null = expr.Literal value.Null
bound_expression ranges (expression.Column c) = bound_column (column_meant ranges c)
bound_expression ranges (group a) = bound_expression ranges a
bound_expression ranges (signed s a) = bound_sign s (bound_expression ranges a)
bound_expression ranges (product a b) = times (bound_expression ranges a) (bound_expression ranges b)
bound_expression ranges (sum s a b) = bound_sum s (bound_expression ranges a) (bound_expression ranges b)

-- IS NOT NULL is NOT over IS NULL
unfoldable pub bound_condition : Names → List NamedRange → Condition → Cond
bound_condition names ranges (condition.Compare op a b) = cond.Compare op (bound_expression ranges a) (bound_expression ranges b)
bound_condition names ranges (condition.IsNull a) = cond.IsNull (bound_expression ranges a)
bound_condition names ranges (condition.IsNotNull a) = not_c (cond.IsNull (bound_expression ranges a))
bound_condition names ranges (condition.Exists r) = exists_c (source_range names r.table) cond.Always
bound_condition names ranges (exists_where r a) = exists_c (source_range names r.table) (bound_condition names (range_of names r ∷ ranges) a)
bound_condition names ranges (enclosed a) = bound_condition names ranges a
bound_condition names ranges (negated a) = not_c (bound_condition names ranges a)
bound_condition names ranges (both a b) = and_c (bound_condition names ranges a) (bound_condition names ranges b)
bound_condition names ranges (either a b) = or_c (bound_condition names ranges a) (bound_condition names ranges b)

-- no WHERE or WHEN is true of every row
abbrev pub bound_filter : Names → List NamedRange → Option Condition → Cond
bound_filter names ranges None = cond.Always
bound_filter names ranges (Some c) = bound_condition names ranges c
