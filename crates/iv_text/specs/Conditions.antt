-- The condition of a CHECK as a person writes it: with the names of its columns, or with the values that a row has there. Parentheses stand
-- only where the grammar needs them.
use Rattle.std.specs.Prelude.{ℕ, Bool, true, false, not, ◌&&◌, ◌||◌, ◌==◌, List, [], ◌++◌, codes, pos, negsuc, slice_get, Option, Some, None, option_map}
use Rattle.iv_value.specs.declared.value.Value.{Value}
use Rattle.iv_value.specs.declared.value.Value.TheVariants as value
use Rattle.iv_key.specs.Keys.{value_at}
use Rattle.iv_expr.specs.declared.tree.Comparison.{Comparison}
use Rattle.iv_expr.specs.declared.tree.Comparison.TheVariants as comparison
use Rattle.iv_expr.specs.declared.tree.Cond.{Cond}
use Rattle.iv_expr.specs.declared.tree.Cond.TheVariants as cond
use Rattle.iv_expr.specs.declared.tree.Expr.{Expr}
use Rattle.iv_expr.specs.declared.tree.Expr.TheVariants as expr
use Rattle.iv_expr.specs.Trees.{plus, minus, times, not_c, and_c, or_c, exists_c}
use Rattle.iv_catalogue.specs.declared.catalogue.Column.{Column}
use Rattle.iv_text.specs.Lines.{column_name, value_text}
use Rattle.iv_text.specs.declared.condition.Shown.{Shown}
use Rattle.iv_text.specs.declared.condition.Shown.TheVariants.{Names, Values}

-- what stands for the column at this place: its name, or the value of the row
abbrev pub column_text : Shown → List Column → List Value → ℕ → List ℕ
column_text Names columns row place = column_name (slice_get columns place)
column_text Values columns row place = value_text (value_at row place)

-- in parentheses, if these are needed
abbrev pub enclosed_if : Bool → List ℕ → List ℕ
enclosed_if true text = codes "(" ++ (text ++ codes ")")
enclosed_if false text = text

-- ---- expressions

-- A sign is no node of a tree: -x is 0 minus x.
abbrev pub is_zero_value : Value → Bool
is_zero_value (value.Int (pos n)) = n == 0
is_zero_value _ = false

abbrev pub is_zero : Expr → Bool
is_zero (expr.Literal v) = is_zero_value v
is_zero _ = false

-- what can stand after a sign: a literal that isn't below 0, or the name of a column
abbrev pub is_unsigned : Value → Bool
is_unsigned (value.Int (negsuc n)) = false
is_unsigned _ = true

abbrev pub shows_names : Shown → Bool
shows_names Names = true
shows_names Values = false

abbrev pub takes_sign : Shown → Expr → Bool
takes_sign shown (expr.Literal v) = is_unsigned v
takes_sign shown (expr.Column outward place) = shows_names shown
takes_sign shown _ = false

-- a difference that is written with a sign
abbrev pub is_signed : Shown → Expr → Expr → Bool
is_signed shown a b = is_zero a && takes_sign shown b

abbrev pub is_sum : Shown → Expr → Bool
is_sum shown (plus a b) = true
is_sum shown (minus a b) = not (is_signed shown a b)
is_sum shown _ = false

abbrev pub is_product : Expr → Bool
is_product (times a b) = true
is_product _ = false

-- as the right operand of a product
abbrev pub is_operation : Shown → Expr → Bool
is_operation shown e = is_sum shown e || is_product e

-- what stands before the right operand of a difference: a sign, or the left operand of this text and a minus
abbrev pub minus_text : Bool → List ℕ → List ℕ
minus_text true a = codes "-"
minus_text false a = a ++ codes " - "

-- A CHECK has no row variable.
abbrev pub expression_text : Shown → List Column → List Value → Expr → List ℕ
expression_text shown columns row (expr.Literal v) = value_text v
expression_text shown columns row (expr.Column outward place) = column_text shown columns row place
expression_text shown columns row (expr.Variable side place) = codes "NULL"
expression_text shown columns row (plus a b) =
    expression_text shown columns row a ++ (codes " + " ++ enclosed_if (is_sum shown b) (expression_text shown columns row b))
expression_text shown columns row (minus a b) =
    minus_text (is_signed shown a b) (expression_text shown columns row a) ++ enclosed_if (is_sum shown b) (expression_text shown columns row b)
expression_text shown columns row (times a b) =
    enclosed_if (is_sum shown a) (expression_text shown columns row a)
    ++ (codes " * " ++ enclosed_if (is_operation shown b) (expression_text shown columns row b))

-- ---- conditions

abbrev pub comparison_text : Comparison → List ℕ
comparison_text comparison.Equal = codes " = "
comparison_text comparison.NotEqual = codes " <> "
comparison_text comparison.Less = codes " < "
comparison_text comparison.LessEqual = codes " <= "
comparison_text comparison.Greater = codes " > "
comparison_text comparison.GreaterEqual = codes " >= "

abbrev pub is_both : Cond → Bool
is_both (and_c a b) = true
is_both _ = false

abbrev pub is_either : Cond → Bool
is_either (or_c a b) = true
is_either _ = false

abbrev pub is_null_test : Cond → Bool
is_null_test (cond.IsNull a) = true
is_null_test _ = false

-- NOT over IS NULL is written as IS NOT NULL.
abbrev pub is_negated : Cond → Bool
is_negated (not_c a) = not (is_null_test a)
is_negated _ = false

-- what an IS NULL is of
abbrev pub null_operand : Cond → Option Expr
null_operand (cond.IsNull a) = Some a
null_operand _ = None

-- NOT over a condition of this text, or IS NOT NULL of this operand
abbrev pub not_text : Option (List ℕ) → Bool → List ℕ → List ℕ
not_text (Some operand) enclosed text = operand ++ codes " IS NOT NULL"
not_text None enclosed text = codes "NOT " ++ enclosed_if enclosed text

-- the parentheses that an operand needs: of AND on the right, and of NOT
abbrev pub is_below_and : Cond → Bool
is_below_and c = is_either c || is_both c

abbrev pub is_below_not : Cond → Bool
is_below_not c = is_below_and c || is_negated c

-- A CHECK has no EXISTS.
abbrev pub condition_text : Shown → List Column → List Value → Cond → List ℕ
condition_text shown columns row cond.Always = codes "NULL IS NULL"
condition_text shown columns row (cond.Compare op a b) =
    expression_text shown columns row a ++ (comparison_text op ++ expression_text shown columns row b)
condition_text shown columns row (cond.IsNull a) = expression_text shown columns row a ++ codes " IS NULL"
condition_text shown columns row (not_c a) =
    not_text (option_map (expression_text shown columns row) (null_operand a)) (is_below_not a) (condition_text shown columns row a)
condition_text shown columns row (and_c a b) =
    enclosed_if (is_either a) (condition_text shown columns row a)
    ++ (codes " AND " ++ enclosed_if (is_below_and b) (condition_text shown columns row b))
condition_text shown columns row (or_c a b) =
    condition_text shown columns row a ++ (codes " OR " ++ enclosed_if (is_either b) (condition_text shown columns row b))
condition_text shown columns row (exists_c r a) = codes "EXISTS (..)"
