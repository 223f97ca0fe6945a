-- Operations with parentheses where the grammar needs them: around an operand that would otherwise be read as something else ("Numeric
-- value expression", "Boolean value expression").
use Rattle.std.specs.Prelude.{ℕ, Bool, true, false, ◌&&◌, ◌||◌, ◌==◌, if◌then◌else◌}
use Rattle.iv_restate.specs.Types.{Sign, Expression, Condition}
use Rattle.iv_restate.specs.Types.sign
use Rattle.iv_restate.specs.Types.expression
use Rattle.iv_syntax.specs.Trees.{group, signed, product, sum, enclosed, negated, both, either}

-- ---- expressions

abbrev pub is_sum : Expression → Bool
is_sum (sum s a b) = true
is_sum _ = false

abbrev pub is_product : Expression → Bool
is_product (product a b) = true
is_product _ = false

-- no sign, no operator and no parentheses
abbrev pub is_atom : Expression → Bool
is_atom (expression.Number n) = true
is_atom (expression.Text t) = true
is_atom expression.Null = true
is_atom (expression.Column c) = true
is_atom _ = false

abbrev pub is_zero : Expression → Bool
is_zero (expression.Number n) = n == 0
is_zero _ = false

-- as the right operand of a sum, and the left one of a product
abbrev pub as_term : Expression → Expression
as_term e = if is_sum e then group e else e

-- as the right operand of a product
abbrev pub as_factor : Expression → Expression
as_factor e = if is_sum e || is_product e then group e else e

abbrev pub summed : Sign → Expression → Expression → Expression
summed s a b = sum s a (as_term b)

-- A sign stands before a number, a text, NULL, a column, or a sum in parentheses. Before anything else it could make a tree deeper than it was.
abbrev pub takes_sign : Expression → Bool
takes_sign e = is_atom e || is_sum e

-- 0 minus an operand that takes a sign is that with a sign
abbrev pub difference : Expression → Expression → Expression
difference a b = if is_zero a && takes_sign b then signed sign.Minus (as_term b) else summed sign.Minus a b

abbrev pub multiplied : Expression → Expression → Expression
multiplied a b = product (as_term a) (as_factor b)

-- ---- conditions

abbrev pub is_negated : Condition → Bool
is_negated (negated a) = true
is_negated _ = false

abbrev pub is_both : Condition → Bool
is_both (both a b) = true
is_both _ = false

abbrev pub is_either : Condition → Bool
is_either (either a b) = true
is_either _ = false

-- as an operand of OR on the right, and of AND on the left
abbrev pub as_conjunction : Condition → Condition
as_conjunction c = if is_either c then enclosed c else c

-- as an operand of AND on the right
abbrev pub as_negation : Condition → Condition
as_negation c = if is_either c || is_both c then enclosed c else c

-- as the operand of NOT
abbrev pub as_test : Condition → Condition
as_test c = if is_either c || (is_both c || is_negated c) then enclosed c else c

abbrev pub denied : Condition → Condition
denied c = negated (as_test c)

abbrev pub all_of : Condition → Condition → Condition
all_of a b = both (as_conjunction a) (as_negation b)

abbrev pub one_of : Condition → Condition → Condition
one_of a b = either a (as_conjunction b)
