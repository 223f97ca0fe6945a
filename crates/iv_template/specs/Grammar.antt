-- A literal in the grammar: the value expression that it is.
use Rattle.std.specs.Prelude.{◌≡◌, suc, pos, negsuc, nat_lt, if◌then◌else◌}
use Rattle.iv_value.specs.declared.value.Value.{Value}
use Rattle.iv_value.specs.declared.value.Value.TheVariants as value
use Rattle.iv_syntax.specs.declared.limits.TheConstants.{GREATEST_INTEGER}
use Rattle.iv_syntax.specs.declared.tree.Expression.{Expression}
use Rattle.iv_syntax.specs.declared.tree.Expression.TheVariants as expression
use Rattle.iv_syntax.specs.declared.tree.Sign.TheVariants as sign
use Rattle.iv_syntax.specs.Trees.{group, signed, sum}
use Rattle.iv_parse_terms.specs.Expressions.{primary, Formed, spelling}
use Rattle.iv_template.specs.Templates.{literal}

-- the expression that a value is
abbrev pub expression_of : Value → Expression
expression_of value.Null = expression.Null
expression_of (value.Int (pos n)) = expression.Number n
expression_of (value.Int (negsuc n)) =
    if nat_lt n GREATEST_INTEGER then group (signed sign.Minus (expression.Number (suc n)))
    else group (sum sign.Minus (signed sign.Minus (expression.Number GREATEST_INTEGER)) (expression.Number 1))
expression_of (value.Text t) = expression.Text t

-- A literal is the words of an expression that may stand where a primary may, and so wherever an expression may.
abbrev pub LiteralsArePrimaries : Type 0
LiteralsArePrimaries = (v : Value) → Formed primary (expression_of v) × (literal v ≡ spelling (expression_of v))
