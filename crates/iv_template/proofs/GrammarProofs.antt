-- A literal is a primary.
use Rattle.std.proofs.Common.{◌≡◌, ℕ, suc, Bool, true, false, refl}
use Rattle.std.specs.Prelude.{[], ◌∷◌, pos, negsuc, nat_lt, if◌then◌else◌}
use Rattle.iv_value.specs.declared.value.Value.TheVariants as value
use Rattle.iv_lex.specs.declared.kind.TokenKind.TheVariants as kind
use Rattle.iv_lex.specs.Words.{number, plain}
use Rattle.iv_syntax.specs.declared.limits.TheConstants.{GREATEST_INTEGER}
use Rattle.iv_syntax.specs.declared.tree.Expression.{Expression}
use Rattle.iv_syntax.specs.declared.tree.Expression.TheVariants as expression
use Rattle.iv_syntax.specs.declared.tree.Sign.TheVariants as sign
use Rattle.iv_syntax.specs.Trees.{group, signed, sum}
use Rattle.iv_parse_terms.specs.Expressions.{primary, Formed, spelling}
use Rattle.iv_template.specs.Templates.{least}
use Rattle.iv_template.specs.Grammar.{LiteralsArePrimaries}

least_tree : Expression
least_tree = group (sum sign.Minus (signed sign.Minus (expression.Number GREATEST_INTEGER)) (expression.Number 1))

negative : (n : ℕ) (x : Bool) → Formed primary (if x then group (signed sign.Minus (expression.Number (suc n))) else least_tree)
    × ((if x then plain kind.LeftParenthesis ∷ plain kind.Minus ∷ number (suc n) ∷ plain kind.RightParenthesis ∷ [] else least)
    ≡ spelling (if x then group (signed sign.Minus (expression.Number (suc n))) else least_tree))
unfolding least_tree
negative n true = ((tt {0}, tt {0}), refl)
negative n false = ((tt {0}, (tt {0}, tt {0}), tt {0}), refl)

pub literals_are_primaries : LiteralsArePrimaries
unfolding least_tree
literals_are_primaries value.Null = (tt {0}, refl)
literals_are_primaries (value.Int (pos n)) = (tt {0}, refl)
literals_are_primaries (value.Int (negsuc n)) = negative n (nat_lt n GREATEST_INTEGER)
literals_are_primaries (value.Text t) = (tt {0}, refl)
