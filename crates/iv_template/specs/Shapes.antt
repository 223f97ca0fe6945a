-- Value expressions with holes, and what they are with values at the holes.
use Rattle.std.specs.Prelude.{◌≡◌, List, [], ◌∷◌, ◌++◌, map, length, take, drop}
use Rattle.iv_value.specs.declared.value.Value.{Value}
use Rattle.iv_lex.specs.declared.kind.TokenKind.TheVariants as kind
use Rattle.iv_lex.specs.Words.{plain}
use Rattle.iv_syntax.specs.declared.tree.Expression.{Expression}
use Rattle.iv_syntax.specs.declared.tree.Expression.TheVariants as tree
use Rattle.iv_syntax.specs.declared.tree.Sign.{Sign}
use Rattle.iv_syntax.specs.Trees.{group, signed, product, sum}
use Rattle.iv_parse_terms.specs.Expressions.{Rule, expression, term, factor, primary, TakesSum, TakesProduct, TakesSign, Formed, sign_kind, spelling, IsExpression}
use Rattle.iv_template.specs.Templates.{Part, word, hole, filled, holes}
use Rattle.iv_template.specs.Grammar.{expression_of}

-- the tree of a value expression with holes: an expression without one is given
pub data Shape : Type 0 where
  blank : Shape
  given : Expression → Shape
  grouped : Shape → Shape
  with_sign : Sign → Shape → Shape
  times : Shape → Shape → Shape
  plus : Sign → Shape → Shape → Shape

-- the parts that it is written with
abbrev pub parts_of : Shape → List Part
parts_of blank = hole ∷ []
parts_of (given e) = map word (spelling e)
parts_of (grouped a) = word (plain kind.LeftParenthesis) ∷ (parts_of a ++ word (plain kind.RightParenthesis) ∷ [])
parts_of (with_sign s a) = word (plain (sign_kind s)) ∷ parts_of a
parts_of (times a b) = parts_of a ++ word (plain kind.Asterisk) ∷ parts_of b
parts_of (plus s a b) = parts_of a ++ word (plain (sign_kind s)) ∷ parts_of b

-- The tree is formed by the rule of the grammar, each operand by its own. A hole may be any operand.
abbrev pub FormedWithHoles : Rule → Shape → Type 0
FormedWithHoles r blank = Unit {0}
FormedWithHoles r (given e) = Formed r e
FormedWithHoles r (grouped a) = FormedWithHoles expression a
FormedWithHoles r (with_sign s a) = TakesSign r × FormedWithHoles primary a
FormedWithHoles r (times a b) = TakesProduct r × FormedWithHoles term a × FormedWithHoles factor b
FormedWithHoles r (plus s a b) = TakesSum r × FormedWithHoles expression a × FormedWithHoles term b

-- the tree with the values' expressions at its holes, in their order
abbrev pub with_values : Shape → List Value → Expression
with_values blank [] = tree.Null
with_values blank (v ∷ vs) = expression_of v
with_values (given e) vs = e
with_values (grouped a) vs = group (with_values a vs)
with_values (with_sign s a) vs = signed s (with_values a vs)
with_values (times a b) vs =
    product (with_values a (take (holes (parts_of a)) vs)) (with_values b (drop (holes (parts_of a)) vs))
with_values (plus s a b) vs =
    sum s (with_values a (take (holes (parts_of a)) vs)) (with_values b (drop (holes (parts_of a)) vs))

-- The words of a filled value expression are an expression of the grammar, and its tree is that of the
-- template with the values' expressions at its holes.
abbrev pub ValuesStandAtHoles : Type 0
ValuesStandAtHoles =
    (s : Shape) (vs : List Value) → FormedWithHoles expression s → holes (parts_of s) ≡ length vs
    → IsExpression (filled (parts_of s) vs) (with_values s vs)
