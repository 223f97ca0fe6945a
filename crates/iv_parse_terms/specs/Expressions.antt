-- Which words are which value expression.
use Rattle.std.specs.Prelude.{◌≡◌, ℕ, Option, Some, None, List, [], ◌∷◌, ◌++◌}
use Rattle.iv_lex.specs.declared.kind.TokenKind.{TokenKind}
use Rattle.iv_lex.specs.declared.kind.TokenKind.TheVariants as kind
use Rattle.iv_lex.specs.Words.{Word, name, number, quoted, plain}
use Rattle.iv_parse_terms.specs.Types.{Sign, Expression}
use Rattle.iv_parse_terms.specs.Types.sign
use Rattle.iv_parse_terms.specs.Types.expression.{Number, Text, Null, Column}
use Rattle.iv_syntax.specs.Trees.{group, signed, product, sum}
use Rattle.iv_parse_terms.specs.After.{after}

abbrev pub sign_kind : Sign → TokenKind
sign_kind sign.Plus = kind.Plus
sign_kind sign.Minus = kind.Minus

-- a qualifier and its period, where there is one
abbrev pub qualifier_spelling : Option (List ℕ) → List Word
qualifier_spelling None = []
qualifier_spelling (Some q) = name q ∷ plain kind.Period ∷ []

-- the words that an expression is written with
abbrev pub spelling : Expression → List Word
spelling (Number n) = number n ∷ []
spelling (Text t) = quoted t ∷ []
spelling Null = plain kind.Null ∷ []
spelling (Column c) = qualifier_spelling c.qualifier ++ name c.name ∷ []
spelling (group a) = plain kind.LeftParenthesis ∷ (spelling a ++ plain kind.RightParenthesis ∷ [])
spelling (signed s a) = plain (sign_kind s) ∷ spelling a
spelling (product a b) = spelling a ++ plain kind.Asterisk ∷ spelling b
spelling (sum s a b) = spelling a ++ plain (sign_kind s) ∷ spelling b

-- The rules: an expression is a term, or an expression, a sign and a term; a term is a factor, or a term, * and a factor;
-- a factor is a primary, or a sign and a primary; a primary is a number, a text, NULL, a column or an expression in parentheses.
pub data Rule : Type 0 where
  expression : Rule
  term : Rule
  factor : Rule
  primary : Rule

-- where an operation with a sign between two operands may be
abbrev pub TakesSum : Rule → Type 0
TakesSum expression = Unit {0}
TakesSum _ = ⊥

-- where a product may be
abbrev pub TakesProduct : Rule → Type 0
TakesProduct expression = Unit {0}
TakesProduct term = Unit {0}
TakesProduct _ = ⊥

-- where a sign before an operand may be
abbrev pub TakesSign : Rule → Type 0
TakesSign primary = ⊥
TakesSign _ = Unit {0}

-- the tree is formed by the rule, each operand by its own
abbrev pub Formed : Rule → Expression → Type 0
Formed r (group a) = Formed expression a
Formed r (signed s a) = TakesSign r × Formed primary a
Formed r (product a b) = TakesProduct r × Formed term a × Formed factor b
Formed r (sum s a b) = TakesSum r × Formed expression a × Formed term b
Formed r _ = Unit {0}

-- the words are an expression of the grammar, and this is its tree
pub record IsExpression (words : List Word) (e : Expression) : Type 0 where
  pub formed : Formed expression e
  pub spelled : words ≡ spelling e

-- the words cannot go on with a primary
abbrev pub EndsPrimary : List Word → Type 0
EndsPrimary ws = after kind.Period ws ≡ None

-- nor with a term
abbrev pub EndsTerm : List Word → Type 0
EndsTerm ws = EndsPrimary ws × (after kind.Asterisk ws ≡ None)

-- nor with an expression
abbrev pub EndsExpression : List Word → Type 0
EndsExpression ws = EndsTerm ws × (after kind.Plus ws ≡ None) × (after kind.Minus ws ≡ None)
