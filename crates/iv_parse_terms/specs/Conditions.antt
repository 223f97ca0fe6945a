-- Which words are which search condition.
use Rattle.std.specs.Prelude.{◌≡◌, ℕ, ◌⊎◌, Option, Some, None, List, [], ◌∷◌, ◌++◌}
use Rattle.iv_parse_terms.specs.Types.{Comparison, RangeName, Condition}
use Rattle.iv_parse_terms.specs.Types.comparison
use Rattle.iv_parse_terms.specs.Types.condition.{Compare, IsNull, IsNotNull, Exists}
use Rattle.iv_lex.specs.declared.kind.TokenKind.{TokenKind}
use Rattle.iv_lex.specs.declared.kind.TokenKind.TheVariants as kind
use Rattle.iv_lex.specs.Words.{Word, name, plain}
use Rattle.iv_syntax.specs.Trees.{enclosed, negated, both, either, exists_where}
use Rattle.iv_parse_terms.specs.After.{after, after_name}
use Rattle.iv_parse_terms.specs.Expressions.{spelling, Formed, expression, EndsExpression}

abbrev pub comparison_kind : Comparison → TokenKind
comparison_kind comparison.Equal = kind.Equals
comparison_kind comparison.NotEqual = kind.NotEquals
comparison_kind comparison.Less = kind.Less
comparison_kind comparison.LessEqual = kind.LessEquals
comparison_kind comparison.Greater = kind.Greater
comparison_kind comparison.GreaterEqual = kind.GreaterEquals

-- no alias, or a name, or AS and a name
abbrev pub AliasSpelled : Option (List ℕ) → List Word → Type 0
AliasSpelled None ws = ws ≡ []
AliasSpelled (Some a) ws = (ws ≡ name a ∷ []) ⊎ (ws ≡ plain kind.As ∷ name a ∷ [])

-- FROM, the table and its alias
abbrev pub RangeSpelled : RangeName → List Word → Type 0
RangeSpelled r ws = (alias : List Word) × AliasSpelled r.alias alias × (ws ≡ plain kind.From ∷ name r.table ∷ alias)

-- EXISTS over all rows that FROM .. gives
abbrev pub exists_spelling : List Word → List Word
exists_spelling from =
    plain kind.Exists ∷ plain kind.LeftParenthesis ∷ plain kind.Select ∷ plain kind.Asterisk ∷ (from ++ plain kind.RightParenthesis ∷ [])

-- the words are one of those that the condition is written with (AS may be left out)
abbrev pub Spelled : Condition → List Word → Type 0
Spelled (Compare o a b) ws = ws ≡ spelling a ++ plain (comparison_kind o) ∷ spelling b
Spelled (IsNull a) ws = ws ≡ spelling a ++ plain kind.Is ∷ plain kind.Null ∷ []
Spelled (IsNotNull a) ws = ws ≡ spelling a ++ plain kind.Is ∷ plain kind.Not ∷ plain kind.Null ∷ []
Spelled (Exists r) ws = (from : List Word) × RangeSpelled r from × (ws ≡ exists_spelling from)
Spelled (exists_where r a) ws =
    (from : List Word) × (inner : List Word) × RangeSpelled r from × Spelled a inner × (ws ≡ exists_spelling (from ++ plain kind.Where ∷ inner))
Spelled (enclosed a) ws =
    (inner : List Word) × Spelled a inner × (ws ≡ plain kind.LeftParenthesis ∷ (inner ++ plain kind.RightParenthesis ∷ []))
Spelled (negated a) ws = (inner : List Word) × Spelled a inner × (ws ≡ plain kind.Not ∷ inner)
Spelled (both a b) ws =
    (left : List Word) × (right : List Word) × Spelled a left × Spelled b right × (ws ≡ left ++ plain kind.And ∷ right)
Spelled (either a b) ws =
    (left : List Word) × (right : List Word) × Spelled a left × Spelled b right × (ws ≡ left ++ plain kind.Or ∷ right)

-- The rules: a condition is a conjunction, or a condition, OR and a conjunction; a conjunction is a negation, or a conjunction, AND and a
-- negation; a negation is a test, or NOT and a test; a test is a predicate or a condition in parentheses.
pub data ConditionRule : Type 0 where
  condition : ConditionRule
  conjunction : ConditionRule
  negation : ConditionRule
  test : ConditionRule

-- where OR may be
abbrev pub TakesOr : ConditionRule → Type 0
TakesOr condition = Unit {0}
TakesOr _ = ⊥

-- where AND may be
abbrev pub TakesAnd : ConditionRule → Type 0
TakesAnd condition = Unit {0}
TakesAnd conjunction = Unit {0}
TakesAnd _ = ⊥

-- where NOT may be
abbrev pub TakesNot : ConditionRule → Type 0
TakesNot test = ⊥
TakesNot _ = Unit {0}

-- the tree is formed by the rule, each operand by its own
abbrev pub ConditionFormed : ConditionRule → Condition → Type 0
ConditionFormed r (Compare o a b) = Formed expression a × Formed expression b
ConditionFormed r (IsNull a) = Formed expression a
ConditionFormed r (IsNotNull a) = Formed expression a
ConditionFormed r (Exists range) = Unit {0}
ConditionFormed r (exists_where range a) = ConditionFormed condition a
ConditionFormed r (enclosed a) = ConditionFormed condition a
ConditionFormed r (negated a) = TakesNot r × ConditionFormed test a
ConditionFormed r (both a b) = TakesAnd r × ConditionFormed conjunction a × ConditionFormed negation b
ConditionFormed r (either a b) = TakesOr r × ConditionFormed condition a × ConditionFormed conjunction b

-- the words are a condition of the grammar, and this is its tree
pub record IsCondition (words : List Word) (c : Condition) : Type 0 where
  pub formed : ConditionFormed condition c
  pub spelled : Spelled c words

-- the words are FROM, a table, its alias and WHERE with a condition, where there is one
abbrev pub IsFrom : List Word → RangeName → Option Condition → Type 0
IsFrom ws r None = RangeSpelled r ws
IsFrom ws r (Some c) =
    (from : List Word) × (inner : List Word) × RangeSpelled r from × IsCondition inner c × (ws ≡ from ++ plain kind.Where ∷ inner)

-- the words cannot go on with a conjunction
abbrev pub EndsConjunction : List Word → Type 0
EndsConjunction ws = EndsExpression ws × (after kind.And ws ≡ None)

-- nor with a condition
abbrev pub EndsCondition : List Word → Type 0
EndsCondition ws = EndsConjunction ws × (after kind.Or ws ≡ None)

-- nor with a FROM
abbrev pub EndsFrom : List Word → Type 0
EndsFrom ws = EndsCondition ws × (after kind.As ws ≡ None) × (after_name ws ≡ None) × (after kind.Where ws ≡ None)
