-- Search conditions with holes, and what they are with values at the holes.
use Rattle.std.specs.Prelude.{◌≡◌, List, [], ◌∷◌, ◌++◌, map, length, take, drop}
use Rattle.iv_value.specs.declared.value.Value.{Value}
use Rattle.iv_lex.specs.declared.kind.TokenKind.TheVariants as kind
use Rattle.iv_lex.specs.Words.{Word, plain}
use Rattle.iv_parse_terms.specs.Types.{Comparison, Condition, RangeName}
use Rattle.iv_parse_terms.specs.Types.condition as tree
use Rattle.iv_syntax.specs.Trees.{enclosed, negated, both, either, exists_where}
use Rattle.iv_parse_terms.specs.Expressions.{expression}
use Rattle.iv_parse_terms.specs.Conditions.{ConditionRule, IsCondition, RangeSpelled, TakesAnd, TakesNot, TakesOr, comparison_kind, condition, conjunction, exists_spelling, negation, test}
use Rattle.iv_template.specs.Templates.{Part, word, filled, holes}
use Rattle.iv_template.specs.Shapes.{FormedWithHoles, Shape, parts_of, with_values}

-- the tree of a search condition with holes, and of an EXISTS the words from its FROM up to its WHERE
pub data ConditionShape : Type 0 where
  compared : Comparison → Shape → Shape → ConditionShape
  null : Shape → ConditionShape
  not_null : Shape → ConditionShape
  exists : RangeName → List Word → ConditionShape
  exists_with : RangeName → List Word → ConditionShape → ConditionShape
  grouped : ConditionShape → ConditionShape
  not : ConditionShape → ConditionShape
  and : ConditionShape → ConditionShape → ConditionShape
  or : ConditionShape → ConditionShape → ConditionShape

-- the words of EXISTS before its FROM
abbrev pub exists_front : List Part → List Part
exists_front ps = word (plain kind.Exists) ∷ word (plain kind.LeftParenthesis) ∷ word (plain kind.Select) ∷ word (plain kind.Asterisk) ∷ ps

-- the parts that it is written with
abbrev pub condition_parts : ConditionShape → List Part
condition_parts (compared o a b) = parts_of a ++ word (plain (comparison_kind o)) ∷ parts_of b
condition_parts (null a) = parts_of a ++ word (plain kind.Is) ∷ word (plain kind.Null) ∷ []
condition_parts (not_null a) = parts_of a ++ word (plain kind.Is) ∷ word (plain kind.Not) ∷ word (plain kind.Null) ∷ []
condition_parts (exists r from) = map word (exists_spelling from)
condition_parts (exists_with r from a) =
    exists_front ((map word from ++ word (plain kind.Where) ∷ condition_parts a) ++ word (plain kind.RightParenthesis) ∷ [])
condition_parts (grouped a) = word (plain kind.LeftParenthesis) ∷ (condition_parts a ++ word (plain kind.RightParenthesis) ∷ [])
condition_parts (not a) = word (plain kind.Not) ∷ condition_parts a
condition_parts (and a b) = condition_parts a ++ word (plain kind.And) ∷ condition_parts b
condition_parts (or a b) = condition_parts a ++ word (plain kind.Or) ∷ condition_parts b

-- The tree is formed by the rule of the grammar, each operand by its own, and the words of a FROM are those of its range.
abbrev pub ConditionFormedWithHoles : ConditionRule → ConditionShape → Type 0
ConditionFormedWithHoles r (compared o a b) = FormedWithHoles expression a × FormedWithHoles expression b
ConditionFormedWithHoles r (null a) = FormedWithHoles expression a
ConditionFormedWithHoles r (not_null a) = FormedWithHoles expression a
ConditionFormedWithHoles r (exists range from) = RangeSpelled range from
ConditionFormedWithHoles r (exists_with range from a) = RangeSpelled range from × ConditionFormedWithHoles condition a
ConditionFormedWithHoles r (grouped a) = ConditionFormedWithHoles condition a
ConditionFormedWithHoles r (not a) = TakesNot r × ConditionFormedWithHoles test a
ConditionFormedWithHoles r (and a b) = TakesAnd r × ConditionFormedWithHoles conjunction a × ConditionFormedWithHoles negation b
ConditionFormedWithHoles r (or a b) = TakesOr r × ConditionFormedWithHoles condition a × ConditionFormedWithHoles conjunction b

-- the tree with the values' expressions at its holes, in their order
abbrev pub condition_with : ConditionShape → List Value → Condition
condition_with (compared o a b) vs =
    tree.Compare o (with_values a (take (holes (parts_of a)) vs)) (with_values b (drop (holes (parts_of a)) vs))
condition_with (null a) vs = tree.IsNull (with_values a vs)
condition_with (not_null a) vs = tree.IsNotNull (with_values a vs)
condition_with (exists range from) vs = tree.Exists range
condition_with (exists_with range from a) vs = exists_where range (condition_with a vs)
condition_with (grouped a) vs = enclosed (condition_with a vs)
condition_with (not a) vs = negated (condition_with a vs)
condition_with (and a b) vs =
    both (condition_with a (take (holes (condition_parts a)) vs)) (condition_with b (drop (holes (condition_parts a)) vs))
condition_with (or a b) vs =
    either (condition_with a (take (holes (condition_parts a)) vs)) (condition_with b (drop (holes (condition_parts a)) vs))

-- The words of a filled search condition are a condition of the grammar, and its tree is that of the template with the values'
-- expressions at its holes.
abbrev pub ValuesStandInConditions : Type 0
ValuesStandInConditions =
    (s : ConditionShape) (vs : List Value) → ConditionFormedWithHoles condition s → holes (condition_parts s) ≡ length vs
    → IsCondition (filled (condition_parts s) vs) (condition_with s vs)
