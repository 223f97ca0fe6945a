-- A filled search condition is that of the template with the values' expressions at its holes.
use Rattle.std.proofs.Common.{◌≡◌, List, [], ◌∷◌, ◌++◌, length, take, drop, refl, sym, ◌∙◌, ap, arith, append-nil, length-drop}
use Rattle.std.specs.Prelude.{map}
use Rattle.iv_value.specs.declared.value.Value.{Value}
use Rattle.iv_lex.specs.declared.kind.TokenKind.TheVariants as kind
use Rattle.iv_lex.specs.Words.{Word, plain}
use Rattle.iv_parse_terms.specs.Expressions.{expression, spelling}
use Rattle.iv_parse_terms.specs.Conditions.{ConditionFormed, ConditionRule, Spelled, comparison_kind, condition, conjunction, exists_spelling, negation, test}
use Rattle.iv_template.specs.Templates.{Part, word, filled, holes}
use Rattle.iv_template.specs.Shapes.{parts_of, with_values}
use Rattle.iv_template.specs.ConditionShapes.{ConditionShape, compared, null, not_null, exists, exists_with, grouped, not, and, or, ConditionFormedWithHoles, ValuesStandInConditions, condition_parts, condition_with}
use Rattle.iv_template.proofs.ByHoles.{filled_after, filled_append, holes_after, holes_append}
use Rattle.iv_template.proofs.ShapeProofs.{both_filled, formed, in_group, own_filled, spelled, take_length}

-- the tree
condition_formed : (s : ConditionShape) (r : ConditionRule) (vs : List Value) → ConditionFormedWithHoles r s → ConditionFormed r (condition_with s vs)
condition_formed (compared o a b) r vs (h, i) = (formed a expression (take (holes (parts_of a)) vs) h, formed b expression (drop (holes (parts_of a)) vs) i)
condition_formed (null a) r vs h = formed a expression vs h
condition_formed (not_null a) r vs h = formed a expression vs h
condition_formed (exists range from) r vs h = tt {0}
condition_formed (exists_with range from a) r vs (h, i) = condition_formed a condition vs i
condition_formed (grouped a) r vs h = condition_formed a condition vs h
condition_formed (not a) r vs (k, h) = (k, condition_formed a test vs h)
condition_formed (and a b) r vs (k, h, i) =
    (k, condition_formed a conjunction (take (holes (condition_parts a)) vs) h, condition_formed b negation (drop (holes (condition_parts a)) vs) i)
condition_formed (or a b) r vs (k, h, i) =
    (k, condition_formed a condition (take (holes (condition_parts a)) vs) h, condition_formed b conjunction (drop (holes (condition_parts a)) vs) i)

-- words behind the last hole
behind : (ps : List Part) (ws : List Word) (vs : List Value) (xs : List Word) → holes (ps ++ map word ws) ≡ length vs
    → (holes ps ≡ length vs → filled ps vs ≡ xs) → filled (ps ++ map word ws) vs ≡ xs ++ ws
behind ps ws vs xs h f =
    let none : holes (map word ws) ≡ 0 = no_holes ws in
    let n : holes ps ≡ length vs = omega (arith, holes_append ps (map word ws), none, h) in
    ap (filled (ps ++ map word ws)) (sym (append-nil vs))
    ∙ filled_append ps (map word ws) vs [] n
    ∙ ap (λ z. z ++ filled (map word ws) []) (f n)
    ∙ ap (λ z. xs ++ z) (own_filled ws []) where
      no_holes : (ws : List Word) → holes (map word ws) ≡ 0
      no_holes [] = refl
      no_holes (w ∷ ws) = no_holes ws

-- so many holes are those of the first part
first_holes : (ps qs : List Part) (w : Word) (vs : List Value) → holes (ps ++ word w ∷ qs) ≡ length vs → holes ps ≡ length (take (holes ps) vs)
first_holes ps qs w vs h = sym (take_length (holes ps) vs (omega (arith, holes_append ps (word w ∷ qs), h)))

-- and so many those of the second
later_holes : (ps qs : List Part) (w : Word) (vs : List Value) → holes (ps ++ word w ∷ qs) ≡ length vs → holes qs ≡ length (drop (holes ps) vs)
later_holes ps qs w vs h = omega (arith, holes_append ps (word w ∷ qs), h, length-drop (holes ps) vs)

-- two parts and the word between them
between_filled : (ps qs : List Part) (w : Word) (vs : List Value) → holes (ps ++ word w ∷ qs) ≡ length vs
    → filled (ps ++ word w ∷ qs) vs ≡ filled ps (take (holes ps) vs) ++ w ∷ filled qs (drop (holes ps) vs)
between_filled ps qs w vs h = both_filled ps qs w vs (filled ps (take (holes ps) vs)) (filled qs (drop (holes ps) vs)) h (λ n. refl) (λ n. refl)

-- a closing parenthesis counts as no hole
enclosed_holes : (ps : List Part) (vs : List Value) → holes (ps ++ word (plain kind.RightParenthesis) ∷ []) ≡ length vs → holes ps ≡ length vs
enclosed_holes ps vs h = omega (arith, holes_append ps (word (plain kind.RightParenthesis) ∷ []), h)

-- the words
condition_spelled : (s : ConditionShape) (r : ConditionRule) (vs : List Value) → ConditionFormedWithHoles r s → holes (condition_parts s) ≡ length vs
    → Spelled (condition_with s vs) (filled (condition_parts s) vs)
condition_spelled (compared o a b) r vs f h =
    both_filled (parts_of a) (parts_of b) (plain (comparison_kind o)) vs (spelling (with_values a (take (holes (parts_of a)) vs))) (spelling (with_values b (drop (holes (parts_of a)) vs))) h
    (spelled a (take (holes (parts_of a)) vs)) (spelled b (drop (holes (parts_of a)) vs))
condition_spelled (null a) r vs f h = behind (parts_of a) (plain kind.Is ∷ plain kind.Null ∷ []) vs (spelling (with_values a vs)) h (spelled a vs)
condition_spelled (not_null a) r vs f h = behind (parts_of a) (plain kind.Is ∷ plain kind.Not ∷ plain kind.Null ∷ []) vs (spelling (with_values a vs)) h (spelled a vs)
condition_spelled (exists range from) r vs f h = (from, f, own_filled (exists_spelling from) vs)
condition_spelled (exists_with range from a) r vs (f, i) h =
    let ps = map word from ++ word (plain kind.Where) ∷ condition_parts a in
    let n : holes ps ≡ length vs = enclosed_holes ps vs h in
    let m : holes (condition_parts a) ≡ length vs = sym (holes_after from (word (plain kind.Where) ∷ condition_parts a)) ∙ n in (
      from,
      filled (condition_parts a) vs,
      f,
      condition_spelled a condition vs i m,
      ap (λ z. plain kind.Exists ∷ plain kind.LeftParenthesis ∷ plain kind.Select ∷ plain kind.Asterisk ∷ z)
          (in_group ps vs (from ++ plain kind.Where ∷ filled (condition_parts a) vs) h (λ k. filled_after from (word (plain kind.Where) ∷ condition_parts a) vs)),
    )
condition_spelled (grouped a) r vs f h = (
  filled (condition_parts a) vs,
  condition_spelled a condition vs f (enclosed_holes (condition_parts a) vs h),
  ap (λ z. plain kind.LeftParenthesis ∷ z) (in_group (condition_parts a) vs (filled (condition_parts a) vs) h (λ k. refl)),
)
condition_spelled (not a) r vs (k, f) h = (filled (condition_parts a) vs, condition_spelled a test vs f h, refl)
condition_spelled (and a b) r vs (k, f, i) h =
    let n = holes (condition_parts a) in (
      filled (condition_parts a) (take n vs),
      filled (condition_parts b) (drop n vs),
      condition_spelled a conjunction (take n vs) f (first_holes (condition_parts a) (condition_parts b) (plain kind.And) vs h),
      condition_spelled b negation (drop n vs) i (later_holes (condition_parts a) (condition_parts b) (plain kind.And) vs h),
      between_filled (condition_parts a) (condition_parts b) (plain kind.And) vs h,
    )
condition_spelled (or a b) r vs (k, f, i) h =
    let n = holes (condition_parts a) in (
      filled (condition_parts a) (take n vs),
      filled (condition_parts b) (drop n vs),
      condition_spelled a condition (take n vs) f (first_holes (condition_parts a) (condition_parts b) (plain kind.Or) vs h),
      condition_spelled b conjunction (drop n vs) i (later_holes (condition_parts a) (condition_parts b) (plain kind.Or) vs h),
      between_filled (condition_parts a) (condition_parts b) (plain kind.Or) vs h,
    )

pub values_stand_in_conditions : ValuesStandInConditions
values_stand_in_conditions s vs f h = record { formed = condition_formed s condition vs f; spelled = condition_spelled s condition vs f h }
