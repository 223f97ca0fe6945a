-- A filled value expression is that of the template with the values' expressions at its holes.
use Rattle.std.proofs.Common.{◌≡◌, ℕ, suc, ◌+◌, ◌≤◌, Bool, true, false, List, [], ◌∷◌, ◌++◌, length, take, drop, sym, ◌∙◌, ap, arith, append-nil, length-drop}
use Rattle.std.specs.Prelude.{map, pos, negsuc, nat_lt, if◌then◌else◌}
use Rattle.std.proofs.lemmas.List.{take-append-drop}
use Rattle.std.proofs.lemmas.Grind.{common_steps}
use Rattle.iv_value.specs.declared.value.Value.{Value}
use Rattle.iv_value.specs.declared.value.Value.TheVariants as value
use Rattle.iv_lex.specs.declared.kind.TokenKind.TheVariants as kind
use Rattle.iv_lex.specs.Words.{Word, plain}
use Rattle.iv_syntax.specs.declared.limits.TheConstants.{GREATEST_INTEGER}
use Rattle.iv_syntax.specs.declared.tree.Expression.TheVariants as tree
use Rattle.iv_syntax.specs.declared.tree.Sign.TheVariants as sign
use Rattle.iv_syntax.specs.Trees.{group, signed, sum}
use Rattle.iv_parse_terms.specs.Expressions.{Rule, expression, term, factor, primary, Formed, sign_kind, spelling}
use Rattle.iv_template.specs.Templates.{Part, word, hole, literal, filled, holes}
use Rattle.iv_template.specs.Grammar.{expression_of}
use Rattle.iv_template.specs.Shapes.{Shape, blank, given, grouped, with_sign, times, plus, parts_of, FormedWithHoles, with_values, ValuesStandAtHoles}
use Rattle.iv_template.proofs.ByHoles.{filled_append, filled_after, holes_append, no_more}
use Rattle.iv_template.proofs.GrammarProofs.{literals_are_primaries}

negative_formed : (r : Rule) (n : ℕ) (x : Bool)
    → Formed r (if x then group (signed sign.Minus (tree.Number (suc n))) else group (sum sign.Minus (signed sign.Minus (tree.Number GREATEST_INTEGER)) (tree.Number 1)))
negative_formed r n true = (tt {0}, tt {0})
negative_formed r n false = (tt {0}, (tt {0}, tt {0}), tt {0})

value_formed : (r : Rule) (v : Value) → Formed r (expression_of v)
value_formed r value.Null = tt {0}
value_formed r (value.Int (pos n)) = tt {0}
value_formed r (value.Int (negsuc n)) = negative_formed r n (nat_lt n GREATEST_INTEGER)
value_formed r (value.Text t) = tt {0}

-- the tree
pub formed : (s : Shape) (r : Rule) (vs : List Value) → FormedWithHoles r s → Formed r (with_values s vs)
formed blank r [] h = tt {0}
formed blank r (v ∷ vs) h = value_formed r v
formed (given e) r vs h = h
formed (grouped a) r vs h = formed a expression vs h
formed (with_sign s a) r vs (k, h) = (k, formed a primary vs h)
formed (times a b) r vs (k, h, i) = (k, formed a term (take (holes (parts_of a)) vs) h, formed b factor (drop (holes (parts_of a)) vs) i)
formed (plus s a b) r vs (k, h, i) = (k, formed a expression (take (holes (parts_of a)) vs) h, formed b term (drop (holes (parts_of a)) vs) i)

pub own_filled : (ws : List Word) (vs : List Value) → filled (map word ws) vs ≡ ws
own_filled ws vs = ap (λ z. filled z vs) (sym (no_more ws)) ∙ filled_after ws [] vs ∙ append-nil ws

pub take_length : (n : ℕ) (vs : List Value) → n ≤ length vs → length (take n vs) ≡ n
take_length n vs h = grind (arith, common_steps)

-- two operands and the word between them
pub both_filled : (ps qs : List Part) (w : Word) (vs : List Value) (xs ys : List Word) → holes (ps ++ word w ∷ qs) ≡ length vs
    → (holes ps ≡ length (take (holes ps) vs) → filled ps (take (holes ps) vs) ≡ xs) → (holes qs ≡ length (drop (holes ps) vs) → filled qs (drop (holes ps) vs) ≡ ys)
    → filled (ps ++ word w ∷ qs) vs ≡ xs ++ w ∷ ys
both_filled ps qs w vs xs ys h f g =
    let n : holes ps + holes qs ≡ length vs = sym (holes_append ps (word w ∷ qs)) ∙ h in
    let i : holes ps ≡ length (take (holes ps) vs) = sym (take_length (holes ps) vs (omega (arith, n))) in
    let j : holes qs ≡ length (drop (holes ps) vs) = omega (arith, n, length-drop (holes ps) vs) in
    ap (filled (ps ++ word w ∷ qs)) (sym (take-append-drop (holes ps) vs))
    ∙ filled_append ps (word w ∷ qs) (take (holes ps) vs) (drop (holes ps) vs) i
    ∙ ap (λ z. z ++ w ∷ filled qs (drop (holes ps) vs)) (f i)
    ∙ ap (λ z. xs ++ w ∷ z) (g j)

one_hole : (vs : List Value) → 1 ≡ length vs → filled (hole ∷ []) vs ≡ spelling (with_values blank vs)
one_hole [] h = absurd (omega (arith, h))
one_hole (v ∷ []) h = append-nil (literal v) ∙ (literals_are_primaries v).1
one_hole (v ∷ u ∷ vs) h = absurd (omega (arith, h))

pub in_group : (ps : List Part) (vs : List Value) (ws : List Word) → holes (ps ++ word (plain kind.RightParenthesis) ∷ []) ≡ length vs → (holes ps ≡ length vs → filled ps vs ≡ ws)
    → filled (ps ++ word (plain kind.RightParenthesis) ∷ []) vs ≡ ws ++ plain kind.RightParenthesis ∷ []
in_group ps vs ws h f =
    let n : holes ps ≡ length vs = omega (arith, holes_append ps (word (plain kind.RightParenthesis) ∷ []), h) in
    ap (filled (ps ++ word (plain kind.RightParenthesis) ∷ [])) (sym (append-nil vs))
    ∙ filled_append ps (word (plain kind.RightParenthesis) ∷ []) vs [] n
    ∙ ap (λ z. z ++ plain kind.RightParenthesis ∷ []) (f n)

-- the words
pub spelled : (s : Shape) (vs : List Value) → holes (parts_of s) ≡ length vs → filled (parts_of s) vs ≡ spelling (with_values s vs)
spelled blank vs h = one_hole vs h
spelled (given e) vs h = own_filled (spelling e) vs
spelled (grouped a) vs h = ap (λ z. plain kind.LeftParenthesis ∷ z) (in_group (parts_of a) vs (spelling (with_values a vs)) h (spelled a vs))
spelled (with_sign s a) vs h = ap (λ z. plain (sign_kind s) ∷ z) (spelled a vs h)
spelled (times a b) vs h =
    both_filled (parts_of a) (parts_of b) (plain kind.Asterisk) vs (spelling (with_values a (take (holes (parts_of a)) vs))) (spelling (with_values b (drop (holes (parts_of a)) vs))) h
    (spelled a (take (holes (parts_of a)) vs)) (spelled b (drop (holes (parts_of a)) vs))
spelled (plus s a b) vs h =
    both_filled (parts_of a) (parts_of b) (plain (sign_kind s)) vs (spelling (with_values a (take (holes (parts_of a)) vs))) (spelling (with_values b (drop (holes (parts_of a)) vs))) h
    (spelled a (take (holes (parts_of a)) vs)) (spelled b (drop (holes (parts_of a)) vs))

pub values_stand_at_holes : ValuesStandAtHoles
values_stand_at_holes s vs h n = record { formed = formed s expression vs h; spelled = spelled s vs n }
