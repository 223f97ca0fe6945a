-- The words of a text are those that its characters lex to.
use Rattle.std.proofs.Common.{◌≡◌, ℕ, zero, suc, ◌+◌, ◌-◌, ◌≤◌, ◌<◌, Bool, true, false, Option, Some, None, option_map, List, [], ◌∷◌, ◌++◌, length, drop, take, refl, sym, ◌∙◌, ap, subst, arith, nat_le, length-drop, length-append}
use Rattle.std.specs.Prelude.{if◌then◌else◌, All, IsUtf8}
use Rattle.std.proofs.lemmas.Bool.{leb-true, leb-false}
use Rattle.std.proofs.lemmas.Grind.{common_steps}
use Rattle.iv_lex.specs.declared.kind.TokenKind.{TokenKind}
use Rattle.iv_lex.specs.declared.kind.TokenKind.TheVariants as kind
use Rattle.iv_lex.specs.declared.token.Token.{Token}
use Rattle.iv_lex.specs.declared.lexer.Lexed.{Lexed}
use Rattle.iv_lex.specs.Tokens.{gap, token_at, tokens_from, tokens_of, Front, no_tokens, token_then}
use Rattle.iv_lex.specs.Words.{Word, quoted, upper_case, single_quotes, slice, characters, with_characters, word_by, word_of, words}
use Rattle.iv_lex.specs.IsTokens.{IsTokensFrom, HasCharacters}
use Rattle.iv_lex.proofs.Sequence.{dropped, tokens_found}
use Rattle.iv_lex.proofs.Characters.{tokens_have_characters}
use Rattle.iv_template.specs.Templates.{words_of, fault_of}
use Rattle.iv_template.proofs.Lexing.{inner, word_from, past_gap, Lexes, ended, stopped, more, token_some, same_words}

by_kind : (k : TokenKind) (a o p : Option (List ℕ)) → (k ≡ kind.Quoted → o ≡ p) → word_by k a o ≡ word_by k a p
by_kind kind.Quoted a o p h = ap (with_characters kind.Quoted quoted) (h refl)
by_kind _ a o p h = refl

pub inner_is : (inside : List ℕ) → inner (39 ∷ (inside ++ 39 ∷ [])) ≡ inside
inner_is inside =
    let n : length (39 ∷ (inside ++ 39 ∷ [])) - 2 ≡ length inside = omega (arith, length-append inside (39 ∷ [])) in
    ap (λ k. take k (inside ++ 39 ∷ [])) n ∙ grind (arith, common_steps)

-- the word of a token is told by its characters
word_is : (text : List ℕ) (t : Token) → HasCharacters text t → word_of text t ≡ word_from t.kind (slice text t.start t.end)
word_is text t h =
    let s : List ℕ = slice text t.start t.end in
    ap (λ o. word_by t.kind (option_map upper_case o) (option_map single_quotes (characters text (t.start + 1) (t.end - 1)))) h.whole
    ∙ by_kind t.kind (Some (upper_case s)) (option_map single_quotes (characters text (t.start + 1) (t.end - 1))) (Some (single_quotes (inner s)))
    (λ k. let (inside, e, f) = h.inside k in
    ap (option_map single_quotes) f ∙ ap (λ z. Some (single_quotes z)) (sym (inner_is inside) ∙ ap inner (sym e)))

-- what is left from a fault on
abbrev pub left_from : List ℕ → Option ℕ → Option (List ℕ)
left_from text fault = option_map (λ place. drop place text) fault

abbrev LexesTo : List ℕ → List ℕ → Lexed → Type 0
LexesTo text bs l = Lexes bs (words text l.tokens) (left_from text l.fault)

-- the token at a place
abbrev token : TokenKind × ℕ → ℕ → Token
token p at = record { kind = p.0; start = at; end = at + p.1 }

slice_is : (text bs : List ℕ) (at g n : ℕ) → bs ≡ drop at text → slice text (at + g) (at + g + n) ≡ take n (drop g bs)
slice_is text bs at g n e =
    let d : at + g + n - (at + g) ≡ n = omega arith in
    ap (λ k. take k (drop (at + g) text)) d ∙ ap (take n) (sym (dropped at g text)) ∙ ap (λ z. take n (drop g z)) (sym e)

from_token : (text bs : List ℕ) (at : ℕ) (o : Front) (next : ℕ → Lexed) → bs ≡ drop at text → gap false bs < length bs → token_at (past_gap bs) ≡ o
    → All (HasCharacters text) (token_then (at + gap false bs) o next).tokens
    → ((p : TokenKind × ℕ) → o ≡ Some p → All (HasCharacters text) (next p.1).tokens → LexesTo text (drop (gap false bs + p.1) bs) (next p.1))
    → LexesTo text bs (token_then (at + gap false bs) o next)
from_token text bs at None next e l t h f =
    let d : drop (at + gap false bs) text ≡ past_gap bs = sym (dropped at (gap false bs) text) ∙ ap (drop (gap false bs)) (sym e) in
    stopped bs [] (Some (drop (at + gap false bs) text)) refl (ap Some d) l t
from_token text bs at (Some p) next e l t h f =
    let g : ℕ = gap false bs in
    let here : HasCharacters text (token p (at + g)) = h 0 (token p (at + g)) (omega arith) in
    more bs _ _ p (words text (next p.1).tokens)
    (ap (λ w. w ∷ words text (next p.1).tokens) (word_is text (token p (at + g)) here ∙ ap (word_from p.0) (slice_is text bs at g p.1 e)))
    l t (f p refl (λ k d m. h (suc k) d (omega (arith, m))))

from_by : (n at : ℕ) (text bs : List ℕ) (x : Bool) → bs ≡ drop at text → nat_le (length bs) (gap false bs) ≡ x
    → ((p : TokenKind × ℕ) → token_at (past_gap bs) ≡ Some p → gap false bs < length bs → All (HasCharacters text) (tokens_from n (at + gap false bs + p.1) (drop (gap false bs + p.1) bs)).tokens
    → LexesTo text (drop (gap false bs + p.1) bs) (tokens_from n (at + gap false bs + p.1) (drop (gap false bs + p.1) bs)))
    → All (HasCharacters text) (if x then no_tokens None else token_then (at + gap false bs) (token_at (past_gap bs)) (λ m. tokens_from n (at + gap false bs + m) (drop (gap false bs + m) bs))).tokens
    → LexesTo text bs (if x then no_tokens None else token_then (at + gap false bs) (token_at (past_gap bs)) (λ m. tokens_from n (at + gap false bs + m) (drop (gap false bs + m) bs)))
from_by n at text bs true e l f h = ended bs [] None refl refl (leb-true _ _ l)
from_by n at text bs false e l f h =
    let m : gap false bs < length bs = leb-false _ _ l in
    from_token text bs at (token_at (past_gap bs)) (λ k. tokens_from n (at + gap false bs + k) (drop (gap false bs + k) bs)) e m refl h
    (λ p o a. f p o m a)

lexes_from : (n at : ℕ) (text bs : List ℕ) → bs ≡ drop at text → length bs ≤ n → All (HasCharacters text) (tokens_from n at bs).tokens → LexesTo text bs (tokens_from n at bs)
unfolding tokens_from
lexes_from zero at text bs e l h = ended bs [] None refl refl (omega (arith, l))
lexes_from (suc n) at text bs e l h =
    from_by n at text bs (nat_le (length bs) (gap false bs)) e refl
    (λ p t m a. let g : ℕ = gap false bs in
    let s : at + g + p.1 ≡ at + (g + p.1) = omega arith in
    let d : drop (g + p.1) bs ≡ drop (at + g + p.1) text = ap (drop (g + p.1)) e ∙ dropped at (g + p.1) text ∙ ap (λ k. drop k text) (sym s) in
    lexes_from n (at + g + p.1) text (drop (g + p.1) bs) d (omega (arith, l, m, length-drop (g + p.1) bs, token_some (past_gap bs) p t)) a)
    h

-- the words of a text, and what is left from its fault on
pub text_lexes : (text : List ℕ) → IsUtf8 text → Lexes text (words_of text) (left_from text (fault_of text))
text_lexes text u = lexes_from (length text) 0 text text refl (omega arith) (tokens_have_characters text u)

none_left : (text : List ℕ) (o : Option ℕ) → left_from text o ≡ None → o ≡ None
none_left text None e = refl
none_left text (Some n) e = absurd (cc)

-- a text that lexes to its end has these words and no fault
pub whole_text : (text : List ℕ) (ws : List Word) → IsUtf8 text → Lexes text ws None → (words_of text ≡ ws) × (fault_of text ≡ None)
whole_text text ws u h =
    let s = same_words text (words_of text) ws (left_from text (fault_of text)) None (text_lexes text u) h in
    (s.0, none_left text (fault_of text) s.1)

within_by : (text : List ℕ) (place f : ℕ) (ts : List Token) → IsTokensFrom text place ts (Some f) → f < length text
within_by text place f [] (g, l, b) = l
within_by text place f (t ∷ ts) (g, k, r) = within_by text t.end f ts r

-- a fault is in the text
pub fault_within : (text : List ℕ) (f : ℕ) → fault_of text ≡ Some f → f < length text
fault_within text f e = within_by text 0 f (tokens_of text).tokens (subst (λ o. IsTokensFrom text 0 (tokens_of text).tokens o) e (tokens_found text))
