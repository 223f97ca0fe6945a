-- One token more.
use Rattle.std.proofs.Common.{◌≡◌, ℕ, zero, suc, ◌+◌, ◌-◌, ◌*◌, ◌<◌, ◌≤◌, Option, Some, None, option_map, List, [], ◌∷◌, ◌++◌, length, drop, take, refl, sym, ◌∙◌, ap, subst, arith, true, false, nat_le, append_assoc, append-nil, drop-cons, get_or}
use Rattle.std.proofs.lemmas.Grind.{common_steps}
use Rattle.std.proofs.lemmas.Bool.Decides.{nat_tests}
use Rattle.iv_lex.specs.declared.kind.TokenKind.{TokenKind}
use Rattle.iv_lex.specs.declared.token.Token.{Token}
use Rattle.iv_lex.specs.declared.lexer.Lexed.{Lexed}
use Rattle.iv_syntax.specs.declared.limits.TheConstants.{GREATEST_INTEGER}
use Rattle.iv_lex.specs.Tokens.{tokens_from, after_gap, with_token, no_tokens, gap, token_at, tokens_of, value_from, number_kind}

yes_le : (a b : ℕ) → a ≤ b → nat_le a b ≡ true
yes_le a b h = grind (arith, nat_tests)

pub from_zero : (n at : ℕ) (bs : List ℕ) → n ≡ 0 → tokens_from n at bs ≡ no_tokens None
unfolding tokens_from
from_zero zero at bs h = refl
from_zero (suc n) at bs h = absurd (omega (arith, h))

from_step : (n at : ℕ) (bs : List ℕ) → 0 < n → tokens_from n at bs ≡ after_gap (gap false bs) at bs (tokens_from (n - 1))
unfolding tokens_from
from_step zero at bs h = absurd (omega (arith, h))
from_step (suc n) at bs h = let e : suc n - 1 ≡ n = omega arith in ap (λ m. after_gap (gap false bs) at bs (tokens_from m)) (sym e)

-- only white space and comments are left
pub no_more : (n at : ℕ) (bs : List ℕ) → length bs ≤ gap false bs → tokens_from n at bs ≡ no_tokens None
no_more zero at bs h = from_zero zero at bs refl
no_more (suc n) at bs h =
    let f : nat_le (length bs) (gap false bs) ≡ true = yes_le _ _ h in
    from_step (suc n) at bs (omega arith) ∙ rw f

-- there is no token here
pub no_token : (n at : ℕ) (bs : List ℕ) → 0 < n → gap false bs < length bs → token_at (drop (gap false bs) bs) ≡ None
    → tokens_from n at bs ≡ no_tokens (Some (at + gap false bs))
no_token n at bs h s t =
    let f : nat_le (length bs) (gap false bs) ≡ false = grind (arith, nat_tests) in
    from_step n at bs h ∙ rw (f, t)

token : TokenKind → ℕ → ℕ → Token
token k start end = record { kind = k; start = start; end = end }

-- there is a token here
pub one_token : (n at : ℕ) (bs : List ℕ) (k : TokenKind) (len : ℕ) → 0 < n → gap false bs < length bs → token_at (drop (gap false bs) bs) ≡ Some (k, len)
    → tokens_from n at bs ≡ with_token (record { kind = k; start = at + gap false bs; end = at + gap false bs + len }) (tokens_from (n - 1) (at + gap false bs + len) (drop (gap false bs + len) bs))
one_token n at bs k len h s t =
    let f : nat_le (length bs) (gap false bs) ≡ false = grind (arith, nat_tests) in
    from_step n at bs h ∙ rw (f, t)

-- these tokens are the first of the text, and the bytes from this place on have the others
pub record Reached (tokens : List Token) (n at : ℕ) (text : List ℕ) : Type 0 where
  pub tokens_then : tokens ++ (tokens_from n at (drop at text)).tokens ≡ (tokens_of text).tokens
  pub fault_then : (tokens_from n at (drop at text)).fault ≡ (tokens_of text).fault

pub reached_start : (text : List ℕ) → Reached [] (length text) 0 text
reached_start text = record { tokens_then = refl; fault_then = refl }

made : (l m : Lexed) → l.tokens ≡ m.tokens → l.fault ≡ m.fault → l ≡ m
made l m t f = ap (λ ts. record { tokens = ts; fault = l.fault }) t ∙ ap (λ g. record { tokens = m.tokens; fault = g }) f

ends : (ts : List Token) (n at : ℕ) (text : List ℕ) (f : Option ℕ) → Reached ts n at text → tokens_from n at (drop at text) ≡ no_tokens f → record { tokens = ts; fault = f } ≡ tokens_of text
ends ts n at text f r e =
    made (record { tokens = ts; fault = f }) (tokens_of text) (sym (append-nil ts) ∙ ap (λ s. ts ++ s.tokens) (sym e) ∙ r.tokens_then) (ap (λ s. s.fault) (sym e) ∙ r.fault_then)

pub ends_zero : (ts : List Token) (n at : ℕ) (text : List ℕ) → Reached ts n at text → n ≡ 0 → record { tokens = ts; fault = None } ≡ tokens_of text
ends_zero ts n at text r z = ends ts n at text None r (from_zero n at (drop at text) z)

pub ends_gap : (ts : List Token) (n at s : ℕ) (text : List ℕ) → Reached ts n at text → s ≡ gap false (drop at text) → length (drop at text) ≤ s → record { tokens = ts; fault = None } ≡ tokens_of text
ends_gap ts n at s text r e h = ends ts n at text None r (no_more n at (drop at text) (subst (λ k. length (drop at text) ≤ k) e h))

pub ends_fault : (ts : List Token) (n at s : ℕ) (text : List ℕ) → Reached ts n at text → 0 < n → s ≡ gap false (drop at text) → s < length (drop at text)
    → token_at (drop s (drop at text)) ≡ None → record { tokens = ts; fault = Some (at + s) } ≡ tokens_of text
ends_fault ts n at s text r p e h t =
    ends ts n at text (Some (at + s)) r
    (no_token n at (drop at text) p (subst (λ k. k < length (drop at text)) e h) (subst (λ k. token_at (drop k (drop at text)) ≡ None) e t)
    ∙ ap (λ k. no_tokens (Some (at + k))) (sym e))

pub reached_more : (ts : List Token) (n at s : ℕ) (text : List ℕ) (k : TokenKind) (len : ℕ) → Reached ts n at text → 0 < n → s ≡ gap false (drop at text) → s < length (drop at text)
    → token_at (drop s (drop at text)) ≡ Some (k, len) → Reached (ts ++ (record { kind = k; start = at + s; end = at + s + len }) ∷ []) (n - 1) (at + s + len) text
reached_more ts n at s text k len r p e h t =
    let one : tokens_from n at (drop at text) ≡ with_token (record { kind = k; start = at + s; end = at + s + len }) (tokens_from (n - 1) (at + s + len) (drop (s + len) (drop at text))) =
    one_token n at (drop at text) k len p (subst (λ k. k < length (drop at text)) e h) (subst (λ j. token_at (drop j (drop at text)) ≡ Some (k, len)) e t)
    ∙ ap (λ j. with_token (record { kind = k; start = at + j; end = at + j + len }) (tokens_from (n - 1) (at + j + len) (drop (j + len) (drop at text)))) (sym e) in
    let from : drop (s + len) (drop at text) ≡ drop (at + s + len) text = grind (arith, common_steps) in
    let all : tokens_from n at (drop at text) ≡ with_token (record { kind = k; start = at + s; end = at + s + len }) (tokens_from (n - 1) (at + s + len) (drop (at + s + len) text)) =
    one ∙ ap (λ b. with_token (record { kind = k; start = at + s; end = at + s + len }) (tokens_from (n - 1) (at + s + len) b)) from in
    record {
      tokens_then = append_assoc ts ((record { kind = k; start = at + s; end = at + s + len }) ∷ []) _ ∙ ap (λ z. ts ++ z.tokens) (sym all) ∙ r.tokens_then;
      fault_then = ap (λ z. z.fault) (sym all) ∙ r.fault_then;
    }

-- what `&xs[n..]` reads
pub whole_drop : (n : ℕ) (xs : List ℕ) → take (length xs - n) (drop n xs) ≡ drop n xs
whole_drop n xs = grind (arith, common_steps)

-- digits write no less than the digits before them
pub value_grows : (n : ℕ) (ds : List ℕ) → n ≤ value_from n ds
value_grows n [] = omega arith
value_grows n (d ∷ ds) = omega (arith, value_grows (n * 10 + (d - 48)) ds)

pub no_number : (ds : List ℕ) (n : ℕ) (rest : List ℕ) → value_from n rest ≡ value_from 0 ds → GREATEST_INTEGER < n → number_kind ds ≡ None
no_number ds n rest e h =
    let f : nat_le (value_from 0 ds) (GREATEST_INTEGER) ≡ false = grind (arith, nat_tests, value_grows n rest) in
    rw f

pub map_twice : (a b : ℕ) (o : Option ℕ) → option_map (λ n. a + n) (option_map (λ n. b + n) o) ≡ option_map (λ n. a + b + n) o
map_twice a b None = refl
map_twice a b (Some n) = ap (λ m. Some m) (omega arith)

-- one digit more makes the number too large
pub too_large : (ds : List ℕ) (n i : ℕ) → value_from n (drop i ds) ≡ value_from 0 ds → i < length ds → GREATEST_INTEGER < n * 10 + (get_or ds i 0 - 48) → number_kind ds ≡ None
too_large ds n i e l h =
    let e2 : value_from (n * 10 + (get_or ds i 0 - 48)) (drop (suc i) ds) ≡ value_from 0 ds = ap (value_from n) (sym (drop-cons ds i 0 l)) ∙ e in
    no_number ds (n * 10 + (get_or ds i 0 - 48)) (drop (suc i) ds) e2 h
