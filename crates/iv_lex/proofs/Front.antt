-- What is found at the front of bytes is within them, and a token of one kind.
use Rattle.std.proofs.Common.{◌≡◌, ℕ, suc, ◌+◌, ◌≤◌, Bool, true, false, Option, Some, None, List, [], ◌∷◌, length, refl, sym, ◌∙◌, ap, subst, arith, nat_eq, length-append}
use Rattle.std.specs.Prelude.{slice_index, if◌then◌else◌}
use Rattle.iv_lex.specs.declared.kind.TokenKind.{TokenKind}
use Rattle.iv_lex.specs.declared.kind.TokenKind.TheVariants as kind
use Rattle.iv_lex.specs.Reserved.{word_kind}
use Rattle.iv_lex.specs.Tokens.{is_letter, is_digit, is_word_byte, front_length, value_from, single_symbol, double_symbol, closing, symbol_by, quoted_by, with_length, word_at, number_at, symbol_at, token_at}
use Rattle.iv_lex.specs.Longest.{IsSymbol, one, two, IsToken}
use Rattle.iv_lex.specs.Longest.IsToken.{a_word, a_number, a_text, a_symbol}
use Rattle.iv_lex.proofs.Longest.{no_digit, no_quote, digit_no_quote, letter_no_single, digit_no_single, letter_no_double, digit_no_double, head, is_quote, front_is, front_within, pair_same, ends, no_second, IsOther, symbol_token, not_empty}

-- what is found at the front is within it
front_length_within : (p : ℕ → Bool) (bs : List ℕ) → front_length p bs ≤ length bs
front_length_within p bs = subst (λ n. n ≤ length bs) (sym (front_is p bs)) (front_within p bs)

sized_is : (n : ℕ) (o : Option TokenKind) (p : TokenKind × ℕ) → with_length n o ≡ Some p → p.1 ≡ n
sized_is n None p h = absurd (cc)
sized_is n (Some k) p h = sym (ap (λ (q : TokenKind × ℕ). q.1) (pair_same (k, n) p h))

quoted_within : (bs : List ℕ) (p : TokenKind × ℕ) (o : Option ℕ) → closing bs ≡ o → quoted_by o ≡ Some p → p.1 ≤ suc (length bs)
quoted_within bs p None e h = absurd (cc)
quoted_within bs p (Some n) e h =
    let r = ends bs n e in
    omega (arith, ap (λ (q : TokenKind × ℕ). q.1) (pair_same (kind.Quoted, n + 1) p h), r.count, ap length r.whole, length-append r.inside (39 ∷ r.more))

two_within : (b : ℕ) (bs : List ℕ) (k : TokenKind) → double_symbol b (slice_index bs 0) ≡ Some k → 2 ≤ suc (length bs)
two_within b [] k h = absurd (let e = no_second b in cc)
two_within b (c ∷ bs) k h = omega arith

symbol_within : (b : ℕ) (bs : List ℕ) (p : TokenKind × ℕ) (x y : Option TokenKind) → double_symbol b (slice_index bs 0) ≡ x → symbol_by x y ≡ Some p → p.1 ≤ suc (length bs)
symbol_within b bs p (Some k) y h e = omega (arith, ap (λ (q : TokenKind × ℕ). q.1) (pair_same (k, 2) p e), two_within b bs k h)
symbol_within b bs p None y h e = omega (arith, sized_is 1 y p e)

within_by : (b : ℕ) (bs : List ℕ) (p : TokenKind × ℕ) (x y z : Bool)
    → (if x then word_at (b ∷ bs) (front_length is_word_byte (b ∷ bs)) else (if y then number_at (b ∷ bs) (front_length is_digit (b ∷ bs)) else (if z then quoted_by (closing bs) else symbol_at (b ∷ bs)))) ≡ Some p
    → p.1 ≤ suc (length bs)
within_by b bs p true y z h = omega (arith, sized_is _ _ p h, front_length_within is_word_byte (b ∷ bs))
within_by b bs p false true z h = omega (arith, sized_is _ _ p h, front_length_within is_digit (b ∷ bs))
within_by b bs p false false true h = quoted_within bs p (closing bs) refl h
within_by b bs p false false false h = symbol_within b bs p (double_symbol b (slice_index bs 0)) (single_symbol b) refl h

pub token_within : (bs : List ℕ) (p : TokenKind × ℕ) → token_at bs ≡ Some p → p.1 ≤ length bs
token_within [] p h = absurd (cc)
token_within (b ∷ bs) p h = within_by b bs p (is_letter b) (is_digit b) (nat_eq b 39) h

-- a letter begins a word
letter_kind : (b : ℕ) (fs : List ℕ) (k : TokenKind) → is_letter b ≡ true → IsToken (b ∷ fs) k → k ≡ word_kind (b ∷ fs)
letter_kind b fs k h (a_word w l e) = e
letter_kind b fs k h (a_number d l e) = absurd (no_digit b h d.0)
letter_kind b fs k h (a_text (inside, q, w) e) = absurd (no_quote b h (head b 39 fs _ w))
letter_kind b fs k h (a_symbol (one a w s)) =
    absurd (let f : single_symbol a ≡ None = letter_no_single a (subst (λ z. is_letter z ≡ true) (head b a fs _ w) h) in cc)
letter_kind b fs k h (a_symbol (two a c w s)) = absurd (letter_no_double a c k (subst (λ z. is_letter z ≡ true) (head b a fs _ w) h) s)

-- a digit begins a number
digit_kind : (b : ℕ) (fs : List ℕ) (k : TokenKind) → is_digit b ≡ true → IsToken (b ∷ fs) k → k ≡ kind.Number (value_from 0 (b ∷ fs))
digit_kind b fs k h (a_word w l e) = absurd (no_digit b w.0 h)
digit_kind b fs k h (a_number d l e) = e
digit_kind b fs k h (a_text (inside, q, w) e) = absurd (digit_no_quote b h (head b 39 fs _ w))
digit_kind b fs k h (a_symbol (one a w s)) =
    absurd (let f : single_symbol a ≡ None = digit_no_single a (subst (λ z. is_digit z ≡ true) (head b a fs _ w) h) in cc)
digit_kind b fs k h (a_symbol (two a c w s)) = absurd (digit_no_double a c k (subst (λ z. is_digit z ≡ true) (head b a fs _ w) h) s)

-- a quote begins a text
quote_kind : (fs : List ℕ) (k : TokenKind) → IsToken (39 ∷ fs) k → k ≡ kind.Quoted
quote_kind fs k (a_word w l e) = absurd (let f = w.0 in cc)
quote_kind fs k (a_number d l e) = absurd (let f = d.0 in cc)
quote_kind fs k (a_text t e) = e
quote_kind fs k (a_symbol (one a w s)) =
    absurd (let f : single_symbol 39 ≡ Some k = subst (λ z. single_symbol z ≡ Some k) (sym (head 39 a fs _ w)) s in cc)
quote_kind fs k (a_symbol (two a c w s)) =
    absurd (let f : double_symbol 39 c ≡ Some k = subst (λ z. double_symbol z c ≡ Some k) (sym (head 39 a fs _ w)) s in cc)

kinds_same : (j k : TokenKind) → ◌≡◌ {A = Option TokenKind} (Some j) (Some k) → j ≡ k
kinds_same j k h = ap (λ (o : Option TokenKind). elim o [ Some v ↦ v | None ↦ j ]) h

-- a symbol is of one kind
symbol_kind : (bs : List ℕ) (j k : TokenKind) → IsSymbol bs j → IsSymbol bs k → j ≡ k
symbol_kind bs j k (one a w s) (one b x t) =
    kinds_same j k (sym s ∙ ap (λ z. single_symbol (slice_index z 0)) (sym w ∙ x) ∙ t)
symbol_kind bs j k (one a w s) (two b c x t) = absurd (omega (arith, ap length w, ap length x))
symbol_kind bs j k (two a c w s) (one b x t) = absurd (omega (arith, ap length w, ap length x))
symbol_kind bs j k (two a c w s) (two b d x t) =
    kinds_same j k (sym s ∙ ap (λ z. double_symbol (slice_index z 0) (slice_index z 1)) (sym w ∙ x) ∙ t)

kind_by : (b : ℕ) (fs : List ℕ) (j k : TokenKind) (x y z : Bool) → is_letter b ≡ x → is_digit b ≡ y → nat_eq b 39 ≡ z → IsToken (b ∷ fs) j → IsToken (b ∷ fs) k → j ≡ k
kind_by b fs j k true y z e f g s t = letter_kind b fs j e s ∙ sym (letter_kind b fs k e t)
kind_by b fs j k false true z e f g s t = digit_kind b fs j f s ∙ sym (digit_kind b fs k f t)
kind_by b fs j k false false true e f g s t =
    quote_kind fs j (subst (λ c. IsToken (c ∷ fs) j) (is_quote b g) s) ∙ sym (quote_kind fs k (subst (λ c. IsToken (c ∷ fs) k) (is_quote b g) t))
kind_by b fs j k false false false e f g s t =
    let o : IsOther b = record { no_letter = e; no_digit = f; no_quote = g } in
    symbol_kind (b ∷ fs) j k (symbol_token b fs j o s) (symbol_token b fs k o t)

-- characters are a token of one kind
pub token_kind : (bs : List ℕ) (j k : TokenKind) → IsToken bs j → IsToken bs k → j ≡ k
token_kind [] j k s t = absurd (not_empty j s)
token_kind (b ∷ fs) j k s t = kind_by b fs j k (is_letter b) (is_digit b) (nat_eq b 39) refl refl refl s t
