-- The tokens of a text in UTF-8 have their characters.
use Rattle.std.proofs.Common.{◌≡◌, ℕ, suc, ◌+◌, ◌-◌, ◌≤◌, ◌<◌, Bool, true, false, not, ◌&&◌, ◌||◌, Some, None, inl, inr, ⊎_elim, List, [], ◌∷◌, ◌++◌, length, drop, take, refl, sym, ◌∙◌, ap, subst, arith, nat_le, nat_lt, nat_eq, get_or, length-append}
use Rattle.std.specs.Prelude.{if◌then◌else◌, Option, IsUtf8, All}
use Rattle.std.specs.List.{list_all}
use Rattle.std.specs.Str.{IsCharBoundary}
use Rattle.std.proofs.lemmas.Grind.{common_steps}
use Rattle.std.specs.Prelude.{◌⊎◌}
use Rattle.std.specs.Str.{str_eq_ignore_ascii_case}
use Rattle.std.proofs.lemmas.Bool.{and_parts, cases_lt}
use Rattle.std.proofs.lemmas.List.{get_or-take, get_or-drop, get_or_past, drop-take}
use Rattle.std.proofs.lemmas.List.Folds.{list_all_at}
use Rattle.std.proofs.Math.Seq.{get_or-append_seam}
use Rattle.std.proofs.lemmas.Bool.Decides.{nat_tests}
use Rattle.std.proofs.lemmas.Str.{IsCharBoundary-before_ascii, IsCharBoundary-after_ascii}
use Rattle.std.proofs.lemmas.List.Elements.{All-nil, All-cons}
use Rattle.iv_lex.specs.declared.kind.TokenKind.{TokenKind}
use Rattle.iv_lex.specs.declared.kind.TokenKind.TheVariants as kind
use Rattle.iv_lex.specs.declared.token.Token.{Token}
use Rattle.iv_lex.specs.Tokens.{is_digit, is_word_byte, value_from, single_symbol, double_symbol, tokens_of}
use Rattle.iv_lex.specs.Words.{slice, is_boundary, characters}
use Rattle.iv_lex.specs.Longest.{IsWord, IsDigits, IsText, one, two, IsToken}
use Rattle.iv_lex.specs.Reserved.{reserved_words, word_among, word_kind}
use Rattle.iv_lex.specs.Longest.IsToken.{a_word, a_number, a_text, a_symbol}
use Rattle.iv_lex.specs.IsTokens.{IsTokenOf, IsTokensFrom, HasCharacters, TokensHaveCharacters}
use Rattle.iv_lex.proofs.Sequence.{dropped, tokens_found}

-- the first and the last of some bytes are characters of ASCII
record Edges (bs : List ℕ) : Type 0 where
  some : 0 < length bs
  first : get_or bs 0 0 < 128
  last : get_or bs (length bs - 1) 0 < 128

ascii_by : (p : ℕ → Bool) (bs : List ℕ) (i : ℕ) (x : Bool) → p (get_or bs i 0) ≡ x → ((b : ℕ) → p b ≡ true → b < 128) → list_all p bs ≡ true → i < length bs → get_or bs i 0 < 128
ascii_by p bs i true e f h l = f (get_or bs i 0) e
ascii_by p bs i false e f h l = absurd (let g = list_all_at p bs i 0 l e in cc)

all_ascii : (p : ℕ → Bool) (bs : List ℕ) → ((b : ℕ) → p b ≡ true → b < 128) → list_all p bs ≡ true → 0 < length bs → Edges bs
all_ascii p bs f h l = record {
  some = l;
  first = ascii_by p bs 0 (p (get_or bs 0 0)) refl f h l;
  last = ascii_by p bs (length bs - 1) (p (get_or bs (length bs - 1) 0)) refl f h (omega (arith, l));
}

word_ascii : (b : ℕ) → is_word_byte b ≡ true → b < 128
word_ascii b h = grind (arith, nat_tests)

digit_ascii : (b : ℕ) → is_digit b ≡ true → b < 128
digit_ascii b h = grind (arith, nat_tests)

no_single : (a : ℕ) → 128 ≤ a → single_symbol a ≡ None
no_single a h = grind (arith, nat_tests)

single_ascii : (a : ℕ) (k : TokenKind) → single_symbol a ≡ Some k → a < 128
single_ascii a k h = ⊎_elim (λ l. l) (λ l. absurd (let e = no_single a l in cc)) (cases_lt a 128)

no_double : (a b : ℕ) → (128 ≤ a) ⊎ (128 ≤ b) → double_symbol a b ≡ None
no_double a b h = grind (arith, nat_tests)

double_ascii : (a b : ℕ) (k : TokenKind) → double_symbol a b ≡ Some k → (a < 128) × (b < 128)
double_ascii a b k h = (
  ⊎_elim (λ l. l) (λ l. absurd (let e = no_double a b (inl l) in cc)) (cases_lt a 128),
  ⊎_elim (λ l. l) (λ l. absurd (let e = no_double a b (inr l) in cc)) (cases_lt b 128),
)

word_edges : (bs : List ℕ) → IsWord bs → Edges bs
word_edges [] w = absurd w
word_edges (b ∷ bs) w =
    all_ascii is_word_byte (b ∷ bs) word_ascii (ap (λ x. (x || is_digit b) && list_all is_word_byte bs) w.0 ∙ w.1) (omega arith)

digit_edges : (bs : List ℕ) → IsDigits bs → Edges bs
digit_edges [] d = absurd d
digit_edges (b ∷ bs) d =
    all_ascii is_digit (b ∷ bs) digit_ascii (ap (λ x. x && list_all is_digit bs) d.0 ∙ d.1) (omega arith)

text_edges : (inside : List ℕ) → Edges (39 ∷ (inside ++ 39 ∷ []))
text_edges inside =
    let n : length (39 ∷ (inside ++ 39 ∷ [])) - 1 ≡ length (39 ∷ inside) = omega (arith, length-append inside (39 ∷ [])) in
    let e : get_or (39 ∷ (inside ++ 39 ∷ [])) (length (39 ∷ (inside ++ 39 ∷ [])) - 1) 0 ≡ 39 =
    ap (λ m. get_or (39 ∷ (inside ++ 39 ∷ [])) m 0) n ∙ get_or-append_seam (39 ∷ inside) 39 [] 0 in
    record { some = omega arith; first = omega arith; last = omega (arith, e) }

token_edges : (bs : List ℕ) (k : TokenKind) → IsToken bs k → Edges bs
token_edges bs k (a_word w l e) = word_edges bs w
token_edges bs k (a_number d l e) = digit_edges bs d
token_edges bs k (a_text (inside, q, w) e) = subst Edges (sym w) (text_edges inside)
token_edges bs k (a_symbol (one a w s)) =
    let h : a < 128 = single_ascii a k s in
    subst Edges (sym w) (record { some = omega arith; first = h; last = h })
token_edges bs k (a_symbol (two a b w s)) =
    let h = double_ascii a b k s in
    subst Edges (sym w) (record { some = omega arith; first = h.0; last = h.1 })

-- a token whose kind is a text is one
is_quoted : TokenKind → Bool
is_quoted kind.Quoted = true
is_quoted _ = false

none_quoted : List (List ℕ × TokenKind) → Bool
none_quoted [] = true
none_quoted ((reserved, k) ∷ rest) = not (is_quoted k) && none_quoted rest

by_word : (x : Bool) (j k : TokenKind) → not (is_quoted j) ≡ true → not (is_quoted k) ≡ true → not (is_quoted (if x then j else k)) ≡ true
by_word true j k h g = h
by_word false j k h g = g

among_not_quoted : (reserved : List (List ℕ × TokenKind)) (word : List ℕ) → none_quoted reserved ≡ true → not (is_quoted (word_among reserved word)) ≡ true
unfolding none_quoted is_quoted
among_not_quoted [] word h = refl
among_not_quoted ((spelling, k) ∷ rest) word h =
    let two = and_parts (not (is_quoted k)) (none_quoted rest) h in
    by_word (str_eq_ignore_ascii_case word spelling) k (word_among rest word) two.0 (among_not_quoted rest word two.1)

word_not_quoted : (word : List ℕ) → not (is_quoted (word_kind word)) ≡ true
unfolding word_kind none_quoted is_quoted
word_not_quoted word = among_not_quoted reserved_words word refl

quoted_refuted : (k : TokenKind) → not (is_quoted k) ≡ true → k ≡ kind.Quoted → ⊥
unfolding is_quoted
quoted_refuted k h e = absurd (let f : not (is_quoted kind.Quoted) ≡ true = subst (λ j. not (is_quoted j) ≡ true) e h in cc)

-- no symbol is a text
no_text : Option TokenKind → Bool
no_text None = true
no_text (Some k) = not (is_quoted k)

no_text_by : (x : Bool) (o p : Option TokenKind) → no_text o ≡ true → no_text p ≡ true → no_text (if x then o else p) ≡ true
no_text_by true o p h g = h
no_text_by false o p h g = g

single_no_text : (a : ℕ) → no_text (single_symbol a) ≡ true
unfolding no_text is_quoted
single_no_text a =
    no_text_by (nat_eq a 40) _ _ refl (no_text_by (nat_eq a 41) _ _ refl (no_text_by (nat_eq a 44) _ _ refl
    (no_text_by (nat_eq a 59) _ _ refl (no_text_by (nat_eq a 46) _ _ refl (no_text_by (nat_eq a 61) _ _ refl
    (no_text_by (nat_eq a 60) _ _ refl (no_text_by (nat_eq a 62) _ _ refl (no_text_by (nat_eq a 43) _ _ refl
    (no_text_by (nat_eq a 45) _ _ refl (no_text_by (nat_eq a 42) _ _ refl refl))))))))))

double_no_text : (a b : ℕ) → no_text (double_symbol a b) ≡ true
unfolding no_text is_quoted
double_no_text a b =
    no_text_by (nat_eq a 60) _ _ (no_text_by (nat_eq b 62) _ _ refl (no_text_by (nat_eq b 61) _ _ refl refl))
    (no_text_by (nat_eq a 62) _ _ (no_text_by (nat_eq b 61) _ _ refl refl) refl)

symbol_refuted : (o : Option TokenKind) (k : TokenKind) → no_text o ≡ true → o ≡ Some k → k ≡ kind.Quoted → ⊥
unfolding no_text is_quoted
symbol_refuted o k h e q = quoted_refuted k (subst (λ p. no_text p ≡ true) e h) q

quoted_text : (bs : List ℕ) (k : TokenKind) → IsToken bs k → k ≡ kind.Quoted → IsText bs
quoted_text bs k (a_word w l e) q = absurd (quoted_refuted (word_kind bs) (word_not_quoted bs) (sym e ∙ q))
quoted_text bs k (a_number d l e) q = absurd (let f : kind.Number (value_from 0 bs) ≡ kind.Quoted = sym e ∙ q in cc)
quoted_text bs k (a_text t e) q = t
quoted_text bs k (a_symbol (one a w s)) q = absurd (symbol_refuted (single_symbol a) k (single_no_text a) s q)
quoted_text bs k (a_symbol (two a b w s)) q = absurd (symbol_refuted (double_symbol a b) k (double_no_text a b) s q)

-- where a text may be cut
place_by : (n at x : ℕ) → at ≤ n → (at < n → 128 ≤ x → 192 ≤ x) → (n ≤ at → x ≡ 0) → (nat_le at n && (nat_lt x 128 || nat_le 192 x)) ≡ true
place_by n at x h f g = grind (arith, nat_tests)

is_place : (text : List ℕ) (at : ℕ) → IsCharBoundary text at → is_boundary text at ≡ true
is_place text at h = place_by (length text) at (get_or text at 0) h.0 h.1 (λ l. get_or_past text at 0 l)

cut : (text : List ℕ) (start end : ℕ) → start ≤ end → IsCharBoundary text start → IsCharBoundary text end → characters text start end ≡ Some (slice text start end)
cut text start end h b c =
    let e : nat_le start end ≡ true = grind (arith, nat_tests) in
    rw (e, is_place text start b, is_place text end c)

-- what is in a slice is in the text
in_slice : (text : List ℕ) (start end i : ℕ) → i < end - start → get_or (slice text start end) i 0 ≡ get_or text (start + i) 0
in_slice text start end i h = get_or-take (end - start) (drop start text) i 0 h ∙ get_or-drop start text i 0

slice_length : (text : List ℕ) (start end : ℕ) → end ≤ length text → length (slice text start end) ≡ end - start
slice_length text start end h = grind (arith, common_steps)

take_twice : (k n : ℕ) (xs : List ℕ) → k ≤ n → take k (take n xs) ≡ take k xs
take_twice k n xs h = grind (arith, common_steps)

take_front : (xs ys : List ℕ) → take (length xs) (xs ++ ys) ≡ xs
take_front xs ys = grind (arith, common_steps)

inner_slice : (text inside : List ℕ) (start end : ℕ) → slice text start end ≡ 39 ∷ (inside ++ 39 ∷ []) → end ≤ length text → slice text (start + 1) (end - 1) ≡ inside
inner_slice text inside start end e h =
    let n : end - start ≡ 2 + length inside =
    omega (arith, slice_length text start end h, ap length e, length-append inside (39 ∷ [])) in
    let m : end - 1 - (start + 1) ≡ length inside = omega (arith, n) in
    let one : 1 + length inside ≡ suc (length inside) = omega arith in
    ap (λ k. take k (drop (start + 1) text)) m
    ∙ ap (λ z. take (length inside) z) (sym (dropped start 1 text))
    ∙ sym (drop-take 1 (length inside) (drop start text))
    ∙ ap (drop 1) (sym (take_twice (1 + length inside) (end - start) (drop start text) (omega (arith, n))))
    ∙ ap (λ z. drop 1 (take (1 + length inside) z)) e
    ∙ ap (λ k. drop 1 (take k (39 ∷ (inside ++ 39 ∷ [])))) one
    ∙ take_front inside (39 ∷ [])

has_characters : (text : List ℕ) (t : Token) → IsUtf8 text → IsTokenOf text t → HasCharacters text t
has_characters text t u h =
    let bs : List ℕ = slice text t.start t.end in
    let d : Edges bs = token_edges bs t.kind h.token in
    let n : length bs ≡ t.end - t.start = slice_length text t.start t.end h.within in
    let r : t.start < t.end = omega (arith, n, d.some) in
    let f : get_or text t.start 0 < 128 =
    subst (λ m. m < 128) (in_slice text t.start t.end 0 (omega (arith, r)) ∙ ap (λ m. get_or text m 0) (omega arith)) d.first in
    let l : get_or text (t.end - 1) 0 < 128 =
    subst (λ m. m < 128) (in_slice text t.start t.end (length bs - 1) (omega (arith, n, r)) ∙ ap (λ m. get_or text m 0) (omega (arith, n, r))) d.last in
    let b : IsCharBoundary text t.start = IsCharBoundary-before_ascii text t.start (omega (arith, r, h.within)) f in
    let c : IsCharBoundary text t.end =
    subst (λ m. IsCharBoundary text m) (omega (arith, r)) (IsCharBoundary-after_ascii text (t.end - 1) u (omega (arith, r, h.within)) l) in
    record {
      whole = cut text t.start t.end (omega (arith, r)) b c;
      inside = λ k.
          let (inside, q, w) = quoted_text bs t.kind h.token k in
          let m : 2 ≤ t.end - t.start = omega (arith, n, ap length w, length-append inside (39 ∷ [])) in
          let after : IsCharBoundary text (t.start + 1) = IsCharBoundary-after_ascii text t.start u (omega (arith, r, h.within)) f in
          let before : IsCharBoundary text (t.end - 1) = IsCharBoundary-before_ascii text (t.end - 1) (omega (arith, r, h.within)) l in
          (inside, w, cut text (t.start + 1) (t.end - 1) (omega (arith, m)) after before ∙ ap Some (inner_slice text inside t.start t.end w h.within));
    }

all_have : (text : List ℕ) (place : ℕ) (ts : List Token) (f : Option ℕ) → IsUtf8 text → IsTokensFrom text place ts f → All (HasCharacters text) ts
all_have text place [] f u h = All-nil (HasCharacters text)
all_have text place (t ∷ ts) f u (g, h, r) = All-cons (HasCharacters text) t ts (has_characters text t u h) (all_have text t.end ts f u r)

pub tokens_have_characters : TokensHaveCharacters
tokens_have_characters text u = all_have text 0 (tokens_of text).tokens (tokens_of text).fault u (tokens_found text)
