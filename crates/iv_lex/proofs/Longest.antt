-- Tokens are the longest runs.
use Rattle.std.proofs.Common.{◌≡◌, ℕ, suc, ◌+◌, ◌≤◌, Bool, true, false, not, ◌&&◌, ◌||◌, Option, Some, None, option_map, unwrap_or, List, [], ◌∷◌, ◌++◌, length, drop, take, refl, sym, ◌∙◌, ap, subst, arith, nat_le, nat_eq, append_assoc, length-append}
use Rattle.std.proofs.lemmas.Bool.{and_parts, not-true}
use Rattle.std.specs.Prelude.{slice_index, if◌then◌else◌}
use Rattle.std.specs.List.{list_all, prefix_len}
use Rattle.std.proofs.lemmas.Grind.{common_steps}
use Rattle.std.proofs.lemmas.Bool.Decides.{nat_tests}
use Rattle.iv_lex.specs.declared.kind.TokenKind.{TokenKind}
use Rattle.iv_lex.specs.declared.kind.TokenKind.TheVariants as kind
use Rattle.iv_syntax.specs.declared.limits.TheConstants.{LONGEST_NAME, GREATEST_INTEGER}
use Rattle.iv_lex.proofs.Scanning.{map_twice}
use Rattle.iv_lex.specs.Reserved.{word_kind}
use Rattle.iv_lex.specs.Tokens.{is_letter, is_digit, is_word_byte, front_length, value_from, single_symbol, double_symbol, closing, symbol_by, quoted_by, with_length, word_at, number_at, symbol_at, token_at}
use Rattle.iv_lex.specs.Longest.{IsWord, IsDigits, quotes_doubled, IsText, IsSymbol, one, two, IsRun, IsToken, IsLongestRun}
use Rattle.iv_lex.specs.Longest.IsToken.{a_word, a_number, a_text, a_symbol}
use Rattle.iv_lex.specs.Longest.IsRun.{word, digits, text, open_text, symbol}

-- how many bytes at the front pass the test, by recursion
unfoldable pub front : (ℕ → Bool) → List ℕ → ℕ
front p [] = 0
front p (b ∷ bs) = if p b then suc (front p bs) else 0

pub front_within : (p : ℕ → Bool) (bs : List ℕ) → front p bs ≤ length bs
unfolding front
front_within p [] = omega arith
front_within p (b ∷ bs) = elim (p b) as (λ x. (if x then suc (front p bs) else 0) ≤ suc (length bs)) [ true ↦ omega (arith, front_within p bs) | false ↦ omega arith ]

prefix_is : (p : ℕ → Bool) (bs : List ℕ) → prefix_len (λ x. not (not (p x))) bs ≡ front p bs
unfolding front
prefix_is p [] = refl
prefix_is p (b ∷ bs) =
    elim (p b) as (λ x. (if not (not x) then 1 + prefix_len (λ x. not (not (p x))) bs else 0) ≡ (if x then suc (front p bs) else 0))
    [ true ↦ omega (arith, prefix_is p bs) | false ↦ refl ]

length_is : (n m : ℕ) → n ≤ m → unwrap_or (if nat_le (suc n) m then Some n else None) m ≡ n
length_is n m h = grind (arith, nat_tests)

pub front_is : (p : ℕ → Bool) (bs : List ℕ) → front_length p bs ≡ front p bs
front_is p bs =
    ap (λ n. unwrap_or (if nat_le (suc n) (length bs) then Some n else None) (length bs)) (prefix_is p bs) ∙ length_is (front p bs) (length bs) (front_within p bs)

front_more : (p : ℕ → Bool) (b : ℕ) (bs : List ℕ) → p b ≡ true → front p (b ∷ bs) ≡ suc (front p bs)
unfolding front
front_more p b bs h = ap (λ x. if x then suc (front p bs) else 0) h

-- bytes that pass are no more than those at the front
all_front : (p : ℕ → Bool) (bs more : List ℕ) → list_all p bs ≡ true → length bs ≤ front p (bs ++ more)
unfolding front
all_front p [] more h = omega arith
all_front p (b ∷ bs) more h =
    let e = and_parts (p b) (list_all p bs) h in
    subst (λ n. suc (length bs) ≤ n) (sym (front_more p b (bs ++ more) e.0)) (omega (arith, all_front p bs more e.1))

front_step : (p : ℕ → Bool) (b : ℕ) (bs : List ℕ) (x : Bool) → p b ≡ x → list_all p (take (front p bs) bs) ≡ true
    → list_all p (take (if x then suc (front p bs) else 0) (b ∷ bs)) ≡ true
front_step p b bs true e h = ap (λ z. z && list_all p (take (front p bs) bs)) e ∙ h
front_step p b bs false e h = refl

-- those at the front pass
front_all : (p : ℕ → Bool) (bs : List ℕ) → list_all p (take (front p bs) bs) ≡ true
unfolding front
front_all p [] = refl
front_all p (b ∷ bs) = front_step p b bs (p b) refl (front_all p bs)

pub no_digit : (b : ℕ) → is_letter b ≡ true → is_digit b ≡ true → ⊥
no_digit b h g = grind (arith, nat_tests)

pub no_quote : (b : ℕ) → is_letter b ≡ true → b ≡ 39 → ⊥
no_quote b h g = grind (arith, nat_tests)

pub digit_no_quote : (b : ℕ) → is_digit b ≡ true → b ≡ 39 → ⊥
digit_no_quote b h g = grind (arith, nat_tests)

no_double : (a b : ℕ) → nat_eq a 60 ≡ false → nat_eq a 62 ≡ false → double_symbol a b ≡ None
no_double a b f g = rw (f, g)

pub letter_no_double : (a b : ℕ) (k : TokenKind) → is_letter a ≡ true → double_symbol a b ≡ Some k → ⊥
letter_no_double a b k h g =
    let e : double_symbol a b ≡ None = no_double a b (grind (arith, nat_tests)) (grind (arith, nat_tests)) in
    cc

pub digit_no_double : (a b : ℕ) (k : TokenKind) → is_digit a ≡ true → double_symbol a b ≡ Some k → ⊥
digit_no_double a b k h g =
    let e : double_symbol a b ≡ None = no_double a b (grind (arith, nat_tests)) (grind (arith, nat_tests)) in
    cc

pub letter_no_single : (a : ℕ) → is_letter a ≡ true → single_symbol a ≡ None
letter_no_single a h = grind (arith, nat_tests)

pub digit_no_single : (a : ℕ) → is_digit a ≡ true → single_symbol a ≡ None
digit_no_single a h = grind (arith, nat_tests)

pub head : (b c : ℕ) (bs cs : List ℕ) → b ∷ bs ≡ c ∷ cs → b ≡ c
head b c bs cs e = ap (λ l. slice_index l 0) e

tail : (b c : ℕ) (bs cs : List ℕ) → b ∷ bs ≡ c ∷ cs → bs ≡ cs
tail b c bs cs e = ap (drop 1) e

-- a run that begins with a letter is a word
letter_length : (c : ℕ) (cs more : List ℕ) → is_letter c ≡ true → IsRun (c ∷ cs) → length (c ∷ cs) ≤ suc (front is_word_byte (cs ++ more))
letter_length c cs more h (word w) = omega (arith, all_front is_word_byte cs more w.1)
letter_length c cs more h (digits d) = absurd (no_digit c h d.0)
letter_length c cs more h (text (inside, q, w)) = absurd (no_quote c h (head c 39 cs _ w))
letter_length c cs more h (open_text (inside, q, w)) = absurd (no_quote c h (head c 39 cs _ w))
letter_length c cs more h (symbol k (one a w s)) = omega (arith, ap length w)
letter_length c cs more h (symbol k (two a b w s)) = absurd (letter_no_double a b k (subst (λ z. is_letter z ≡ true) (head c a cs _ w) h) s)

-- a run that begins with a digit is a number
digit_length : (c : ℕ) (cs more : List ℕ) → is_digit c ≡ true → IsRun (c ∷ cs) → length (c ∷ cs) ≤ suc (front is_digit (cs ++ more))
digit_length c cs more h (word w) = absurd (no_digit c w.0 h)
digit_length c cs more h (digits d) = omega (arith, all_front is_digit cs more d.1)
digit_length c cs more h (text (inside, q, w)) = absurd (digit_no_quote c h (head c 39 cs _ w))
digit_length c cs more h (open_text (inside, q, w)) = absurd (digit_no_quote c h (head c 39 cs _ w))
digit_length c cs more h (symbol k (one a w s)) = omega (arith, ap length w)
digit_length c cs more h (symbol k (two a b w s)) = absurd (digit_no_double a b k (subst (λ z. is_digit z ≡ true) (head c a cs _ w) h) s)

letter_longer : (b : ℕ) (bs longer more : List ℕ) → is_letter b ≡ true → b ∷ bs ≡ longer ++ more → IsRun longer → length longer ≤ suc (front is_word_byte bs)
letter_longer b bs [] more h e r = omega arith
letter_longer b bs (c ∷ cs) more h e r =
    subst (λ z. suc (length cs) ≤ suc (front is_word_byte z)) (sym (tail b c bs (cs ++ more) e))
    (letter_length c cs more (subst (λ z. is_letter z ≡ true) (head b c bs (cs ++ more) e) h) r)

digit_longer : (b : ℕ) (bs longer more : List ℕ) → is_digit b ≡ true → b ∷ bs ≡ longer ++ more → IsRun longer → length longer ≤ suc (front is_digit bs)
digit_longer b bs [] more h e r = omega arith
digit_longer b bs (c ∷ cs) more h e r =
    subst (λ z. suc (length cs) ≤ suc (front is_digit z)) (sym (tail b c bs (cs ++ more) e))
    (digit_length c cs more (subst (λ z. is_digit z ≡ true) (head b c bs (cs ++ more) e) h) r)

split : (n : ℕ) (xs : List ℕ) → xs ≡ take n xs ++ drop n xs
split n xs = grind (arith, common_steps)

take_length : (n : ℕ) (xs : List ℕ) → n ≤ length xs → length (take n xs) ≡ n
take_length n xs h = grind (arith, common_steps)

word_longest : (b : ℕ) (bs : List ℕ) → is_letter b ≡ true → IsLongestRun (b ∷ bs) (b ∷ take (front is_word_byte bs) bs)
word_longest b bs h = record {
  rest = drop (front is_word_byte bs) bs;
  whole = ap (λ z. b ∷ z) (split (front is_word_byte bs) bs);
  run = word (h, front_all is_word_byte bs);
  longest = λ longer more e r. omega (arith, letter_longer b bs longer more h e r, take_length (front is_word_byte bs) bs (front_within is_word_byte bs));
}

number_longest : (b : ℕ) (bs : List ℕ) → is_digit b ≡ true → IsLongestRun (b ∷ bs) (b ∷ take (front is_digit bs) bs)
number_longest b bs h = record {
  rest = drop (front is_digit bs) bs;
  whole = ap (λ z. b ∷ z) (split (front is_digit bs) bs);
  run = digits (h, front_all is_digit bs);
  longest = λ longer more e r. omega (arith, digit_longer b bs longer more h e r, take_length (front is_digit bs) bs (front_within is_digit bs));
}

word_taken : (b : ℕ) (bs : List ℕ) → is_letter b ≡ true → take (front_length is_word_byte (b ∷ bs)) (b ∷ bs) ≡ b ∷ take (front is_word_byte bs) bs
word_taken b bs h =
    let w : is_word_byte b ≡ true = ap (λ z. z || is_digit b) h in
    ap (λ n. take n (b ∷ bs)) (front_is is_word_byte (b ∷ bs) ∙ front_more is_word_byte b bs w)

number_taken : (b : ℕ) (bs : List ℕ) → is_digit b ≡ true → take (front_length is_digit (b ∷ bs)) (b ∷ bs) ≡ b ∷ take (front is_digit bs) bs
number_taken b bs h = ap (λ n. take n (b ∷ bs)) (front_is is_digit (b ∷ bs) ∙ front_more is_digit b bs h)

whole_front : (f rest : List ℕ) → take (length f) (f ++ rest) ≡ f
whole_front f rest = grind (arith, common_steps)

-- two longest runs are one
pub same_longest : (bs f g : List ℕ) → IsLongestRun bs f → IsLongestRun bs g → f ≡ g
same_longest bs f g l m =
    let n : length f ≡ length g = omega (arith, l.longest g m.rest m.whole m.run, m.longest f l.rest l.whole l.run) in
    sym (whole_front f l.rest) ∙ ap (take (length f)) (sym l.whole ∙ m.whole) ∙ ap (λ k. take k (g ++ m.rest)) n ∙ whole_front g m.rest

-- a quote that ends a text, and what the text holds
pub record Ends (bs : List ℕ) (n : ℕ) : Type 0 where
  pub inside : List ℕ
  pub more : List ℕ
  pub doubled : quotes_doubled inside ≡ true
  pub whole : bs ≡ inside ++ 39 ∷ more
  pub count : n ≡ length inside + 1

pub is_quote : (b : ℕ) → nat_eq b 39 ≡ true → b ≡ 39
is_quote b h = grind (arith, nat_tests)

some_same : (a b : ℕ) → ◌≡◌ {A = Option ℕ} (Some a) (Some b) → a ≡ b
some_same a b h = ap (λ o. unwrap_or o a) h

-- a character that is no quote before others
doubled_more : (b : ℕ) (inside : List ℕ) → nat_eq b 39 ≡ false → quotes_doubled inside ≡ true → quotes_doubled (b ∷ inside) ≡ true
doubled_more b [] e h = ap not e
doubled_more b (c ∷ cs) e h = ap (λ x. if x then nat_eq c 39 && quotes_doubled cs else quotes_doubled (c ∷ cs)) e ∙ h

-- two quotes before others
doubled_pair : (b c : ℕ) (inside : List ℕ) → nat_eq b 39 ≡ true → nat_eq c 39 ≡ true → quotes_doubled inside ≡ true → quotes_doubled (b ∷ c ∷ inside) ≡ true
doubled_pair b c inside e f h = ap (λ x. if x then nat_eq c 39 && quotes_doubled inside else quotes_doubled (c ∷ inside)) e ∙ ap (λ x. x && quotes_doubled inside) f ∙ h

ends_here : (b n : ℕ) (bs : List ℕ) → nat_eq b 39 ≡ true → ◌≡◌ {A = Option ℕ} (Some 1) (Some n) → Ends (b ∷ bs) n
ends_here b n bs e h = record {
  inside = [];
  more = bs;
  doubled = refl;
  whole = ap (λ z. z ∷ bs) (is_quote b e);
  count = sym (some_same 1 n h);
}

ends_single : (b n : ℕ) (x : Bool) → nat_eq b 39 ≡ x → (if x then Some 1 else None) ≡ Some n → Ends (b ∷ []) n
ends_single b n true e h = ends_here b n [] e h
ends_single b n false e h = absurd (cc)

-- what ends after a character that is no quote
ends_later : (b n : ℕ) (bs : List ℕ) (o : Option ℕ) → nat_eq b 39 ≡ false → ((m : ℕ) → o ≡ Some m → Ends bs m) → option_map (λ k. 1 + k) o ≡ Some n → Ends (b ∷ bs) n
ends_later b n bs None e f h = absurd (cc)
ends_later b n bs (Some m) e f h =
    let r = f m refl in
    record {
      inside = b ∷ r.inside;
      more = r.more;
      doubled = doubled_more b r.inside e r.doubled;
      whole = ap (λ z. b ∷ z) r.whole;
      count = omega (arith, some_same (1 + m) n h, r.count);
    }

-- what ends after two quotes
ends_after : (b c n : ℕ) (bs : List ℕ) (o : Option ℕ) → nat_eq b 39 ≡ true → nat_eq c 39 ≡ true → ((m : ℕ) → o ≡ Some m → Ends bs m) → option_map (λ k. 2 + k) o ≡ Some n → Ends (b ∷ c ∷ bs) n
ends_after b c n bs None e g f h = absurd (cc)
ends_after b c n bs (Some m) e g f h =
    let r = f m refl in
    record {
      inside = b ∷ c ∷ r.inside;
      more = r.more;
      doubled = doubled_pair b c r.inside e g r.doubled;
      whole = ap (λ z. b ∷ c ∷ z) r.whole;
      count = omega (arith, some_same (2 + m) n h, r.count);
    }

ends_by : (b c n : ℕ) (bs : List ℕ) (x y : Bool) → nat_eq b 39 ≡ x → nat_eq c 39 ≡ y
    → ((m : ℕ) → closing bs ≡ Some m → Ends bs m) → ((m : ℕ) → closing (c ∷ bs) ≡ Some m → Ends (c ∷ bs) m)
    → (if x then (if y then option_map (λ k. 2 + k) (closing bs) else Some 1) else option_map (λ k. 1 + k) (closing (c ∷ bs))) ≡ Some n → Ends (b ∷ c ∷ bs) n
ends_by b c n bs true true e g f1 f2 h = ends_after b c n bs (closing bs) e g f1 h
ends_by b c n bs true false e g f1 f2 h = ends_here b n (c ∷ bs) e h
ends_by b c n bs false y e g f1 f2 h = ends_later b n (c ∷ bs) (closing (c ∷ bs)) e f2 h

pub ends : (bs : List ℕ) (n : ℕ) → closing bs ≡ Some n → Ends bs n
ends [] n h = absurd (cc)
ends (b ∷ []) n h = ends_single b n (nat_eq b 39) refl h
ends (b ∷ c ∷ bs) n h = ends_by b c n bs (nat_eq b 39) (nat_eq c 39) refl refl (λ m. ends bs m) (λ m. ends (c ∷ bs) m) h

map_none : (o : Option ℕ) → o ≡ option_map (λ n. 0 + n) o
map_none None = refl
map_none (Some n) = ap Some (omega arith)

inside_single : (b : ℕ) (more : List ℕ) → nat_eq b 39 ≡ false → closing (b ∷ more) ≡ option_map (λ n. 1 + n) (closing more)
inside_single b [] e = ap (λ x. if x then Some 1 else None) e
inside_single b (c ∷ more) e = ap (λ x. if x then (if nat_eq c 39 then option_map (λ k. 2 + k) (closing more) else Some 1) else option_map (λ k. 1 + k) (closing (c ∷ more))) e

inside_pair : (b c : ℕ) (more : List ℕ) → nat_eq b 39 ≡ true → nat_eq c 39 ≡ true → closing (b ∷ c ∷ more) ≡ option_map (λ n. 2 + n) (closing more)
inside_pair b c more e f =
    ap (λ x. if x then (if nat_eq c 39 then option_map (λ k. 2 + k) (closing more) else Some 1) else option_map (λ k. 1 + k) (closing (c ∷ more))) e
    ∙ ap (λ x. if x then option_map (λ k. 2 + k) (closing more) else Some 1) f

sum_map : (a b c : ℕ) (o p : Option ℕ) → a + b ≡ c → o ≡ option_map (λ n. b + n) p → option_map (λ n. a + n) o ≡ option_map (λ n. c + n) p
sum_map a b c o p e h = ap (option_map (λ n. a + n)) h ∙ map_twice a b p ∙ ap (λ k. option_map (λ n. k + n) p) e

inside_by : (b c : ℕ) (bs more : List ℕ) (x : Bool) → nat_eq b 39 ≡ x → (if x then nat_eq c 39 && quotes_doubled bs else quotes_doubled (c ∷ bs)) ≡ true
    → (quotes_doubled bs ≡ true → closing (bs ++ more) ≡ option_map (λ n. length bs + n) (closing more))
    → (quotes_doubled (c ∷ bs) ≡ true → closing (c ∷ (bs ++ more)) ≡ option_map (λ n. suc (length bs) + n) (closing more))
    → closing (b ∷ c ∷ (bs ++ more)) ≡ option_map (λ n. suc (suc (length bs)) + n) (closing more)
inside_by b c bs more true e h f g =
    let d = and_parts (nat_eq c 39) (quotes_doubled bs) h in
    inside_pair b c (bs ++ more) e d.0 ∙ sum_map 2 (length bs) (suc (suc (length bs))) (closing (bs ++ more)) (closing more) (omega arith) (f d.1)
inside_by b c bs more false e h f g =
    inside_single b (c ∷ (bs ++ more)) e ∙ sum_map 1 (suc (length bs)) (suc (suc (length bs))) (closing (c ∷ (bs ++ more))) (closing more) (omega arith) (g h)

-- what a text holds doesn't end it
closing_inside : (inside more : List ℕ) → quotes_doubled inside ≡ true → closing (inside ++ more) ≡ option_map (λ n. length inside + n) (closing more)
closing_inside [] more h = map_none (closing more)
closing_inside (b ∷ []) more h = inside_single b more (not-true (nat_eq b 39) h)
closing_inside (b ∷ c ∷ bs) more h = inside_by b c bs more (nat_eq b 39) refl h (closing_inside bs more) (closing_inside (c ∷ bs) more)

positive : (bs : List ℕ) (n : ℕ) → closing bs ≡ Some n → 1 ≤ n
positive bs n h = omega (arith, (ends bs n h).count)

past : (k n : ℕ) (o : Option ℕ) → ((m : ℕ) → o ≡ Some m → 1 ≤ m) → option_map (λ m. k + m) o ≡ Some n → k + 1 ≤ n
past k n None f h = absurd (cc)
past k n (Some m) f h = omega (arith, f m refl, some_same (k + m) n h)

-- what a text holds is shorter than the text
inside_length : (inside more : List ℕ) (n : ℕ) → quotes_doubled inside ≡ true → closing (inside ++ more) ≡ Some n → length inside + 1 ≤ n
inside_length inside more n q h = past (length inside) n (closing more) (positive more) (sym (closing_inside inside more q) ∙ h)

text_length : (cs more : List ℕ) (n : ℕ) → closing (cs ++ more) ≡ Some n → IsRun (39 ∷ cs) → length (39 ∷ cs) ≤ n + 1
text_length cs more n h (word w) = absurd (let e = w.0 in cc)
text_length cs more n h (digits d) = absurd (let e = d.0 in cc)
text_length cs more n h (text (inside, q, w)) =
    let e : cs ≡ inside ++ 39 ∷ [] = tail 39 39 cs (inside ++ 39 ∷ []) w in
    let k : closing (inside ++ 39 ∷ more) ≡ Some n = ap closing (sym (ap (λ z. z ++ more) e ∙ append_assoc inside (39 ∷ []) more)) ∙ h in
    omega (arith, inside_length inside (39 ∷ more) n q k, ap length e, length-append inside (39 ∷ []))
text_length cs more n h (open_text (inside, q, w)) =
    let e : cs ≡ inside = tail 39 39 cs inside w in
    omega (arith, inside_length inside more n q (ap (λ z. closing (z ++ more)) (sym e) ∙ h), ap length e)
text_length cs more n h (symbol k (one a w s)) = omega (arith, ap length w)
text_length cs more n h (symbol k (two a b w s)) =
    let e : double_symbol 39 b ≡ Some k = subst (λ z. double_symbol z b ≡ Some k) (sym (head 39 a cs _ w)) s in
    absurd (cc)

text_longer : (bs longer more : List ℕ) (n : ℕ) → closing bs ≡ Some n → 39 ∷ bs ≡ longer ++ more → IsRun longer → length longer ≤ n + 1
text_longer bs [] more n h e r = omega arith
text_longer bs (c ∷ cs) more n h e r =
    text_length cs more n (ap closing (sym (tail 39 c bs (cs ++ more) e)) ∙ h) (subst (λ z. IsRun (z ∷ cs)) (sym (head 39 c bs (cs ++ more) e)) r)

text_longest : (bs : List ℕ) (n : ℕ) (h : closing bs ≡ Some n) → IsLongestRun (39 ∷ bs) (39 ∷ ((ends bs n h).inside ++ 39 ∷ []))
text_longest bs n h =
    let r = ends bs n h in
    record {
      rest = r.more;
      whole = ap (λ z. 39 ∷ z) (r.whole ∙ sym (append_assoc r.inside (39 ∷ []) r.more));
      run = text (r.inside, r.doubled, refl);
      longest = λ longer more e run. omega (arith, text_longer bs longer more n h e run, r.count, length-append r.inside (39 ∷ []));
    }

taken : (inside more : List ℕ) (n : ℕ) → n ≡ length inside + 1 → take n (inside ++ 39 ∷ more) ≡ inside ++ 39 ∷ []
taken inside more n e =
    let f : length (inside ++ 39 ∷ []) ≡ n = omega (arith, length-append inside (39 ∷ [])) in
    ap (λ k. take k (inside ++ 39 ∷ more)) (sym f) ∙ ap (take (length (inside ++ 39 ∷ []))) (sym (append_assoc inside (39 ∷ []) more)) ∙ whole_front (inside ++ 39 ∷ []) more

text_taken : (bs : List ℕ) (n : ℕ) (h : closing bs ≡ Some n) → take (n + 1) (39 ∷ bs) ≡ 39 ∷ ((ends bs n h).inside ++ 39 ∷ [])
text_taken bs n h =
    let r = ends bs n h in
    let k : n + 1 ≡ suc n = omega arith in
    ap (λ m. take m (39 ∷ bs)) k ∙ ap (λ z. 39 ∷ take n z) r.whole ∙ ap (λ z. 39 ∷ z) (taken r.inside r.more n r.count)

-- a first byte that begins neither a word nor a number nor a text
pub record IsOther (b : ℕ) : Type 0 where
  pub no_letter : is_letter b ≡ false
  pub no_digit : is_digit b ≡ false
  pub no_quote : nat_eq b 39 ≡ false

other_word : (b : ℕ) → IsOther b → is_letter b ≡ true → ⊥
other_word b o h = let e = o.no_letter in cc

other_number : (b : ℕ) → IsOther b → is_digit b ≡ true → ⊥
other_number b o h = let e = o.no_digit in cc

other_text : (b : ℕ) → IsOther b → b ≡ 39 → ⊥
other_text b o h = let e : nat_eq 39 39 ≡ false = subst (λ z. nat_eq z 39 ≡ false) h o.no_quote in cc

-- two characters that are no symbol begin none
single_length : (b : ℕ) (bs cs more : List ℕ) → IsOther b → bs ≡ cs ++ more → double_symbol b (slice_index bs 0) ≡ None → IsRun (b ∷ cs) → length (b ∷ cs) ≤ 1
single_length b bs cs more o e h (word w) = absurd (other_word b o w.0)
single_length b bs cs more o e h (digits d) = absurd (other_number b o d.0)
single_length b bs cs more o e h (text (inside, q, w)) = absurd (other_text b o (head b 39 cs _ w))
single_length b bs cs more o e h (open_text (inside, q, w)) = absurd (other_text b o (head b 39 cs _ w))
single_length b bs cs more o e h (symbol k (one a w s)) = omega (arith, ap length w)
single_length b bs cs more o e h (symbol k (two a c w s)) =
    let f : slice_index bs 0 ≡ c = ap (λ z. slice_index z 0) (e ∙ ap (λ z. z ++ more) (tail b a cs (c ∷ []) w)) in
    let g : double_symbol b c ≡ Some k = subst (λ z. double_symbol z c ≡ Some k) (sym (head b a cs (c ∷ []) w)) s in
    let i : double_symbol b c ≡ None = ap (double_symbol b) (sym f) ∙ h in
    absurd (cc)

double_length : (b : ℕ) (cs : List ℕ) → IsOther b → IsRun (b ∷ cs) → length (b ∷ cs) ≤ 2
double_length b cs o (word w) = absurd (other_word b o w.0)
double_length b cs o (digits d) = absurd (other_number b o d.0)
double_length b cs o (text (inside, q, w)) = absurd (other_text b o (head b 39 cs _ w))
double_length b cs o (open_text (inside, q, w)) = absurd (other_text b o (head b 39 cs _ w))
double_length b cs o (symbol k (one a w s)) = omega (arith, ap length w)
double_length b cs o (symbol k (two a c w s)) = omega (arith, ap length w)

single_longer : (b : ℕ) (bs longer more : List ℕ) → IsOther b → double_symbol b (slice_index bs 0) ≡ None → b ∷ bs ≡ longer ++ more → IsRun longer → length longer ≤ 1
single_longer b bs [] more o h e r = omega arith
single_longer b bs (c ∷ cs) more o h e r = single_length b bs cs more o (tail b c bs (cs ++ more) e) h (subst (λ z. IsRun (z ∷ cs)) (sym (head b c bs (cs ++ more) e)) r)

double_longer : (b : ℕ) (bs longer more : List ℕ) → IsOther b → b ∷ bs ≡ longer ++ more → IsRun longer → length longer ≤ 2
double_longer b bs [] more o e r = omega arith
double_longer b bs (c ∷ cs) more o e r = double_length b cs o (subst (λ z. IsRun (z ∷ cs)) (sym (head b c bs (cs ++ more) e)) r)

pub no_second : (b : ℕ) → double_symbol b 0 ≡ None
no_second b = grind (arith, nat_tests)

-- what a front is: the longest run, and a token of its kind
abbrev pub IsGood : List ℕ → TokenKind × ℕ → Type 0
IsGood bs p = IsLongestRun bs (take p.1 bs) × IsToken (take p.1 bs) p.0

single_good : (b : ℕ) (bs : List ℕ) (k : TokenKind) → IsOther b → double_symbol b (slice_index bs 0) ≡ None → single_symbol b ≡ Some k → IsGood (b ∷ bs) (k, 1)
single_good b bs k o h s = (
  record {
    rest = bs;
    whole = refl;
    run = symbol k (one b refl s);
    longest = λ longer more e r. single_longer b bs longer more o h e r;
  },
  a_symbol (one b refl s),
)

double_good : (b : ℕ) (bs : List ℕ) (k : TokenKind) → IsOther b → double_symbol b (slice_index bs 0) ≡ Some k → IsGood (b ∷ bs) (k, 2)
double_good b [] k o h = absurd (let e = no_second b in cc)
double_good b (c ∷ bs) k o h = (
  record {
    rest = bs;
    whole = refl;
    run = symbol k (two b c refl h);
    longest = λ longer more e r. double_longer b (c ∷ bs) longer more o e r;
  },
  a_symbol (two b c refl h),
)

pub pair_same : (p q : TokenKind × ℕ) → ◌≡◌ {A = Option (TokenKind × ℕ)} (Some p) (Some q) → p ≡ q
pair_same p q h = ap (λ o. unwrap_or o p) h

symbol_good : (b : ℕ) (bs : List ℕ) (p : TokenKind × ℕ) (x y : Option TokenKind) → IsOther b → double_symbol b (slice_index bs 0) ≡ x → single_symbol b ≡ y → symbol_by x y ≡ Some p → IsGood (b ∷ bs) p
symbol_good b bs p (Some k) y o h s e = subst (IsGood (b ∷ bs)) (pair_same (k, 2) p e) (double_good b bs k o h)
symbol_good b bs p None (Some k) o h s e = subst (IsGood (b ∷ bs)) (pair_same (k, 1) p e) (single_good b bs k o h s)
symbol_good b bs p None None o h s e = absurd (cc)

le_true : (a b : ℕ) → nat_le a b ≡ true → a ≤ b
le_true a b h = grind (arith, nat_tests)

word_by : (bs : List ℕ) (n : ℕ) (p : TokenKind × ℕ) (x : Bool) → nat_le (length (take n bs)) LONGEST_NAME ≡ x → with_length n (if x then Some (word_kind (take n bs)) else None) ≡ Some p
    → IsLongestRun bs (take n bs) → IsWord (take n bs) → IsGood bs p
word_by bs n p true e h l w = subst (IsGood bs) (pair_same (word_kind (take n bs), n) p h) (l, a_word w (le_true _ _ e) refl)
word_by bs n p false e h l w = absurd (cc)

word_good : (b : ℕ) (bs : List ℕ) (p : TokenKind × ℕ) → is_letter b ≡ true → word_at (b ∷ bs) (front_length is_word_byte (b ∷ bs)) ≡ Some p → IsGood (b ∷ bs) p
word_good b bs p e h =
    let t = sym (word_taken b bs e) in
    let n : ℕ = front_length is_word_byte (b ∷ bs) in
    word_by (b ∷ bs) n p (nat_le (length (take n (b ∷ bs))) LONGEST_NAME) refl h
    (subst (IsLongestRun (b ∷ bs)) t (word_longest b bs e)) (subst IsWord t (e, front_all is_word_byte bs))

number_by : (bs : List ℕ) (n : ℕ) (p : TokenKind × ℕ) (x : Bool) → nat_le (value_from 0 (take n bs)) (GREATEST_INTEGER) ≡ x → with_length n (if x then Some (kind.Number (value_from 0 (take n bs))) else None) ≡ Some p
    → IsLongestRun bs (take n bs) → IsDigits (take n bs) → IsGood bs p
number_by bs n p true e h l w = subst (IsGood bs) (pair_same (kind.Number (value_from 0 (take n bs)), n) p h) (l, a_number w (le_true _ _ e) refl)
number_by bs n p false e h l w = absurd (cc)

number_good : (b : ℕ) (bs : List ℕ) (p : TokenKind × ℕ) → is_digit b ≡ true → number_at (b ∷ bs) (front_length is_digit (b ∷ bs)) ≡ Some p → IsGood (b ∷ bs) p
number_good b bs p e h =
    let t = sym (number_taken b bs e) in
    let n : ℕ = front_length is_digit (b ∷ bs) in
    number_by (b ∷ bs) n p (nat_le (value_from 0 (take n (b ∷ bs))) (GREATEST_INTEGER)) refl h
    (subst (IsLongestRun (b ∷ bs)) t (number_longest b bs e)) (subst IsDigits t (e, front_all is_digit bs))

text_by : (bs : List ℕ) (p : TokenKind × ℕ) (o : Option ℕ) → closing bs ≡ o → quoted_by o ≡ Some p → IsGood (39 ∷ bs) p
text_by bs p None e h = absurd (cc)
text_by bs p (Some n) e h =
    let r = ends bs n e in
    let good : IsLongestRun (39 ∷ bs) (take (n + 1) (39 ∷ bs)) × IsToken (take (n + 1) (39 ∷ bs)) kind.Quoted =
    subst (λ z. IsLongestRun (39 ∷ bs) z × IsToken z kind.Quoted) (sym (text_taken bs n e)) (text_longest bs n e, a_text (r.inside, r.doubled, refl) refl) in
    subst (IsGood (39 ∷ bs)) (pair_same (kind.Quoted, n + 1) p h) good

good_by : (b : ℕ) (bs : List ℕ) (p : TokenKind × ℕ) (x y z : Bool) → is_letter b ≡ x → is_digit b ≡ y → nat_eq b 39 ≡ z
    → (if x then word_at (b ∷ bs) (front_length is_word_byte (b ∷ bs)) else (if y then number_at (b ∷ bs) (front_length is_digit (b ∷ bs)) else (if z then quoted_by (closing bs) else symbol_at (b ∷ bs)))) ≡ Some p
    → IsGood (b ∷ bs) p
good_by b bs p true y z e f g h = word_good b bs p e h
good_by b bs p false true z e f g h = number_good b bs p f h
good_by b bs p false false true e f g h = subst (λ c. IsGood (c ∷ bs) p) (sym (is_quote b g)) (text_by bs p (closing bs) refl h)
good_by b bs p false false false e f g h =
    symbol_good b bs p (double_symbol b (slice_index bs 0)) (single_symbol b) (record { no_letter = e; no_digit = f; no_quote = g }) refl refl h

-- what is found at the front is the longest run, and a token
pub good : (bs : List ℕ) (p : TokenKind × ℕ) → token_at bs ≡ Some p → IsGood bs p
good [] p h = absurd (cc)
good (b ∷ bs) p h = good_by b bs p (is_letter b) (is_digit b) (nat_eq b 39) refl refl refl h

yes_le : (a b : ℕ) → a ≤ b → nat_le a b ≡ true
yes_le a b h = grind (arith, nat_tests)

empty : (c : ℕ) (cs : List ℕ) → [] ≡ c ∷ cs → ⊥
empty c cs e = absurd (omega (arith, ap length e))

pub not_empty : (k : TokenKind) → IsToken [] k → ⊥
not_empty k (a_word w l e) = w
not_empty k (a_number d l e) = d
not_empty k (a_text (inside, q, w) e) = empty 39 _ w
not_empty k (a_symbol (one a w s)) = empty a _ w
not_empty k (a_symbol (two a b w s)) = empty a _ w

letter_token : (b : ℕ) (fs : List ℕ) (k : TokenKind) → is_letter b ≡ true → IsToken (b ∷ fs) k → length (b ∷ fs) ≤ LONGEST_NAME
letter_token b fs k h (a_word w l e) = l
letter_token b fs k h (a_number d l e) = absurd (no_digit b h d.0)
letter_token b fs k h (a_text (inside, q, w) e) = absurd (no_quote b h (head b 39 fs _ w))
letter_token b fs k h (a_symbol (one a w s)) = omega (arith, ap length w)
letter_token b fs k h (a_symbol (two a c w s)) = omega (arith, ap length w)

digit_token : (b : ℕ) (fs : List ℕ) (k : TokenKind) → is_digit b ≡ true → IsToken (b ∷ fs) k → value_from 0 (b ∷ fs) ≤ GREATEST_INTEGER
digit_token b fs k h (a_word w l e) = absurd (no_digit b w.0 h)
digit_token b fs k h (a_number d l e) = l
digit_token b fs k h (a_text (inside, q, w) e) = absurd (digit_no_quote b h (head b 39 fs _ w))
digit_token b fs k h (a_symbol (one a w s)) =
    absurd (let f : single_symbol a ≡ None = digit_no_single a (subst (λ z. is_digit z ≡ true) (head b a fs _ w) h) in cc)
digit_token b fs k h (a_symbol (two a c w s)) = absurd (digit_no_double a c k (subst (λ z. is_digit z ≡ true) (head b a fs _ w) h) s)

text_token : (fs : List ℕ) (k : TokenKind) → IsToken (39 ∷ fs) k → IsText (39 ∷ fs)
text_token fs k (a_word w l e) = absurd (let f = w.0 in cc)
text_token fs k (a_number d l e) = absurd (let f = d.0 in cc)
text_token fs k (a_text t e) = t
text_token fs k (a_symbol (one a w s)) =
    absurd (let f : single_symbol 39 ≡ Some k = subst (λ z. single_symbol z ≡ Some k) (sym (head 39 a fs _ w)) s in cc)
text_token fs k (a_symbol (two a c w s)) =
    absurd (let f : double_symbol 39 c ≡ Some k = subst (λ z. double_symbol z c ≡ Some k) (sym (head 39 a fs _ w)) s in cc)

pub symbol_token : (b : ℕ) (fs : List ℕ) (k : TokenKind) → IsOther b → IsToken (b ∷ fs) k → IsSymbol (b ∷ fs) k
symbol_token b fs k o (a_word w l e) = absurd (other_word b o w.0)
symbol_token b fs k o (a_number d l e) = absurd (other_number b o d.0)
symbol_token b fs k o (a_text (inside, q, w) e) = absurd (other_text b o (head b 39 fs _ w))
symbol_token b fs k o (a_symbol s) = s

word_bad : (bs f : List ℕ) (n : ℕ) → f ≡ take n bs → length f ≤ LONGEST_NAME → word_at bs n ≡ None → ⊥
word_bad bs f n e l h =
    let g : nat_le (length (take n bs)) LONGEST_NAME ≡ true = yes_le _ _ (subst (λ z. length z ≤ LONGEST_NAME) e l) in
    let i : word_at bs n ≡ Some (word_kind (take n bs), n) = ap (λ x. with_length n (if x then Some (word_kind (take n bs)) else None)) g in
    absurd (cc)

number_bad : (bs f : List ℕ) (n : ℕ) → f ≡ take n bs → value_from 0 f ≤ GREATEST_INTEGER → number_at bs n ≡ None → ⊥
number_bad bs f n e l h =
    let g : nat_le (value_from 0 (take n bs)) (GREATEST_INTEGER) ≡ true = yes_le _ _ (subst (λ z. value_from 0 z ≤ GREATEST_INTEGER) e l) in
    let i : number_at bs n ≡ Some (kind.Number (value_from 0 (take n bs)), n) = ap (λ x. with_length n (if x then Some (kind.Number (value_from 0 (take n bs))) else None)) g in
    absurd (cc)

doubled_by : (b c : ℕ) (bs : List ℕ) (x : Bool) → nat_eq b 39 ≡ x → (if x then nat_eq c 39 && quotes_doubled bs else quotes_doubled (c ∷ bs)) ≡ true
    → (quotes_doubled bs ≡ true → quotes_doubled (bs ++ 39 ∷ 39 ∷ []) ≡ true) → (quotes_doubled (c ∷ bs) ≡ true → quotes_doubled (c ∷ (bs ++ 39 ∷ 39 ∷ [])) ≡ true)
    → quotes_doubled (b ∷ c ∷ (bs ++ 39 ∷ 39 ∷ [])) ≡ true
doubled_by b c bs true e h f g =
    let d = and_parts (nat_eq c 39) (quotes_doubled bs) h in
    doubled_pair b c (bs ++ 39 ∷ 39 ∷ []) e d.0 (f d.1)
doubled_by b c bs false e h f g = doubled_more b (c ∷ (bs ++ 39 ∷ 39 ∷ [])) e (g h)

-- two quotes more
doubled_twice : (inside : List ℕ) → quotes_doubled inside ≡ true → quotes_doubled (inside ++ 39 ∷ 39 ∷ []) ≡ true
doubled_twice [] h = refl
doubled_twice (b ∷ []) h = doubled_more b (39 ∷ 39 ∷ []) (not-true (nat_eq b 39) h) refl
doubled_twice (b ∷ c ∷ bs) h = doubled_by b c bs (nat_eq b 39) refl h (doubled_twice bs) (doubled_twice (c ∷ bs))

-- a quote that ends no text is before another one
second_by : (b : ℕ) (bs : List ℕ) (x : Bool) → nat_eq b 39 ≡ x → (if x then option_map (λ n. 2 + n) (closing bs) else Some 1) ≡ None → b ≡ 39
second_by b bs true e h = is_quote b e
second_by b bs false e h = absurd (cc)

second_quote : (more : List ℕ) → closing (39 ∷ more) ≡ None → more ≡ 39 ∷ drop 1 more
second_quote [] h = absurd (cc)
second_quote (b ∷ bs) h = ap (λ z. z ∷ bs) (second_by b bs (nat_eq b 39) refl h)

map_empty : (k : ℕ) (o : Option ℕ) → option_map (λ n. k + n) o ≡ None → o ≡ None
map_empty k None h = refl
map_empty k (Some n) h = absurd (cc)

text_bad : (bs fs : List ℕ) (k : TokenKind) → closing bs ≡ None → IsLongestRun (39 ∷ bs) (39 ∷ fs) → IsText (39 ∷ fs) → ⊥
text_bad bs fs k h l (inside, q, w) =
    let f : fs ≡ inside ++ 39 ∷ [] = tail 39 39 fs (inside ++ 39 ∷ []) w in
    let g : bs ≡ inside ++ 39 ∷ l.rest = tail 39 39 bs (fs ++ l.rest) l.whole ∙ ap (λ z. z ++ l.rest) f ∙ append_assoc inside (39 ∷ []) l.rest in
    let i : closing (39 ∷ l.rest) ≡ None = map_empty (length inside) (closing (39 ∷ l.rest)) (sym (closing_inside inside (39 ∷ l.rest) q) ∙ ap closing (sym g) ∙ h) in
    let j : l.rest ≡ 39 ∷ drop 1 l.rest = second_quote l.rest i in
    let m : bs ≡ (inside ++ 39 ∷ 39 ∷ []) ++ drop 1 l.rest = g ∙ ap (λ z. inside ++ 39 ∷ z) j ∙ sym (append_assoc inside (39 ∷ 39 ∷ []) (drop 1 l.rest)) in
    let n = l.longest (39 ∷ (inside ++ 39 ∷ 39 ∷ [])) (drop 1 l.rest) (ap (λ z. 39 ∷ z) m) (open_text (inside ++ 39 ∷ 39 ∷ [], doubled_twice inside q, refl)) in
    absurd (omega (arith, n, ap length f, length-append inside (39 ∷ 39 ∷ []), length-append inside (39 ∷ [])))

quoted_none : (o : Option ℕ) → quoted_by o ≡ None → o ≡ None
quoted_none None h = refl
quoted_none (Some n) h = absurd (cc)

no_symbol : (x y : Option TokenKind) → symbol_by x y ≡ None → (x ≡ None) × (y ≡ None)
no_symbol None None h = (refl, refl)
no_symbol None (Some k) h = absurd (cc)
no_symbol (Some k) y h = absurd (cc)

symbol_bad : (b : ℕ) (bs fs more : List ℕ) (k : TokenKind) → symbol_at (b ∷ bs) ≡ None → bs ≡ fs ++ more → IsSymbol (b ∷ fs) k → ⊥
symbol_bad b bs fs more k h e (one a w s) =
    let f : single_symbol b ≡ Some k = subst (λ z. single_symbol z ≡ Some k) (sym (head b a fs _ w)) s in
    let g : single_symbol b ≡ None = (no_symbol (double_symbol b (slice_index bs 0)) (single_symbol b) h).1 in
    absurd (cc)
symbol_bad b bs fs more k h e (two a c w s) =
    let d : slice_index bs 0 ≡ c = ap (λ z. slice_index z 0) (e ∙ ap (λ z. z ++ more) (tail b a fs (c ∷ []) w)) in
    let f : double_symbol b c ≡ Some k = subst (λ z. double_symbol z c ≡ Some k) (sym (head b a fs (c ∷ []) w)) s in
    let g : double_symbol b (slice_index bs 0) ≡ None = (no_symbol (double_symbol b (slice_index bs 0)) (single_symbol b) h).0 in
    let i : double_symbol b c ≡ None = ap (double_symbol b) (sym d) ∙ g in
    absurd (cc)

bad_by : (b : ℕ) (bs fs : List ℕ) (k : TokenKind) (x y z : Bool) → is_letter b ≡ x → is_digit b ≡ y → nat_eq b 39 ≡ z
    → (if x then word_at (b ∷ bs) (front_length is_word_byte (b ∷ bs)) else (if y then number_at (b ∷ bs) (front_length is_digit (b ∷ bs)) else (if z then quoted_by (closing bs) else symbol_at (b ∷ bs)))) ≡ None
    → IsLongestRun (b ∷ bs) (b ∷ fs) → IsToken (b ∷ fs) k → ⊥
bad_by b bs fs k true y z e f g h l t =
    word_bad (b ∷ bs) (b ∷ fs) _ (same_longest (b ∷ bs) (b ∷ fs) _ l (word_longest b bs e) ∙ sym (word_taken b bs e)) (letter_token b fs k e t) h
bad_by b bs fs k false true z e f g h l t =
    number_bad (b ∷ bs) (b ∷ fs) _ (same_longest (b ∷ bs) (b ∷ fs) _ l (number_longest b bs f) ∙ sym (number_taken b bs f)) (digit_token b fs k f t) h
bad_by b bs fs k false false true e f g h l t =
    let q : b ≡ 39 = is_quote b g in
    let m : IsLongestRun (39 ∷ bs) (39 ∷ fs) = subst (λ c. IsLongestRun (c ∷ bs) (c ∷ fs)) q l in
    text_bad bs fs k (quoted_none (closing bs) h) m (text_token fs k (subst (λ c. IsToken (c ∷ fs) k) q t))
bad_by b bs fs k false false false e f g h l t =
    symbol_bad b bs fs l.rest k h (tail b b bs (fs ++ l.rest) l.whole) (symbol_token b fs k (record { no_letter = e; no_digit = f; no_quote = g }) t)

bad_more : (bs fs : List ℕ) (c : ℕ) (k : TokenKind) → token_at bs ≡ None → IsLongestRun bs (c ∷ fs) → IsToken (c ∷ fs) k → ⊥
bad_more [] fs c k h l t = empty c (fs ++ l.rest) l.whole
bad_more (b ∷ bs) fs c k h l t =
    let e : c ≡ b = sym (head b c bs (fs ++ l.rest) l.whole) in
    bad_by b bs fs k (is_letter b) (is_digit b) (nat_eq b 39) refl refl refl h
    (subst (λ z. IsLongestRun (b ∷ bs) (z ∷ fs)) e l) (subst (λ z. IsToken (z ∷ fs) k) e t)

-- where nothing is found the longest run is no token
pub bad : (bs front : List ℕ) (k : TokenKind) → token_at bs ≡ None → IsLongestRun bs front → IsToken front k → ⊥
bad bs [] k h l t = not_empty k t
bad bs (c ∷ fs) k h l t = bad_more bs fs c k h l t
