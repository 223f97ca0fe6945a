-- The text of words lexes to them.
use Rattle.std.proofs.Common.{◌≡◌, ℕ, suc, ◌+◌, ◌-◌, ◌*◌, ◌%◌, ◌^◌, ◌≤◌, ◌<◌, Bool, true, false, ◌&&◌, Option, Some, None, option_map, List, [], ◌∷◌, ◌++◌, length, drop, take, refl, sym, ◌∙◌, ap, subst, arith, nat_le, nat_eq, length-append, append_assoc, append-nil}
use Rattle.std.specs.Prelude.{if◌then◌else◌, slice_index, codes, flat_map, decimal}
use Rattle.std.specs.List.{list_all}
use Rattle.std.specs.Char.{to_ascii_uppercase}
use Rattle.std.proofs.lemmas.Bool.{and_parts, eqb-true}
use Rattle.std.proofs.lemmas.Bool.Decides.{nat_tests}
use Rattle.std.proofs.lemmas.Grind.{common_steps}
use Rattle.std.proofs.lemmas.Fmt.{decimal_by_steps}
use Rattle.std.proofs.Math.Seq.{drop-append_seam}
use Rattle.iv_syntax.specs.declared.limits.TheConstants.{GREATEST_INTEGER, LONGEST_NAME}
use Rattle.iv_lex.specs.declared.kind.TokenKind.{TokenKind}
use Rattle.iv_lex.specs.declared.kind.TokenKind.TheVariants as kind
use Rattle.iv_lex.specs.Reserved.{word_kind}
use Rattle.iv_lex.specs.Tokens.{is_space, is_letter, is_digit, is_word_byte, opens_comment, gap_by, gap, front_length, value_from, number_kind, short_word, closing, Front, with_length, quoted_by, symbol_at, word_at, number_at, token_at}
use Rattle.iv_lex.specs.Words.{Word, name, number, quoted, plain, single_quotes, upper_case}
use Rattle.iv_lex.proofs.Longest.{front, front_is}
use Rattle.iv_parse_terms.specs.After.{is_plain}
use Rattle.iv_template.specs.Literals.{quote_doubled}
use Rattle.iv_template.proofs.Local.{IsApart, word_inside, number_inside}
use Rattle.iv_template.proofs.Lexing.{word_from, past_gap, Lexes, more}
use Rattle.iv_template.proofs.Found.{inner_is}
use Rattle.iv_write.specs.Names.{is_upper_case, is_name_byte, is_name}
use Rattle.iv_write.specs.Spelling.{kind_text, word_text, IsName, IsWritten}

-- ---- what may follow a word

-- nothing, or a character that goes on no token and begins no comment
abbrev pub Clear : List ℕ → Type 0
Clear [] = Unit {0}
Clear (x ∷ xs) = IsApart x

clear_word : (ds rest : List ℕ) → Clear rest → word_at (ds ++ rest) (front_length is_word_byte (ds ++ rest)) ≡ word_at ds (front is_word_byte ds)
clear_word ds [] p = ap (λ z. word_at z (front_length is_word_byte z)) (append-nil ds) ∙ ap (word_at ds) (front_is is_word_byte ds)
clear_word ds (x ∷ rest) p = word_inside ds x rest p

clear_number : (ds rest : List ℕ) → Clear rest → number_at (ds ++ rest) (front_length is_digit (ds ++ rest)) ≡ number_at ds (front is_digit ds)
clear_number ds [] p = ap (λ z. number_at z (front_length is_digit z)) (append-nil ds) ∙ ap (number_at ds) (front_is is_digit ds)
clear_number ds (x ∷ rest) p = number_inside ds x rest p

-- ---- a token and what follows it

gap_none : (b : ℕ) (cs : List ℕ) → is_space b ≡ false → opens_comment b (slice_index cs 0) ≡ false → gap false (b ∷ cs) ≡ 0
gap_none b cs e f =
    ap (λ z. gap_by (if z then Some false else (if opens_comment b (slice_index cs 0) then Some true else None)) (λ k. gap k cs)) e
    ∙ ap (λ z. gap_by (if z then Some true else None) (λ k. gap k cs)) f

one_token : (ds rest : List ℕ) (t : TokenKind × ℕ) (ws : List Word) (s : Option (List ℕ)) → gap false (ds ++ rest) ≡ 0 → token_at (ds ++ rest) ≡ Some t
    → t.1 ≡ length ds → 0 < length ds → Lexes rest ws s → Lexes (ds ++ rest) (word_from t.0 ds ∷ ws) s
one_token ds rest t ws s g e n m h =
    let d : past_gap (ds ++ rest) ≡ ds ++ rest = ap (λ z. drop z (ds ++ rest)) g in
    let f : gap false (ds ++ rest) + t.1 ≡ length ds = omega (arith, g, n) in
    let i : take t.1 (past_gap (ds ++ rest)) ≡ ds = ap (λ z. take z (past_gap (ds ++ rest))) n ∙ ap (take (length ds)) d ∙ grind (arith, common_steps) in
    more (ds ++ rest) (word_from t.0 ds ∷ ws) s t ws (ap (λ z. word_from t.0 z ∷ ws) (sym i)) (omega (arith, g, m, length-append ds rest)) (ap token_at d ∙ e)
    (subst (λ z. Lexes z ws s) (sym (ap (λ z. drop z (ds ++ rest)) f ∙ drop-append_seam ds rest)) h)

-- ---- names and reserved words

raised_same : (b : ℕ) → is_name_byte b ≡ true → to_ascii_uppercase b ≡ b
raised_same b h = grind (arith, nat_tests)

-- a name is folded already
folded : (n : List ℕ) → list_all is_name_byte n ≡ true → upper_case n ≡ n
folded [] h = refl
folded (b ∷ n) h =
    let two = and_parts (is_name_byte b) (list_all is_name_byte n) h in
    ap (λ z. z ∷ upper_case n) (raised_same b two.0) ∙ ap (λ z. b ∷ z) (folded n two.1)

word_byte : (b : ℕ) → is_name_byte b ≡ true → is_word_byte b ≡ true
word_byte b h = grind (arith, nat_tests)

word_bytes : (n : List ℕ) → list_all is_name_byte n ≡ true → list_all is_word_byte n ≡ true
word_bytes [] h = refl
word_bytes (b ∷ n) h =
    let two = and_parts (is_name_byte b) (list_all is_name_byte n) h in
    ap (λ z. z && list_all is_word_byte n) (word_byte b two.0) ∙ word_bytes n two.1

a_letter : (b : ℕ) → is_upper_case b ≡ true → is_letter b ≡ true
a_letter b h = grind (arith, nat_tests)

no_space : (b : ℕ) → is_upper_case b ≡ true → is_space b ≡ false
no_space b h = grind (arith, nat_tests)

no_minus : (b : ℕ) → is_upper_case b ≡ true → nat_eq b 45 ≡ false
no_minus b h = grind (arith, nat_tests)

front_of_all : (p : ℕ → Bool) (ds : List ℕ) → list_all p ds ≡ true → front p ds ≡ length ds
unfolding front
front_of_all p [] h = refl
front_of_all p (d ∷ ds) h =
    let two = and_parts (p d) (list_all p ds) h in
    ap (λ z. if z then suc (front p ds) else 0) two.0 ∙ ap suc (front_of_all p ds two.1)

take_all : (ds : List ℕ) → take (length ds) ds ≡ ds
take_all ds = grind (arith, common_steps)

yes_le : (a b : ℕ) → a ≤ b → nat_le a b ≡ true
yes_le a b h = grind (arith, nat_tests)

front_word : (n : List ℕ) → list_all is_word_byte n ≡ true → nat_le (length n) LONGEST_NAME ≡ true → word_at n (front is_word_byte n) ≡ Some (word_kind n, length n)
front_word n h l =
    ap (word_at n) (front_of_all is_word_byte n h)
    ∙ ap (λ z. with_length (length n) (short_word z)) (take_all n)
    ∙ ap (λ z. with_length (length n) (if z then Some (word_kind n) else None)) l

-- what is written as a name is, with its kind
word_lexes : (n rest : List ℕ) (k : TokenKind) (ws : List Word) (s : Option (List ℕ)) → is_name n ≡ true → word_kind n ≡ k → Clear rest → Lexes rest ws s
    → Lexes (n ++ rest) (word_from k n ∷ ws) s
word_lexes [] rest k ws s h f c l = absurd (let e : false ≡ true = h in cc)
word_lexes (b ∷ n) rest k ws s h f c l =
    let first = and_parts (is_upper_case b) (list_all is_name_byte (b ∷ n) && nat_le (length (b ∷ n)) LONGEST_NAME) h in
    let parts = and_parts (list_all is_name_byte (b ∷ n)) (nat_le (length (b ∷ n)) LONGEST_NAME) first.1 in
    let g : gap false (b ∷ (n ++ rest)) ≡ 0 = gap_none b (n ++ rest) (no_space b first.0) (ap (λ z. z && nat_eq (slice_index (n ++ rest) 0) 45) (no_minus b first.0)) in
    let t : token_at (b ∷ (n ++ rest)) ≡ Some (k, length (b ∷ n)) =
    ap (λ z. if z then word_at (b ∷ (n ++ rest)) (front_length is_word_byte (b ∷ (n ++ rest))) else (if is_digit b then number_at (b ∷ (n ++ rest)) (front_length is_digit (b ∷ (n ++ rest))) else (if nat_eq b 39 then quoted_by (closing (n ++ rest)) else symbol_at (b ∷ (n ++ rest))))) (a_letter b first.0)
    ∙ clear_word (b ∷ n) rest c
    ∙ front_word (b ∷ n) (word_bytes (b ∷ n) parts.0) parts.1
    ∙ ap (λ z. Some (z, length (b ∷ n))) f in
    one_token (b ∷ n) rest (k, length (b ∷ n)) ws s g t refl (omega arith) l

name_lexes : (n rest : List ℕ) (ws : List Word) (s : Option (List ℕ)) → IsName n → Clear rest → Lexes rest ws s → Lexes (n ++ rest) (name n ∷ ws) s
name_lexes n rest ws s h c l =
    let first = and_parts _ (list_all is_name_byte n && nat_le (length n) LONGEST_NAME) h.formed in
    let parts = and_parts (list_all is_name_byte n) (nat_le (length n) LONGEST_NAME) first.1 in
    subst (λ z. Lexes (n ++ rest) (name z ∷ ws) s) (folded n parts.0) (word_lexes n rest kind.Name ws s h.formed h.free c l)

-- ---- numbers

record Digits (n : ℕ) (ds : List ℕ) : Type 0 where
  digits : list_all is_digit ds ≡ true
  some : 0 < length ds
  value : value_from 0 ds ≡ n

value_push : (n : ℕ) (ds : List ℕ) (d : ℕ) → value_from n (ds ++ d ∷ []) ≡ value_from n ds * 10 + (d - 48)
value_push n [] d = refl
value_push n (c ∷ ds) d = value_push (n * 10 + (c - 48)) ds d

digits_push : (ds : List ℕ) (d : ℕ) → list_all is_digit ds ≡ true → is_digit d ≡ true → list_all is_digit (ds ++ d ∷ []) ≡ true
digits_push [] d h e = ap (λ z. z && true) e
digits_push (c ∷ ds) d h e =
    let two = and_parts (is_digit c) (list_all is_digit ds) h in
    ap (λ z. z && list_all is_digit (ds ++ d ∷ [])) two.0 ∙ digits_push ds d two.1 e

a_digit : (n : ℕ) → n < 10 → is_digit (48 + n) ≡ true
a_digit n h = grind (arith, nat_tests)

digits_of : (n : ℕ) → n < 2 ^ 64 → Digits n (decimal n)
digits_of n h = decimal_by_steps (λ m ds. Digits m ds)
    (λ m l. record { digits = ap (λ z. z && true) (a_digit m l); some = omega arith; value = omega arith })
    (λ m ds l w. record {
      digits = digits_push ds (48 + m % 10) w.digits (a_digit (m % 10) (omega arith));
      some = omega (arith, length-append ds ((48 + m % 10) ∷ []));
      value = value_push 0 ds (48 + m % 10) ∙ omega (arith, w.value);
    })
    n h

second : (u v : Bool) (a b c : Front) → u ≡ false → v ≡ true → (if u then a else (if v then b else c)) ≡ b
second true v a b c e f = absurd (cc)
second false true a b c e f = refl
second false false a b c e f = absurd (cc)

digit_no_letter : (b : ℕ) → is_digit b ≡ true → is_letter b ≡ false
digit_no_letter b h = grind (arith, nat_tests)

digit_no_space : (b : ℕ) → is_digit b ≡ true → is_space b ≡ false
digit_no_space b h = grind (arith, nat_tests)

digit_no_minus : (b : ℕ) → is_digit b ≡ true → nat_eq b 45 ≡ false
digit_no_minus b h = grind (arith, nat_tests)

kind_of_digits : (n : ℕ) (ds : List ℕ) → Digits n ds → n ≤ GREATEST_INTEGER → number_kind ds ≡ Some (kind.Number n)
kind_of_digits n ds w h =
    ap (λ z. if nat_le z GREATEST_INTEGER then Some (kind.Number z) else None) w.value
    ∙ ap (λ z. if z then Some (kind.Number n) else None) (yes_le n GREATEST_INTEGER h)

number_token : (n : ℕ) (ds rest : List ℕ) → Digits n ds → n ≤ GREATEST_INTEGER → Clear rest → token_at (ds ++ rest) ≡ Some (kind.Number n, length ds)
number_token n [] rest w h c = absurd (omega (arith, w.some))
number_token n (b ∷ ds) rest w h c =
    let d : is_digit b ≡ true = (and_parts (is_digit b) (list_all is_digit ds) w.digits).0 in
    second (is_letter b) (is_digit b) _ _ _ (digit_no_letter b d) d
    ∙ clear_number (b ∷ ds) rest c
    ∙ ap (number_at (b ∷ ds)) (front_of_all is_digit (b ∷ ds) w.digits)
    ∙ ap (λ z. with_length (length (b ∷ ds)) (number_kind z)) (take_all (b ∷ ds))
    ∙ ap (with_length (length (b ∷ ds))) (kind_of_digits n (b ∷ ds) w h)

number_gap : (n : ℕ) (ds rest : List ℕ) → Digits n ds → gap false (ds ++ rest) ≡ 0
number_gap n [] rest w = absurd (omega (arith, w.some))
number_gap n (b ∷ ds) rest w =
    let d : is_digit b ≡ true = (and_parts (is_digit b) (list_all is_digit ds) w.digits).0 in
    gap_none b (ds ++ rest) (digit_no_space b d) (ap (λ z. z && nat_eq (slice_index (ds ++ rest) 0) 45) (digit_no_minus b d))

number_lexes : (n : ℕ) (ds rest : List ℕ) (ws : List Word) (s : Option (List ℕ)) → Digits n ds → n ≤ GREATEST_INTEGER → Clear rest → Lexes rest ws s
    → Lexes (ds ++ rest) (number n ∷ ws) s
number_lexes n ds rest ws s w h c l = one_token ds rest (kind.Number n, length ds) ws s (number_gap n ds rest w) (number_token n ds rest w h c) refl w.some l

-- ---- texts

not_quote : (b : ℕ) (cs : List ℕ) → nat_eq b 39 ≡ false → closing (b ∷ cs) ≡ option_map (λ n. 1 + n) (closing cs)
not_quote b [] e = ap (λ x. if x then Some 1 else None) e
not_quote b (c ∷ cs) e = ap (λ x. if x then (if nat_eq c 39 then option_map (λ k. 2 + k) (closing cs) else Some 1) else option_map (λ k. 1 + k) (closing (c ∷ cs))) e

last_quote : (rest : List ℕ) → Clear rest → closing (39 ∷ rest) ≡ Some 1
last_quote [] c = refl
last_quote (x ∷ rest) c = ap (λ z. if z then option_map (λ n. 2 + n) (closing rest) else Some 1) c.no_quote

ends_by : (b : ℕ) (ds rest : List ℕ) (x : Bool) → nat_eq b 39 ≡ x → closing (ds ++ 39 ∷ rest) ≡ Some (length ds + 1)
    → closing (((if x then 39 ∷ 39 ∷ [] else b ∷ []) ++ ds) ++ 39 ∷ rest) ≡ Some (length ((if x then 39 ∷ 39 ∷ [] else b ∷ []) ++ ds) + 1)
ends_by b ds rest true e h = ap (option_map (λ n. 2 + n)) h ∙ ap Some (omega arith)
ends_by b ds rest false e h = not_quote b (ds ++ 39 ∷ rest) e ∙ ap (option_map (λ n. 1 + n)) h ∙ ap Some (omega arith)

-- doubled quotes end no text
doubled_ends : (t rest : List ℕ) → Clear rest → closing (flat_map quote_doubled t ++ 39 ∷ rest) ≡ Some (length (flat_map quote_doubled t) + 1)
doubled_ends [] rest c = last_quote rest c
doubled_ends (b ∷ t) rest c = ends_by b (flat_map quote_doubled t) rest (nat_eq b 39) refl (doubled_ends t rest c)

kept : (b : ℕ) (ds : List ℕ) → nat_eq b 39 ≡ false → single_quotes (b ∷ ds) ≡ b ∷ single_quotes ds
kept b [] e = refl
kept b (c ∷ ds) e = ap (λ x. if x && nat_eq c 39 then 39 ∷ single_quotes ds else b ∷ single_quotes (c ∷ ds)) e

single_by : (b : ℕ) (ds : List ℕ) (x : Bool) → nat_eq b 39 ≡ x → single_quotes ((if x then 39 ∷ 39 ∷ [] else b ∷ []) ++ ds) ≡ b ∷ single_quotes ds
single_by b ds true e = ap (λ z. z ∷ single_quotes ds) (sym (eqb-true b 39 e))
single_by b ds false e = kept b ds e

-- one quote for each two of doubled quotes
single_doubled : (t : List ℕ) → single_quotes (flat_map quote_doubled t) ≡ t
single_doubled [] = refl
single_doubled (b ∷ t) = single_by b (flat_map quote_doubled t) (nat_eq b 39) refl ∙ ap (λ z. b ∷ z) (single_doubled t)

text_lexes : (t rest : List ℕ) (ws : List Word) (s : Option (List ℕ)) → Clear rest → Lexes rest ws s
    → Lexes ((39 ∷ (flat_map quote_doubled t ++ 39 ∷ [])) ++ rest) (quoted t ∷ ws) s
text_lexes t rest ws s k l =
    let ds : List ℕ = flat_map quote_doubled t in
    let c : closing ((ds ++ 39 ∷ []) ++ rest) ≡ Some (length ds + 1) = ap closing (append_assoc ds (39 ∷ []) rest) ∙ doubled_ends t rest k in
    let n : length ds + 1 + 1 ≡ length (39 ∷ (ds ++ 39 ∷ [])) = omega (arith, length-append ds (39 ∷ [])) in
    let w : word_from kind.Quoted (39 ∷ (ds ++ 39 ∷ [])) ≡ quoted t = ap (λ z. quoted (single_quotes z)) (inner_is ds) ∙ ap quoted (single_doubled t) in
    subst (λ z. Lexes ((39 ∷ (ds ++ 39 ∷ [])) ++ rest) (z ∷ ws) s) w
    (one_token (39 ∷ (ds ++ 39 ∷ [])) rest (kind.Quoted, length ds + 1 + 1) ws s refl (ap quoted_by c) n (omega arith) l)

-- ---- symbols

-- no second sign makes a comment of a minus
minus_gap : (rest : List ℕ) → Clear rest → gap false (45 ∷ rest) ≡ 0
minus_gap [] c = refl
minus_gap (x ∷ rest) c = gap_none 45 (x ∷ rest) refl c.no_minus

less_token : (rest : List ℕ) → Clear rest → token_at (60 ∷ rest) ≡ Some (kind.Less, 1)
less_token [] c = refl
less_token (x ∷ rest) c = rw (c.no_greater, c.no_equals)

greater_token : (rest : List ℕ) → Clear rest → token_at (62 ∷ rest) ≡ Some (kind.Greater, 1)
greater_token [] c = refl
greater_token (x ∷ rest) c = rw (c.no_equals)

pub open_lexes : (rest : List ℕ) (ws : List Word) (s : Option (List ℕ)) → Lexes rest ws s → Lexes (40 ∷ rest) (plain kind.LeftParenthesis ∷ ws) s
open_lexes rest ws s l = one_token (40 ∷ []) rest (kind.LeftParenthesis, 1) ws s refl refl refl (omega arith) l

pub period_lexes : (rest : List ℕ) (ws : List Word) (s : Option (List ℕ)) → Lexes rest ws s → Lexes (46 ∷ rest) (plain kind.Period ∷ ws) s
period_lexes rest ws s l = one_token (46 ∷ []) rest (kind.Period, 1) ws s refl refl refl (omega arith) l

pub semicolon_lexes : (rest : List ℕ) (ws : List Word) (s : Option (List ℕ)) → Lexes rest ws s → Lexes (59 ∷ rest) (plain kind.Semicolon ∷ ws) s
semicolon_lexes rest ws s l = one_token (59 ∷ []) rest (kind.Semicolon, 1) ws s refl refl refl (omega arith) l

-- ---- all words, before what may follow any

plain_lexes : (k : TokenKind) (rest : List ℕ) (ws : List Word) (s : Option (List ℕ)) → is_plain k ≡ true → Clear rest → Lexes rest ws s → Lexes (kind_text k ++ rest) (plain k ∷ ws) s
unfolding word_kind
plain_lexes kind.LeftParenthesis rest ws s h c l = open_lexes rest ws s l
plain_lexes kind.Period rest ws s h c l = period_lexes rest ws s l
plain_lexes kind.Semicolon rest ws s h c l = semicolon_lexes rest ws s l
plain_lexes kind.Minus rest ws s h c l = one_token (45 ∷ []) rest (kind.Minus, 1) ws s (minus_gap rest c) refl refl (omega arith) l
plain_lexes kind.Less rest ws s h c l = one_token (60 ∷ []) rest (kind.Less, 1) ws s refl (less_token rest c) refl (omega arith) l
plain_lexes kind.Greater rest ws s h c l = one_token (62 ∷ []) rest (kind.Greater, 1) ws s refl (greater_token rest c) refl (omega arith) l
plain_lexes kind.RightParenthesis rest ws s h c l = one_token (codes ")") rest (kind.RightParenthesis, 1) ws s refl refl refl (omega arith) l
plain_lexes kind.Comma rest ws s h c l = one_token (codes ",") rest (kind.Comma, 1) ws s refl refl refl (omega arith) l
plain_lexes kind.Equals rest ws s h c l = one_token (codes "=") rest (kind.Equals, 1) ws s refl refl refl (omega arith) l
plain_lexes kind.NotEquals rest ws s h c l = one_token (codes "<>") rest (kind.NotEquals, 2) ws s refl refl refl (omega arith) l
plain_lexes kind.LessEquals rest ws s h c l = one_token (codes "<=") rest (kind.LessEquals, 2) ws s refl refl refl (omega arith) l
plain_lexes kind.GreaterEquals rest ws s h c l = one_token (codes ">=") rest (kind.GreaterEquals, 2) ws s refl refl refl (omega arith) l
plain_lexes kind.Plus rest ws s h c l = one_token (codes "+") rest (kind.Plus, 1) ws s refl refl refl (omega arith) l
plain_lexes kind.Asterisk rest ws s h c l = one_token (codes "*") rest (kind.Asterisk, 1) ws s refl refl refl (omega arith) l
plain_lexes kind.Action rest ws s h c l = word_lexes (codes "ACTION") rest kind.Action ws s refl refl c l
plain_lexes kind.Add rest ws s h c l = word_lexes (codes "ADD") rest kind.Add ws s refl refl c l
plain_lexes kind.After rest ws s h c l = word_lexes (codes "AFTER") rest kind.After ws s refl refl c l
plain_lexes kind.All rest ws s h c l = word_lexes (codes "ALL") rest kind.All ws s refl refl c l
plain_lexes kind.Alter rest ws s h c l = word_lexes (codes "ALTER") rest kind.Alter ws s refl refl c l
plain_lexes kind.And rest ws s h c l = word_lexes (codes "AND") rest kind.And ws s refl refl c l
plain_lexes kind.As rest ws s h c l = word_lexes (codes "AS") rest kind.As ws s refl refl c l
plain_lexes kind.Atomic rest ws s h c l = word_lexes (codes "ATOMIC") rest kind.Atomic ws s refl refl c l
plain_lexes kind.Before rest ws s h c l = word_lexes (codes "BEFORE") rest kind.Before ws s refl refl c l
plain_lexes kind.Begin rest ws s h c l = word_lexes (codes "BEGIN") rest kind.Begin ws s refl refl c l
plain_lexes kind.Cascade rest ws s h c l = word_lexes (codes "CASCADE") rest kind.Cascade ws s refl refl c l
plain_lexes kind.Char rest ws s h c l = word_lexes (codes "CHAR") rest kind.Char ws s refl refl c l
plain_lexes kind.Character rest ws s h c l = word_lexes (codes "CHARACTER") rest kind.Character ws s refl refl c l
plain_lexes kind.Check rest ws s h c l = word_lexes (codes "CHECK") rest kind.Check ws s refl refl c l
plain_lexes kind.Commit rest ws s h c l = word_lexes (codes "COMMIT") rest kind.Commit ws s refl refl c l
plain_lexes kind.Constraint rest ws s h c l = word_lexes (codes "CONSTRAINT") rest kind.Constraint ws s refl refl c l
plain_lexes kind.Constraints rest ws s h c l = word_lexes (codes "CONSTRAINTS") rest kind.Constraints ws s refl refl c l
plain_lexes kind.Count rest ws s h c l = word_lexes (codes "COUNT") rest kind.Count ws s refl refl c l
plain_lexes kind.Create rest ws s h c l = word_lexes (codes "CREATE") rest kind.Create ws s refl refl c l
plain_lexes kind.Default rest ws s h c l = word_lexes (codes "DEFAULT") rest kind.Default ws s refl refl c l
plain_lexes kind.Deferrable rest ws s h c l = word_lexes (codes "DEFERRABLE") rest kind.Deferrable ws s refl refl c l
plain_lexes kind.Deferred rest ws s h c l = word_lexes (codes "DEFERRED") rest kind.Deferred ws s refl refl c l
plain_lexes kind.Delete rest ws s h c l = word_lexes (codes "DELETE") rest kind.Delete ws s refl refl c l
plain_lexes kind.Distinct rest ws s h c l = word_lexes (codes "DISTINCT") rest kind.Distinct ws s refl refl c l
plain_lexes kind.Drop rest ws s h c l = word_lexes (codes "DROP") rest kind.Drop ws s refl refl c l
plain_lexes kind.Each rest ws s h c l = word_lexes (codes "EACH") rest kind.Each ws s refl refl c l
plain_lexes kind.End rest ws s h c l = word_lexes (codes "END") rest kind.End ws s refl refl c l
plain_lexes kind.Exists rest ws s h c l = word_lexes (codes "EXISTS") rest kind.Exists ws s refl refl c l
plain_lexes kind.For rest ws s h c l = word_lexes (codes "FOR") rest kind.For ws s refl refl c l
plain_lexes kind.Foreign rest ws s h c l = word_lexes (codes "FOREIGN") rest kind.Foreign ws s refl refl c l
plain_lexes kind.From rest ws s h c l = word_lexes (codes "FROM") rest kind.From ws s refl refl c l
plain_lexes kind.Full rest ws s h c l = word_lexes (codes "FULL") rest kind.Full ws s refl refl c l
plain_lexes kind.Immediate rest ws s h c l = word_lexes (codes "IMMEDIATE") rest kind.Immediate ws s refl refl c l
plain_lexes kind.Initially rest ws s h c l = word_lexes (codes "INITIALLY") rest kind.Initially ws s refl refl c l
plain_lexes kind.Insert rest ws s h c l = word_lexes (codes "INSERT") rest kind.Insert ws s refl refl c l
plain_lexes kind.Int rest ws s h c l = word_lexes (codes "INT") rest kind.Int ws s refl refl c l
plain_lexes kind.Integer rest ws s h c l = word_lexes (codes "INTEGER") rest kind.Integer ws s refl refl c l
plain_lexes kind.Into rest ws s h c l = word_lexes (codes "INTO") rest kind.Into ws s refl refl c l
plain_lexes kind.Is rest ws s h c l = word_lexes (codes "IS") rest kind.Is ws s refl refl c l
plain_lexes kind.Key rest ws s h c l = word_lexes (codes "KEY") rest kind.Key ws s refl refl c l
plain_lexes kind.Match rest ws s h c l = word_lexes (codes "MATCH") rest kind.Match ws s refl refl c l
plain_lexes kind.New rest ws s h c l = word_lexes (codes "NEW") rest kind.New ws s refl refl c l
plain_lexes kind.No rest ws s h c l = word_lexes (codes "NO") rest kind.No ws s refl refl c l
plain_lexes kind.Not rest ws s h c l = word_lexes (codes "NOT") rest kind.Not ws s refl refl c l
plain_lexes kind.Null rest ws s h c l = word_lexes (codes "NULL") rest kind.Null ws s refl refl c l
plain_lexes kind.Nulls rest ws s h c l = word_lexes (codes "NULLS") rest kind.Nulls ws s refl refl c l
plain_lexes kind.Of rest ws s h c l = word_lexes (codes "OF") rest kind.Of ws s refl refl c l
plain_lexes kind.Old rest ws s h c l = word_lexes (codes "OLD") rest kind.Old ws s refl refl c l
plain_lexes kind.On rest ws s h c l = word_lexes (codes "ON") rest kind.On ws s refl refl c l
plain_lexes kind.Or rest ws s h c l = word_lexes (codes "OR") rest kind.Or ws s refl refl c l
plain_lexes kind.Primary rest ws s h c l = word_lexes (codes "PRIMARY") rest kind.Primary ws s refl refl c l
plain_lexes kind.References rest ws s h c l = word_lexes (codes "REFERENCES") rest kind.References ws s refl refl c l
plain_lexes kind.Referencing rest ws s h c l = word_lexes (codes "REFERENCING") rest kind.Referencing ws s refl refl c l
plain_lexes kind.Release rest ws s h c l = word_lexes (codes "RELEASE") rest kind.Release ws s refl refl c l
plain_lexes kind.Restrict rest ws s h c l = word_lexes (codes "RESTRICT") rest kind.Restrict ws s refl refl c l
plain_lexes kind.Rollback rest ws s h c l = word_lexes (codes "ROLLBACK") rest kind.Rollback ws s refl refl c l
plain_lexes kind.Row rest ws s h c l = word_lexes (codes "ROW") rest kind.Row ws s refl refl c l
plain_lexes kind.Savepoint rest ws s h c l = word_lexes (codes "SAVEPOINT") rest kind.Savepoint ws s refl refl c l
plain_lexes kind.Select rest ws s h c l = word_lexes (codes "SELECT") rest kind.Select ws s refl refl c l
plain_lexes kind.Set rest ws s h c l = word_lexes (codes "SET") rest kind.Set ws s refl refl c l
plain_lexes kind.Signal rest ws s h c l = word_lexes (codes "SIGNAL") rest kind.Signal ws s refl refl c l
plain_lexes kind.Simple rest ws s h c l = word_lexes (codes "SIMPLE") rest kind.Simple ws s refl refl c l
plain_lexes kind.Start rest ws s h c l = word_lexes (codes "START") rest kind.Start ws s refl refl c l
plain_lexes kind.Statement rest ws s h c l = word_lexes (codes "STATEMENT") rest kind.Statement ws s refl refl c l
plain_lexes kind.Table rest ws s h c l = word_lexes (codes "TABLE") rest kind.Table ws s refl refl c l
plain_lexes kind.To rest ws s h c l = word_lexes (codes "TO") rest kind.To ws s refl refl c l
plain_lexes kind.Transaction rest ws s h c l = word_lexes (codes "TRANSACTION") rest kind.Transaction ws s refl refl c l
plain_lexes kind.Trigger rest ws s h c l = word_lexes (codes "TRIGGER") rest kind.Trigger ws s refl refl c l
plain_lexes kind.Unique rest ws s h c l = word_lexes (codes "UNIQUE") rest kind.Unique ws s refl refl c l
plain_lexes kind.Update rest ws s h c l = word_lexes (codes "UPDATE") rest kind.Update ws s refl refl c l
plain_lexes kind.Values rest ws s h c l = word_lexes (codes "VALUES") rest kind.Values ws s refl refl c l
plain_lexes kind.Varchar rest ws s h c l = word_lexes (codes "VARCHAR") rest kind.Varchar ws s refl refl c l
plain_lexes kind.Varying rest ws s h c l = word_lexes (codes "VARYING") rest kind.Varying ws s refl refl c l
plain_lexes kind.When rest ws s h c l = word_lexes (codes "WHEN") rest kind.When ws s refl refl c l
plain_lexes kind.Where rest ws s h c l = word_lexes (codes "WHERE") rest kind.Where ws s refl refl c l
plain_lexes kind.Work rest ws s h c l = word_lexes (codes "WORK") rest kind.Work ws s refl refl c l
plain_lexes kind.Name rest ws s h c l = absurd (let e : false ≡ true = h in cc)
plain_lexes (kind.Number n) rest ws s h c l = absurd (let e : false ≡ true = h in cc)
plain_lexes kind.Quoted rest ws s h c l = absurd (let e : false ≡ true = h in cc)

pub clear_lexes : (w : Word) (rest : List ℕ) (ws : List Word) (s : Option (List ℕ)) → IsWritten w → Clear rest → Lexes rest ws s → Lexes (word_text w ++ rest) (w ∷ ws) s
clear_lexes (name n) rest ws s h c l = name_lexes n rest ws s h c l
clear_lexes (number n) rest ws s h c l = number_lexes n (decimal n) rest ws s (digits_of n (omega (arith, h))) h c l
clear_lexes (quoted t) rest ws s h c l = text_lexes t rest ws s c l
clear_lexes (plain k) rest ws s h c l = plain_lexes k rest ws s h c l
