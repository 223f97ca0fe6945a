-- A literal before a space lexes to its words.
use Rattle.std.proofs.Common.{◌≡◌, ℕ, suc, ◌+◌, ◌-◌, ◌*◌, ◌%◌, ◌^◌, ◌≤◌, ◌<◌, Bool, true, false, ◌&&◌, Option, Some, None, option_map, List, [], ◌∷◌, ◌++◌, length, drop, take, refl, sym, ◌∙◌, ap, subst, arith, nat_le, nat_eq, length-append, append_assoc}
use Rattle.std.specs.Prelude.{if◌then◌else◌, slice_index, nat_lt, pos, negsuc, codes, flat_map, decimal}
use Rattle.std.specs.List.{list_all}
use Rattle.std.proofs.lemmas.Bool.{and_parts, eqb-true}
use Rattle.std.proofs.lemmas.Bool.Decides.{nat_tests}
use Rattle.std.proofs.lemmas.Grind.{common_steps}
use Rattle.std.proofs.lemmas.Fmt.{decimal_by_steps}
use Rattle.iv_value.specs.declared.value.Value.{Value}
use Rattle.iv_value.specs.declared.value.Value.TheVariants as value
use Rattle.iv_lex.specs.declared.kind.TokenKind.{TokenKind}
use Rattle.iv_lex.specs.declared.kind.TokenKind.TheVariants as kind
use Rattle.iv_syntax.specs.declared.limits.TheConstants.{GREATEST_INTEGER}
use Rattle.iv_lex.specs.Reserved.{word_kind}
use Rattle.iv_lex.specs.Tokens.{is_space, is_letter, is_digit, opens_comment, gap_by, gap, value_from, number_kind, closing, Front, with_length, quoted_by, number_at, token_at}
use Rattle.iv_lex.proofs.Longest.{front}
use Rattle.iv_lex.specs.Words.{Word, number, quoted, plain, single_quotes}
use Rattle.iv_template.specs.Templates.{literal, least}
use Rattle.iv_template.specs.Literals.{quote_doubled, literal_text, IsSmall}
use Rattle.iv_template.proofs.Local.{apart_space, word_inside, number_inside}
use Rattle.iv_template.proofs.Lexing.{word_from, Lexes, more, after_space, one_word}
use Rattle.iv_template.proofs.Found.{inner_is}

gap_none : (b : ℕ) (cs : List ℕ) → is_space b ≡ false → opens_comment b (slice_index cs 0) ≡ false → gap false (b ∷ cs) ≡ 0
gap_none b cs e f =
    ap (λ z. gap_by (if z then Some false else (if opens_comment b (slice_index cs 0) then Some true else None)) (λ k. gap k cs)) e
    ∙ ap (λ z. gap_by (if z then Some true else None) (λ k. gap k cs)) f

-- digits that write a number
record Writes (n : ℕ) (ds : List ℕ) : Type 0 where
  digits : list_all is_digit ds ≡ true
  some : 0 < length ds
  value : value_from 0 ds ≡ n

value_push : (n : ℕ) (ds : List ℕ) (d : ℕ) → value_from n (ds ++ d ∷ []) ≡ value_from n ds * 10 + (d - 48)
value_push n [] d = refl
value_push n (c ∷ ds) d = value_push (n * 10 + (c - 48)) ds d

digits_push : (ds : List ℕ) (d : ℕ) → list_all is_digit ds ≡ true → is_digit d ≡ true → list_all is_digit (ds ++ d ∷ []) ≡ true
digits_push [] d h e = ap (λ z. z && true) e
digits_push (c ∷ ds) d h e =
    let two = and_parts (is_digit c) (list_all is_digit ds) h in
    ap (λ z. z && list_all is_digit (ds ++ d ∷ [])) two.0 ∙ digits_push ds d two.1 e

a_digit : (n : ℕ) → n < 10 → is_digit (48 + n) ≡ true
a_digit n h = grind (arith, nat_tests)

writes : (n : ℕ) → n < 2 ^ 64 → Writes n (decimal n)
writes n h = decimal_by_steps (λ m ds. Writes m ds)
    (λ m l. record { digits = ap (λ z. z && true) (a_digit m l); some = omega arith; value = omega arith })
    (λ m ds l w. record {
      digits = digits_push ds (48 + m % 10) w.digits (a_digit (m % 10) (omega arith));
      some = omega (arith, length-append ds ((48 + m % 10) ∷ []));
      value = value_push 0 ds (48 + m % 10) ∙ omega (arith, w.value);
    })
    n h

front_of_all : (p : ℕ → Bool) (ds : List ℕ) → list_all p ds ≡ true → front p ds ≡ length ds
unfolding front
front_of_all p [] h = refl
front_of_all p (d ∷ ds) h =
    let two = and_parts (p d) (list_all p ds) h in
    ap (λ z. if z then suc (front p ds) else 0) two.0 ∙ ap suc (front_of_all p ds two.1)

take_all : (ds : List ℕ) → take (length ds) ds ≡ ds
take_all ds = grind (arith, common_steps)

yes_le : (a b : ℕ) → a ≤ b → nat_le a b ≡ true
yes_le a b h = grind (arith, nat_tests)

second : (u v : Bool) (a b c : Front) → u ≡ false → v ≡ true → (if u then a else (if v then b else c)) ≡ b
second true v a b c e f = absurd (cc)
second false true a b c e f = refl
second false false a b c e f = absurd (cc)

digit_no_letter : (b : ℕ) → is_digit b ≡ true → is_letter b ≡ false
digit_no_letter b h = grind (arith, nat_tests)

digit_no_space : (b : ℕ) → is_digit b ≡ true → is_space b ≡ false
digit_no_space b h = grind (arith, nat_tests)

digit_no_minus : (b : ℕ) → is_digit b ≡ true → nat_eq b 45 ≡ false
digit_no_minus b h = grind (arith, nat_tests)

kind_of_digits : (n : ℕ) (ds : List ℕ) → Writes n ds → n ≤ GREATEST_INTEGER → number_kind ds ≡ Some (kind.Number n)
kind_of_digits n ds w h =
    ap (λ z. if nat_le z GREATEST_INTEGER then Some (kind.Number z) else None) w.value
    ∙ ap (λ z. if z then Some (kind.Number n) else None) (yes_le n GREATEST_INTEGER h)

number_token : (n : ℕ) (ds other : List ℕ) → Writes n ds → n ≤ GREATEST_INTEGER → token_at (ds ++ 32 ∷ other) ≡ Some (kind.Number n, length ds)
number_token n [] other w h = absurd (omega (arith, w.some))
number_token n (b ∷ ds) other w h =
    let d : is_digit b ≡ true = (and_parts (is_digit b) (list_all is_digit ds) w.digits).0 in
    second (is_letter b) (is_digit b) _ _ _ (digit_no_letter b d) d
    ∙ number_inside (b ∷ ds) 32 other apart_space
    ∙ ap (number_at (b ∷ ds)) (front_of_all is_digit (b ∷ ds) w.digits)
    ∙ ap (λ z. with_length (length (b ∷ ds)) (number_kind z)) (take_all (b ∷ ds))
    ∙ ap (with_length (length (b ∷ ds))) (kind_of_digits n (b ∷ ds) w h)

number_gap : (n : ℕ) (ds other : List ℕ) → Writes n ds → gap false (ds ++ other) ≡ 0
number_gap n [] other w = absurd (omega (arith, w.some))
number_gap n (b ∷ ds) other w =
    let d : is_digit b ≡ true = (and_parts (is_digit b) (list_all is_digit ds) w.digits).0 in
    gap_none b (ds ++ other) (digit_no_space b d) (ap (λ z. z && nat_eq (slice_index (ds ++ other) 0) 45) (digit_no_minus b d))

-- a number
number_lexes : (n : ℕ) (ds other : List ℕ) (ws : List Word) (s : Option (List ℕ)) → Writes n ds → n ≤ GREATEST_INTEGER → Lexes (32 ∷ other) ws s
    → Lexes (ds ++ 32 ∷ other) (number n ∷ ws) s
number_lexes n ds other ws s w h l =
    one_word ds other (kind.Number n, length ds) ws s (number_gap n ds (32 ∷ other) w) (number_token n ds other w h) refl l

no_comment : (n : ℕ) (ds other : List ℕ) → Writes n ds → opens_comment 45 (slice_index (ds ++ other) 0) ≡ false
no_comment n [] other w = absurd (omega (arith, w.some))
no_comment n (b ∷ ds) other w = digit_no_minus b (and_parts (is_digit b) (list_all is_digit ds) w.digits).0

-- a minus sign before what begins with no other
minus_lexes : (bs : List ℕ) (ws : List Word) (s : Option (List ℕ)) → opens_comment 45 (slice_index bs 0) ≡ false → Lexes bs ws s
    → Lexes (45 ∷ bs) (plain kind.Minus ∷ ws) s
minus_lexes bs ws s c l =
    let g : gap false (45 ∷ bs) ≡ 0 = gap_none 45 bs refl c in
    more (45 ∷ bs) (plain kind.Minus ∷ ws) s (kind.Minus, 1) ws refl (omega (arith, g)) (ap (λ z. token_at (drop z (45 ∷ bs))) g)
    (subst (λ z. Lexes (drop (z + 1) (45 ∷ bs)) ws s) (sym g) l)

-- a character that is a token alone
symbol_lexes : (b : ℕ) (k : TokenKind) (other : List ℕ) (ws : List Word) (s : Option (List ℕ)) → gap false (b ∷ 32 ∷ other) ≡ 0 → token_at (b ∷ 32 ∷ other) ≡ Some (k, 1)
    → word_from k (b ∷ []) ≡ plain k → Lexes (32 ∷ other) ws s → Lexes (b ∷ 32 ∷ other) (plain k ∷ ws) s
symbol_lexes b k other ws s g e w l =
    subst (λ z. Lexes (b ∷ 32 ∷ other) (z ∷ ws) s) w (one_word (b ∷ []) other (k, 1) ws s g e refl l)

null_token : (other : List ℕ) → token_at (codes "NULL" ++ 32 ∷ other) ≡ Some (kind.Null, 4)
unfolding word_kind front
null_token other = word_inside (codes "NULL") 32 other apart_space

null_lexes : (other : List ℕ) (ws : List Word) (s : Option (List ℕ)) → Lexes (32 ∷ other) ws s → Lexes (codes "NULL" ++ 32 ∷ other) (plain kind.Null ∷ ws) s
null_lexes other ws s l = one_word (codes "NULL") other (kind.Null, 4) ws s refl (null_token other) refl l

greatest : List ℕ
greatest = codes "9223372036854775807"

greatest_writes : Writes GREATEST_INTEGER greatest
unfolding greatest
greatest_writes = record { digits = refl; some = omega arith; value = refl }

one_writes : Writes 1 (49 ∷ [])
one_writes = record { digits = refl; some = omega arith; value = refl }

least_lexes : (other : List ℕ) (ws : List Word) (s : Option (List ℕ)) → Lexes (32 ∷ other) ws s
    → Lexes (codes "( - 9223372036854775807 - 1 )" ++ 32 ∷ other) (least ++ ws) s
unfolding greatest
least_lexes other ws s l =
    symbol_lexes 40 kind.LeftParenthesis _ _ s refl refl refl (after_space _ _ s
    (symbol_lexes 45 kind.Minus _ _ s refl refl refl (after_space _ _ s
    (number_lexes GREATEST_INTEGER greatest _ _ s greatest_writes (omega arith) (after_space _ _ s
    (symbol_lexes 45 kind.Minus _ _ s refl refl refl (after_space _ _ s
    (number_lexes 1 (49 ∷ []) _ _ s one_writes (omega arith) (after_space _ _ s
    (symbol_lexes 41 kind.RightParenthesis other ws s refl refl refl l))))))))))

not_quote : (b : ℕ) (cs : List ℕ) → nat_eq b 39 ≡ false → closing (b ∷ cs) ≡ option_map (λ n. 1 + n) (closing cs)
not_quote b [] e = ap (λ x. if x then Some 1 else None) e
not_quote b (c ∷ cs) e = ap (λ x. if x then (if nat_eq c 39 then option_map (λ k. 2 + k) (closing cs) else Some 1) else option_map (λ k. 1 + k) (closing (c ∷ cs))) e

ends_by : (b : ℕ) (ds other : List ℕ) (x : Bool) → nat_eq b 39 ≡ x → closing (ds ++ 39 ∷ 32 ∷ other) ≡ Some (length ds + 1)
    → closing (((if x then 39 ∷ 39 ∷ [] else b ∷ []) ++ ds) ++ 39 ∷ 32 ∷ other) ≡ Some (length ((if x then 39 ∷ 39 ∷ [] else b ∷ []) ++ ds) + 1)
ends_by b ds other true e h = ap (option_map (λ n. 2 + n)) h ∙ ap Some (omega arith)
ends_by b ds other false e h = not_quote b (ds ++ 39 ∷ 32 ∷ other) e ∙ ap (option_map (λ n. 1 + n)) h ∙ ap Some (omega arith)

-- doubled quotes end no text
doubled_ends : (t other : List ℕ) → closing (flat_map quote_doubled t ++ 39 ∷ 32 ∷ other) ≡ Some (length (flat_map quote_doubled t) + 1)
doubled_ends [] other = refl
doubled_ends (b ∷ t) other = ends_by b (flat_map quote_doubled t) other (nat_eq b 39) refl (doubled_ends t other)

kept : (b : ℕ) (ds : List ℕ) → nat_eq b 39 ≡ false → single_quotes (b ∷ ds) ≡ b ∷ single_quotes ds
kept b [] e = refl
kept b (c ∷ ds) e = ap (λ x. if x && nat_eq c 39 then 39 ∷ single_quotes ds else b ∷ single_quotes (c ∷ ds)) e

single_by : (b : ℕ) (ds : List ℕ) (x : Bool) → nat_eq b 39 ≡ x → single_quotes ((if x then 39 ∷ 39 ∷ [] else b ∷ []) ++ ds) ≡ b ∷ single_quotes ds
single_by b ds true e = ap (λ z. z ∷ single_quotes ds) (sym (eqb-true b 39 e))
single_by b ds false e = kept b ds e

-- one quote for each two of doubled quotes
single_doubled : (t : List ℕ) → single_quotes (flat_map quote_doubled t) ≡ t
single_doubled [] = refl
single_doubled (b ∷ t) = single_by b (flat_map quote_doubled t) (nat_eq b 39) refl ∙ ap (λ z. b ∷ z) (single_doubled t)

text_lexes : (t other : List ℕ) (ws : List Word) (s : Option (List ℕ)) → Lexes (32 ∷ other) ws s
    → Lexes ((39 ∷ (flat_map quote_doubled t ++ 39 ∷ [])) ++ 32 ∷ other) (quoted t ∷ ws) s
text_lexes t other ws s l =
    let ds : List ℕ = flat_map quote_doubled t in
    let c : closing ((ds ++ 39 ∷ []) ++ 32 ∷ other) ≡ Some (length ds + 1) = ap closing (append_assoc ds (39 ∷ []) (32 ∷ other)) ∙ doubled_ends t other in
    let n : length ds + 1 + 1 ≡ length (39 ∷ (ds ++ 39 ∷ [])) = omega (arith, length-append ds (39 ∷ [])) in
    let w : word_from kind.Quoted (39 ∷ (ds ++ 39 ∷ [])) ≡ quoted t = ap (λ z. quoted (single_quotes z)) (inner_is ds) ∙ ap quoted (single_doubled t) in
    subst (λ z. Lexes ((39 ∷ (ds ++ 39 ∷ [])) ++ 32 ∷ other) (z ∷ ws) s) w
    (one_word (39 ∷ (ds ++ 39 ∷ [])) other (kind.Quoted, length ds + 1 + 1) ws s refl (ap quoted_by c) n l)

negative_lexes : (n : ℕ) (other : List ℕ) (ws : List Word) (s : Option (List ℕ)) (x : Bool) → nat_lt n GREATEST_INTEGER ≡ x → n < 2 ^ 63 → Lexes (32 ∷ other) ws s
    → Lexes ((if x then 40 ∷ 32 ∷ 45 ∷ (decimal (suc n) ++ 32 ∷ 41 ∷ []) else codes "( - 9223372036854775807 - 1 )") ++ 32 ∷ other)
    ((if x then plain kind.LeftParenthesis ∷ plain kind.Minus ∷ number (suc n) ∷ plain kind.RightParenthesis ∷ [] else least) ++ ws) s
negative_lexes n other ws s true e h l =
    let m : n < GREATEST_INTEGER = grind (arith, nat_tests) in
    let ds : List ℕ = decimal (suc n) in
    let w : Writes (suc n) ds = writes (suc n) (omega (arith, h)) in
    let us : List Word = number (suc n) ∷ plain kind.RightParenthesis ∷ ws in
    let inner : Lexes (ds ++ 32 ∷ 41 ∷ 32 ∷ other) us s =
    number_lexes (suc n) ds (41 ∷ 32 ∷ other) (plain kind.RightParenthesis ∷ ws) s w (omega (arith, m))
    (after_space (41 ∷ 32 ∷ other) (plain kind.RightParenthesis ∷ ws) s (symbol_lexes 41 kind.RightParenthesis other ws s refl refl refl l)) in
    let signed : Lexes (45 ∷ ((ds ++ 32 ∷ 41 ∷ []) ++ 32 ∷ other)) (plain kind.Minus ∷ us) s =
    subst (λ z. Lexes (45 ∷ z) (plain kind.Minus ∷ us) s) (sym (append_assoc ds (32 ∷ 41 ∷ []) (32 ∷ other)))
    (minus_lexes (ds ++ 32 ∷ 41 ∷ 32 ∷ other) us s (no_comment (suc n) ds (32 ∷ 41 ∷ 32 ∷ other) w) inner) in
    symbol_lexes 40 kind.LeftParenthesis (45 ∷ ((ds ++ 32 ∷ 41 ∷ []) ++ 32 ∷ other)) (plain kind.Minus ∷ us) s refl refl refl
    (after_space (45 ∷ ((ds ++ 32 ∷ 41 ∷ []) ++ 32 ∷ other)) (plain kind.Minus ∷ us) s signed)
negative_lexes n other ws s false e h l = least_lexes other ws s l

-- the literal of a value lexes to its words
pub literal_lexes : (v : Value) (other : List ℕ) (ws : List Word) (s : Option (List ℕ)) → IsSmall v → Lexes (32 ∷ other) ws s
    → Lexes (literal_text v ++ 32 ∷ other) (literal v ++ ws) s
literal_lexes value.Null other ws s h l = null_lexes other ws s l
literal_lexes (value.Int (pos n)) other ws s h l = number_lexes n (decimal n) other ws s (writes n (omega (arith, h))) (omega (arith, h)) l
literal_lexes (value.Int (negsuc n)) other ws s h l = negative_lexes n other ws s (nat_lt n GREATEST_INTEGER) refl h l
literal_lexes (value.Text t) other ws s h l = text_lexes t other ws s l
