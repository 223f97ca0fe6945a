-- The words of a text can be written: its names are names of the language, and its numbers no greater than the greatest.
use Rattle.std.proofs.Common.{◌≡◌, ℕ, ◌≤◌, Bool, true, false, ◌&&◌, ◌||◌, Option, Some, None, List, [], ◌∷◌, length, refl, sym, ◌∙◌, ap, subst, arith, nat_le, nat_eq, take}
use Rattle.std.specs.Prelude.{if◌then◌else◌, IsUtf8}
use Rattle.std.specs.List.{list_all}
use Rattle.std.specs.Char.{to_ascii_uppercase, to_ascii_lowercase}
use Rattle.std.specs.Str.{bytes_eq, str_eq_ignore_ascii_case, str_to_ascii_lowercase}
use Rattle.std.proofs.lemmas.Str.Ascii.{lowercase-uppercase}
use Rattle.std.proofs.lemmas.Bool.{and_parts, le-leb}
use Rattle.std.proofs.lemmas.Bool.Decides.{nat_tests}
use Rattle.std.proofs.lemmas.List.{length-map}
use Rattle.iv_syntax.specs.declared.limits.TheConstants.{GREATEST_INTEGER, LONGEST_NAME}
use Rattle.iv_lex.specs.declared.kind.TokenKind.{TokenKind}
use Rattle.iv_lex.specs.declared.kind.TokenKind.TheVariants as kind
use Rattle.iv_lex.specs.Tokens.{is_letter, is_word_byte, value_from, single_symbol, double_symbol}
use Rattle.iv_lex.specs.Words.{Word, upper_case}
use Rattle.iv_lex.specs.Longest.{IsWord, one, two, IsToken}
use Rattle.iv_lex.specs.Longest.IsToken.{a_word, a_number, a_text, a_symbol}
use Rattle.iv_lex.specs.Reserved.{reserved_words, word_among, word_kind}
use Rattle.iv_lex.proofs.Longest.{good}
use Rattle.iv_template.specs.Templates.{words_of, fault_of}
use Rattle.iv_template.proofs.Lexing.{word_from, past_gap, Lexes, ended, stopped, more}
use Rattle.iv_template.proofs.Found.{left_from, text_lexes}
use Rattle.iv_write.specs.Names.{is_upper_case, is_name_byte, starts_name, is_name}
use Rattle.iv_write.specs.Spelling.{IsWritten, AreWritten}

-- ---- the kinds of words and symbols

-- neither a name nor a number
is_fixed : TokenKind → Bool
is_fixed kind.Name = false
is_fixed (kind.Number n) = false
is_fixed _ = true

is_no_number : TokenKind → Bool
is_no_number (kind.Number n) = false
is_no_number _ = true

fixed_or_none : Option TokenKind → Bool
fixed_or_none None = true
fixed_or_none (Some k) = is_fixed k

fixed_by : (x : Bool) (o p : Option TokenKind) → fixed_or_none o ≡ true → fixed_or_none p ≡ true → fixed_or_none (if x then o else p) ≡ true
fixed_by true o p h g = h
fixed_by false o p h g = g

single_fixed : (a : ℕ) → fixed_or_none (single_symbol a) ≡ true
unfolding fixed_or_none is_fixed
single_fixed a =
    fixed_by (nat_eq a 40) _ _ refl (fixed_by (nat_eq a 41) _ _ refl (fixed_by (nat_eq a 44) _ _ refl
    (fixed_by (nat_eq a 59) _ _ refl (fixed_by (nat_eq a 46) _ _ refl (fixed_by (nat_eq a 61) _ _ refl
    (fixed_by (nat_eq a 60) _ _ refl (fixed_by (nat_eq a 62) _ _ refl (fixed_by (nat_eq a 43) _ _ refl
    (fixed_by (nat_eq a 45) _ _ refl (fixed_by (nat_eq a 42) _ _ refl refl))))))))))

double_fixed : (a b : ℕ) → fixed_or_none (double_symbol a b) ≡ true
unfolding fixed_or_none is_fixed
double_fixed a b =
    fixed_by (nat_eq a 60) _ _ (fixed_by (nat_eq b 62) _ _ refl (fixed_by (nat_eq b 61) _ _ refl refl))
    (fixed_by (nat_eq a 62) _ _ (fixed_by (nat_eq b 61) _ _ refl refl) refl)

fixed_some : (o : Option TokenKind) (k : TokenKind) → fixed_or_none o ≡ true → o ≡ Some k → is_fixed k ≡ true
unfolding fixed_or_none
fixed_some o k h e = subst (λ p. fixed_or_none p ≡ true) e h

-- no reserved word is a number
none_number : List (List ℕ × TokenKind) → Bool
none_number [] = true
none_number ((reserved, k) ∷ rest) = is_no_number k && none_number rest

by_word : (x : Bool) (j k : TokenKind) → is_no_number j ≡ true → is_no_number k ≡ true → is_no_number (if x then j else k) ≡ true
by_word true j k h g = h
by_word false j k h g = g

among_no_number : (reserved : List (List ℕ × TokenKind)) (word : List ℕ) → none_number reserved ≡ true → is_no_number (word_among reserved word) ≡ true
unfolding none_number is_no_number
among_no_number [] word h = refl
among_no_number ((spelling, k) ∷ rest) word h =
    let parts = and_parts (is_no_number k) (none_number rest) h in
    by_word (str_eq_ignore_ascii_case word spelling) k (word_among rest word) parts.0 (among_no_number rest word parts.1)

word_no_number : (word : List ℕ) → is_no_number (word_kind word) ≡ true
unfolding word_kind none_number is_no_number
word_no_number word = among_no_number reserved_words word refl

-- ---- tokens that are names and numbers

refute : {A : Type 0} → false ≡ true → A
refute h = absurd (let e : false ≡ true = h in cc)

no_number : {A : Type 0} (n : ℕ) (k : TokenKind) → kind.Number n ≡ k → is_no_number k ≡ true → A
unfolding is_no_number
no_number n k e h = refute (subst (λ j. is_no_number j ≡ true) (sym e) h)

named : (bs : List ℕ) → IsToken bs kind.Name → IsWord bs × (length bs ≤ LONGEST_NAME) × (kind.Name ≡ word_kind bs)
unfolding is_fixed
named bs (a_word w l e) = (w, l, e)
named bs (a_number d l e) = absurd (let f : kind.Name ≡ kind.Number (value_from 0 bs) = e in cc)
named bs (a_text t e) = absurd (let f : kind.Name ≡ kind.Quoted = e in cc)
named bs (a_symbol (one a w s)) = refute (fixed_some (single_symbol a) kind.Name (single_fixed a) s)
named bs (a_symbol (two a b w s)) = refute (fixed_some (double_symbol a b) kind.Name (double_fixed a b) s)

numbered : (bs : List ℕ) (n : ℕ) → IsToken bs (kind.Number n) → n ≤ GREATEST_INTEGER
unfolding is_fixed
numbered bs n (a_word w l e) = no_number n (word_kind bs) e (word_no_number bs)
numbered bs n (a_number d l e) =
    let f : n ≡ value_from 0 bs = ap (λ k. elim k [ kind.Number m ↦ m | _ ↦ n ]) e in
    subst (λ m. m ≤ GREATEST_INTEGER) (sym f) l
numbered bs n (a_text t e) = absurd (let f : kind.Number n ≡ kind.Quoted = e in cc)
numbered bs n (a_symbol (one a w s)) = refute (fixed_some (single_symbol a) (kind.Number n) (single_fixed a) s)
numbered bs n (a_symbol (two a b w s)) = refute (fixed_some (double_symbol a b) (kind.Number n) (double_fixed a b) s)

-- ---- a word in upper case is a name

letter_raised : (b : ℕ) → is_letter b ≡ true → is_upper_case (to_ascii_uppercase b) ≡ true
letter_raised b h = grind (arith, nat_tests)

byte_raised : (b : ℕ) → is_word_byte b ≡ true → is_name_byte (to_ascii_uppercase b) ≡ true
byte_raised b h = grind (arith, nat_tests)

join : (a b : Bool) → a ≡ true → b ≡ true → (a && b) ≡ true
join a b h g = ap (λ x. x && b) h ∙ g

bytes_raised : (bs : List ℕ) → list_all is_word_byte bs ≡ true → list_all is_name_byte (upper_case bs) ≡ true
bytes_raised [] h = refl
bytes_raised (b ∷ bs) h =
    let parts = and_parts (is_word_byte b) (list_all is_word_byte bs) h in
    join (is_name_byte (to_ascii_uppercase b)) _ (byte_raised b parts.0) (bytes_raised bs parts.1)

letter_is_byte : (b : ℕ) → is_upper_case b ≡ true → is_name_byte b ≡ true
letter_is_byte b h = ap (λ x. x || (nat_le 48 b && nat_le b 57)) h

word_is_name : (bs : List ℕ) → IsWord bs → length bs ≤ LONGEST_NAME → is_name (upper_case bs) ≡ true
word_is_name [] w l = absurd w
word_is_name (b ∷ bs) (h, g) l =
    let upper : is_upper_case (to_ascii_uppercase b) ≡ true = letter_raised b h in
    let fits : length (upper_case (b ∷ bs)) ≤ LONGEST_NAME = subst (λ n. n ≤ LONGEST_NAME) (sym (length-map (b ∷ bs) to_ascii_uppercase)) l in
    join (starts_name (upper_case (b ∷ bs))) _ upper
    (join (list_all is_name_byte (upper_case (b ∷ bs))) _
    (join (is_name_byte (to_ascii_uppercase b)) _ (letter_is_byte (to_ascii_uppercase b) upper) (bytes_raised bs g))
    (le-leb (length (upper_case (b ∷ bs))) LONGEST_NAME fits))

-- ---- a word in upper case is what it is in lower case

lowered : (w : List ℕ) → str_to_ascii_lowercase (upper_case w) ≡ str_to_ascii_lowercase w
lowered [] = refl
lowered (b ∷ w) = ap (λ z. z ∷ str_to_ascii_lowercase (upper_case w)) (lowercase-uppercase b) ∙ ap (λ z. to_ascii_lowercase b ∷ z) (lowered w)

same_word : (w r : List ℕ) → str_eq_ignore_ascii_case (upper_case w) r ≡ str_eq_ignore_ascii_case w r
same_word w r = ap (λ z. bytes_eq z (str_to_ascii_lowercase r)) (lowered w)

among_raised : (rows : List (List ℕ × TokenKind)) (w : List ℕ) → word_among rows (upper_case w) ≡ word_among rows w
among_raised [] w = refl
among_raised ((r, k) ∷ rows) w =
    ap (λ z. if z then k else word_among rows (upper_case w)) (same_word w r)
    ∙ ap (λ z. if str_eq_ignore_ascii_case w r then k else z) (among_raised rows w)

kind_raised : (w : List ℕ) → word_kind (upper_case w) ≡ word_kind w
unfolding word_kind
kind_raised w = among_raised reserved_words w

-- ---- the words of a text

token_written : (bs : List ℕ) (k : TokenKind) → IsToken bs k → IsWritten (word_from k bs)
token_written bs kind.Name t =
    let n = named bs t in record { formed = word_is_name bs n.0 n.1; free = kind_raised bs ∙ sym n.2 }
token_written bs (kind.Number n) t = numbered bs n t
token_written bs kind.Quoted t = tt {0}
token_written bs _ t = refl

lexed_written : (bs : List ℕ) (ws : List Word) (s : Option (List ℕ)) → Lexes bs ws s → AreWritten ws
lexed_written bs ws s (ended _ _ _ w e l) = subst AreWritten (sym w) (tt {0})
lexed_written bs ws s (stopped _ _ _ w e l t) = subst AreWritten (sym w) (tt {0})
lexed_written bs ws s (more _ _ _ t vs w l e n) =
    subst AreWritten (sym w) (token_written (take t.1 (past_gap bs)) t.0 (good (past_gap bs) t e).1, lexed_written _ vs s n)

pub text_written : (text : List ℕ) → IsUtf8 text → AreWritten (words_of text)
text_written text u = lexed_written text (words_of text) (left_from text (fault_of text)) (text_lexes text u)
