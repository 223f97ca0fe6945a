-- The words of a text's tokens can be written: names of the language's form and length, and numbers that are no greater than the greatest.
use Rattle.std.proofs.Common.{◌≡◌, ℕ, ◌≤◌, Bool, true, false, ◌&&◌, ◌||◌, Option, Some, None, List, [], ◌∷◌, ◌++◌, length, option_map, refl, sym, ◌∙◌, ap, subst, arith, nat_le, nat_eq}
use Rattle.std.specs.Prelude.{if◌then◌else◌}
use Rattle.std.specs.List.{list_all}
use Rattle.std.specs.Char.{to_ascii_uppercase}
use Rattle.std.specs.Str.{str_eq_ignore_ascii_case}
use Rattle.std.proofs.lemmas.Bool.{and_parts, le-leb}
use Rattle.std.proofs.lemmas.Bool.Decides.{nat_tests}
use Rattle.std.proofs.lemmas.List.{length-map, map-append}
use Rattle.iv_syntax.specs.declared.limits.TheConstants.{GREATEST_INTEGER, LONGEST_NAME}
use Rattle.iv_lex.specs.declared.kind.TokenKind.{TokenKind}
use Rattle.iv_lex.specs.declared.kind.TokenKind.TheVariants as kind
use Rattle.iv_lex.specs.declared.token.Token.{Token}
use Rattle.iv_lex.specs.Tokens.{is_letter, is_word_byte, value_from, single_symbol, double_symbol, tokens_of}
use Rattle.iv_lex.specs.Words.{Word, name, number, quoted, plain, upper_case, slice, unquoted_text, word_by, word_of, words}
use Rattle.iv_lex.specs.Longest.{IsWord, one, two, IsToken}
use Rattle.iv_lex.specs.Longest.IsToken.{a_word, a_number, a_text, a_symbol}
use Rattle.iv_lex.specs.Reserved.{reserved_words, word_among, word_kind}
use Rattle.iv_lex.specs.IsTokens.{IsTokenOf, IsTokensFrom}
use Rattle.iv_lex.proofs.Sequence.{tokens_found}
use Rattle.iv_resolution.specs.Writable.{is_upper_case, is_name_byte, starts_name, is_name}

-- ---- what can be written

-- the name of a word is a name of the language, and its number is not too great
abbrev pub IsWritten : Word → Type 0
IsWritten (name n) = is_name n ≡ true
IsWritten (number n) = nat_le n GREATEST_INTEGER ≡ true
IsWritten (quoted t) = Unit {0}
IsWritten (plain k) = Unit {0}

abbrev pub Written : List Word → Type 0
Written [] = Unit {0}
Written (w ∷ ws) = IsWritten w × Written ws

pub two_parts : (xs ys : List Word) → Written (xs ++ ys) → Written xs × Written ys
two_parts [] ys w = (tt, w)
two_parts (x ∷ xs) ys (v, w) = let more = two_parts xs ys w in ((v, more.0), more.1)

pub front : (xs ys : List Word) → Written (xs ++ ys) → Written xs
front xs ys w = (two_parts xs ys w).0

pub back : (xs ys : List Word) → Written (xs ++ ys) → Written ys
back xs ys w = (two_parts xs ys w).1

-- ---- the kinds of words and symbols

-- neither a name nor a number
is_fixed : TokenKind → Bool
is_fixed kind.Name = false
is_fixed (kind.Number n) = false
is_fixed _ = true

is_no_number : TokenKind → Bool
is_no_number (kind.Number n) = false
is_no_number _ = true

fixed_or_none : Option TokenKind → Bool
fixed_or_none None = true
fixed_or_none (Some k) = is_fixed k

fixed_by : (x : Bool) (o p : Option TokenKind) → fixed_or_none o ≡ true → fixed_or_none p ≡ true → fixed_or_none (if x then o else p) ≡ true
fixed_by true o p h g = h
fixed_by false o p h g = g

single_fixed : (a : ℕ) → fixed_or_none (single_symbol a) ≡ true
unfolding fixed_or_none is_fixed
single_fixed a =
    fixed_by (nat_eq a 40) _ _ refl (fixed_by (nat_eq a 41) _ _ refl (fixed_by (nat_eq a 44) _ _ refl
    (fixed_by (nat_eq a 59) _ _ refl (fixed_by (nat_eq a 46) _ _ refl (fixed_by (nat_eq a 61) _ _ refl
    (fixed_by (nat_eq a 60) _ _ refl (fixed_by (nat_eq a 62) _ _ refl (fixed_by (nat_eq a 43) _ _ refl
    (fixed_by (nat_eq a 45) _ _ refl (fixed_by (nat_eq a 42) _ _ refl refl))))))))))

double_fixed : (a b : ℕ) → fixed_or_none (double_symbol a b) ≡ true
unfolding fixed_or_none is_fixed
double_fixed a b =
    fixed_by (nat_eq a 60) _ _ (fixed_by (nat_eq b 62) _ _ refl (fixed_by (nat_eq b 61) _ _ refl refl))
    (fixed_by (nat_eq a 62) _ _ (fixed_by (nat_eq b 61) _ _ refl refl) refl)

fixed_some : (o : Option TokenKind) (k : TokenKind) → fixed_or_none o ≡ true → o ≡ Some k → is_fixed k ≡ true
unfolding fixed_or_none
fixed_some o k h e = subst (λ p. fixed_or_none p ≡ true) e h

-- no reserved word is a number
none_number : List (List ℕ × TokenKind) → Bool
none_number [] = true
none_number ((reserved, k) ∷ rest) = is_no_number k && none_number rest

by_word : (x : Bool) (j k : TokenKind) → is_no_number j ≡ true → is_no_number k ≡ true → is_no_number (if x then j else k) ≡ true
by_word true j k h g = h
by_word false j k h g = g

among_no_number : (reserved : List (List ℕ × TokenKind)) (word : List ℕ) → none_number reserved ≡ true → is_no_number (word_among reserved word) ≡ true
unfolding none_number is_no_number
among_no_number [] word h = refl
among_no_number ((spelling, k) ∷ rest) word h =
    let parts = and_parts (is_no_number k) (none_number rest) h in
    by_word (str_eq_ignore_ascii_case word spelling) k (word_among rest word) parts.0 (among_no_number rest word parts.1)

word_no_number : (word : List ℕ) → is_no_number (word_kind word) ≡ true
unfolding word_kind none_number is_no_number
word_no_number word = among_no_number reserved_words word refl

-- ---- tokens that are names and numbers

refute : {A : Type 0} → false ≡ true → A
refute h = absurd (let e : false ≡ true = h in cc)

no_number : {A : Type 0} (n : ℕ) (k : TokenKind) → kind.Number n ≡ k → is_no_number k ≡ true → A
unfolding is_no_number
no_number n k e h = refute (subst (λ j. is_no_number j ≡ true) (sym e) h)

named : (bs : List ℕ) → IsToken bs kind.Name → IsWord bs × (length bs ≤ LONGEST_NAME)
unfolding is_fixed
named bs (a_word w l e) = (w, l)
named bs (a_number d l e) = absurd (let f : kind.Name ≡ kind.Number (value_from 0 bs) = e in cc)
named bs (a_text t e) = absurd (let f : kind.Name ≡ kind.Quoted = e in cc)
named bs (a_symbol (one a w s)) = refute (fixed_some (single_symbol a) kind.Name (single_fixed a) s)
named bs (a_symbol (two a b w s)) = refute (fixed_some (double_symbol a b) kind.Name (double_fixed a b) s)

numbered : (bs : List ℕ) (n : ℕ) → IsToken bs (kind.Number n) → n ≤ GREATEST_INTEGER
unfolding is_fixed
numbered bs n (a_word w l e) = no_number n (word_kind bs) e (word_no_number bs)
numbered bs n (a_number d l e) =
    let f : n ≡ value_from 0 bs = ap (λ k. elim k [ kind.Number m ↦ m | _ ↦ n ]) e in
    subst (λ m. m ≤ GREATEST_INTEGER) (sym f) l
numbered bs n (a_text t e) = absurd (let f : kind.Number n ≡ kind.Quoted = e in cc)
numbered bs n (a_symbol (one a w s)) = refute (fixed_some (single_symbol a) (kind.Number n) (single_fixed a) s)
numbered bs n (a_symbol (two a b w s)) = refute (fixed_some (double_symbol a b) (kind.Number n) (double_fixed a b) s)

-- ---- a word in upper case is a name

letter_raised : (b : ℕ) → is_letter b ≡ true → is_upper_case (to_ascii_uppercase b) ≡ true
letter_raised b h = grind (arith, nat_tests)

byte_raised : (b : ℕ) → is_word_byte b ≡ true → is_name_byte (to_ascii_uppercase b) ≡ true
byte_raised b h = grind (arith, nat_tests)

pub join : (a b : Bool) → a ≡ true → b ≡ true → (a && b) ≡ true
join a b h g = ap (λ x. x && b) h ∙ g

bytes_raised : (bs : List ℕ) → list_all is_word_byte bs ≡ true → list_all is_name_byte (upper_case bs) ≡ true
bytes_raised [] h = refl
bytes_raised (b ∷ bs) h =
    let parts = and_parts (is_word_byte b) (list_all is_word_byte bs) h in
    join (is_name_byte (to_ascii_uppercase b)) _ (byte_raised b parts.0) (bytes_raised bs parts.1)

letter_is_byte : (b : ℕ) → is_upper_case b ≡ true → is_name_byte b ≡ true
letter_is_byte b h = ap (λ x. x || (nat_le 48 b && nat_le b 57)) h

word_is_name : (bs : List ℕ) → IsWord bs → length bs ≤ LONGEST_NAME → is_name (upper_case bs) ≡ true
word_is_name [] w l = absurd w
word_is_name (b ∷ bs) (h, g) l =
    let upper : is_upper_case (to_ascii_uppercase b) ≡ true = letter_raised b h in
    let fits : length (upper_case (b ∷ bs)) ≤ LONGEST_NAME = subst (λ n. n ≤ LONGEST_NAME) (sym (length-map (b ∷ bs) to_ascii_uppercase)) l in
    join (starts_name (upper_case (b ∷ bs))) _ upper
    (join (list_all is_name_byte (upper_case (b ∷ bs))) _
    (join (is_name_byte (to_ascii_uppercase b)) _ (letter_is_byte (to_ascii_uppercase b) upper) (bytes_raised bs g))
    (le-leb (length (upper_case (b ∷ bs))) LONGEST_NAME fits))

-- ---- the words of tokens

-- A name has the characters of its token, if it has any.
cut_name : (x : Bool) (bs : List ℕ) → IsWord bs → length bs ≤ LONGEST_NAME → (texts : Option (List ℕ))
    → IsWritten (word_by kind.Name (option_map upper_case (if x then Some bs else None)) texts)
cut_name true bs w l texts = word_is_name bs w l
cut_name false bs w l texts = tt

cut_text : (names texts : Option (List ℕ)) → IsWritten (word_by kind.Quoted names texts)
cut_text names None = tt
cut_text names (Some t) = tt

by_kind : (x : Bool) (bs : List ℕ) (k : TokenKind) (texts : Option (List ℕ)) → IsToken bs k
    → IsWritten (word_by k (option_map upper_case (if x then Some bs else None)) texts)
by_kind x bs kind.Name texts t = let n = named bs t in cut_name x bs n.0 n.1 texts
by_kind x bs (kind.Number n) texts t = le-leb n GREATEST_INTEGER (numbered bs n t)
by_kind x bs kind.Quoted texts t = cut_text (option_map upper_case (if x then Some bs else None)) texts
by_kind x bs _ texts t = tt

word_written : (text : List ℕ) (t : Token) → IsTokenOf text t → IsWritten (word_of text t)
word_written text t h = by_kind _ (slice text t.start t.end) t.kind (unquoted_text text t) h.token

words_written : (text : List ℕ) (place : ℕ) (ts : List Token) (fault : Option ℕ) → IsTokensFrom text place ts fault → Written (words text ts)
words_written text place [] fault h = tt
words_written text place (t ∷ ts) fault (g, h, more) = (word_written text t h, words_written text t.end ts fault more)

-- the words of the first tokens of a text can be written
pub run_written : (text : List ℕ) (run left : List Token) → (tokens_of text).tokens ≡ run ++ left → Written (words text run)
run_written text run left e =
    front (words text run) (words text left)
    (subst Written (ap (words text) e ∙ map-append (word_of text) run left)
    (words_written text 0 (tokens_of text).tokens (tokens_of text).fault (tokens_found text)))
