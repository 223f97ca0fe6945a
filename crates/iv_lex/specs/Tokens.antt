-- Tokens: the longest first.
use Rattle.std.specs.Prelude.{ℕ, zero, suc, ◌+◌, ◌*◌, ◌-◌, Bool, true, false, not, ◌&&◌, ◌||◌, if◌then◌else◌, nat_le, nat_eq, Option, Some, None, option_map, unwrap_or, List, [], ◌∷◌, length, take, drop, position, slice_index}
use Rattle.iv_lex.specs.declared.kind.TokenKind.{TokenKind}
use Rattle.iv_lex.specs.declared.kind.TokenKind.TheVariants as kind
use Rattle.iv_lex.specs.declared.token.Token.{Token}
use Rattle.iv_lex.specs.declared.lexer.Lexed.{Lexed}
use Rattle.iv_syntax.specs.declared.limits.TheConstants.{LONGEST_NAME, GREATEST_INTEGER}
use Rattle.iv_lex.specs.Reserved.{word_kind}

-- space, tab, CR and LF
abbrev pub is_space : ℕ → Bool
is_space b = nat_eq b 32 || nat_eq b 9 || nat_eq b 10 || nat_eq b 13

abbrev pub is_digit : ℕ → Bool
is_digit b = nat_le 48 b && nat_le b 57

-- a letter of ASCII or an underscore
abbrev pub is_letter : ℕ → Bool
is_letter b = (nat_le 65 b && nat_le b 90) || (nat_le 97 b && nat_le b 122) || nat_eq b 95

abbrev pub is_word_byte : ℕ → Bool
is_word_byte b = is_letter b || is_digit b

-- how many bytes at the front pass the test
abbrev pub front_length : (ℕ → Bool) → List ℕ → ℕ
front_length test bs = unwrap_or (position (λ b. not (test b)) bs) (length bs)

-- two minus signs
abbrev pub opens_comment : ℕ → ℕ → Bool
opens_comment a b = nat_eq a 45 && nat_eq b 45

-- whether a comment goes on after this byte, which another one follows; none where it is neither white space nor of a comment
abbrev pub gap_step : Bool → ℕ → ℕ → Option Bool
gap_step true byte next = Some (not (nat_eq byte 10))
gap_step false byte next =
    if is_space byte then Some false else (if opens_comment byte next then Some true else None)

abbrev pub gap_by : Option Bool → (Bool → ℕ) → ℕ
gap_by None rest = 0
gap_by (Some comment) rest = suc (rest comment)

-- how many bytes of white space and comments are at the front, where a comment goes on there or not; a comment ends before LF
abbrev pub gap : Bool → List ℕ → ℕ
gap comment [] = 0
gap comment (b ∷ bs) = gap_by (gap_step comment b (slice_index bs 0)) (λ c. gap c bs)

-- the number that digits write, after what the digits before them write
abbrev pub value_from : ℕ → List ℕ → ℕ
value_from before [] = before
value_from before (d ∷ ds) = value_from (before * 10 + (d - 48)) ds

-- the number that digits write, where it isn't too large
abbrev pub number_kind : List ℕ → Option TokenKind
number_kind digits =
    if nat_le (value_from 0 digits) GREATEST_INTEGER then Some (kind.Number (value_from 0 digits))
    else None

-- the reserved word or the name that a word is, where it isn't too long
abbrev pub short_word : List ℕ → Option TokenKind
short_word word = if nat_le (length word) LONGEST_NAME then Some (word_kind word) else None

-- how many bytes there are up to the quote that ends a text, and with it; two quotes are one of the text
abbrev pub closing : List ℕ → Option ℕ
closing [] = None
closing (b ∷ []) = if nat_eq b 39 then Some 1 else None
closing (b ∷ c ∷ bs) =
    if nat_eq b 39 then (if nat_eq c 39 then option_map (λ n. 2 + n) (closing bs) else Some 1)
    else option_map (λ n. 1 + n) (closing (c ∷ bs))

-- what a single quote or no byte at all means for a text
abbrev pub text_end : List ℕ → Option ℕ
text_end [] = None
text_end (b ∷ bs) = Some 1

-- < and > or =, > and =
abbrev pub double_symbol : ℕ → ℕ → Option TokenKind
double_symbol a b =
    if nat_eq a 60 then (if nat_eq b 62 then Some kind.NotEquals else (if nat_eq b 61 then Some kind.LessEquals else None))
    else (if nat_eq a 62 then (if nat_eq b 61 then Some kind.GreaterEquals else None)
    else None)

abbrev pub single_symbol : ℕ → Option TokenKind
single_symbol a =
    if nat_eq a 40 then Some kind.LeftParenthesis
    else (if nat_eq a 41 then Some kind.RightParenthesis
    else (if nat_eq a 44 then Some kind.Comma
    else (if nat_eq a 59 then Some kind.Semicolon
    else (if nat_eq a 46 then Some kind.Period
    else (if nat_eq a 61 then Some kind.Equals
    else (if nat_eq a 60 then Some kind.Less
    else (if nat_eq a 62 then Some kind.Greater
    else (if nat_eq a 43 then Some kind.Plus
    else (if nat_eq a 45 then Some kind.Minus
    else (if nat_eq a 42 then Some kind.Asterisk
    else None))))))))))

-- a kind and how many bytes the token has
abbrev pub Front : Type 0
Front = Option (TokenKind × ℕ)

abbrev pub with_length : ℕ → Option TokenKind → Front
with_length n None = None
with_length n (Some k) = Some (k, n)

abbrev pub symbol_by : Option TokenKind → Option TokenKind → Front
symbol_by (Some k) single = Some (k, 2)
symbol_by None single = with_length 1 single

abbrev pub quoted_by : Option ℕ → Front
quoted_by None = None
quoted_by (Some n) = Some (kind.Quoted, n + 1)

abbrev pub word_at : List ℕ → ℕ → Front
word_at bs n = with_length n (short_word (take n bs))

abbrev pub number_at : List ℕ → ℕ → Front
number_at bs n = with_length n (number_kind (take n bs))

abbrev pub symbol_at : List ℕ → Front
symbol_at bs = symbol_by (double_symbol (slice_index bs 0) (slice_index bs 1)) (single_symbol (slice_index bs 0))

-- the token at the front of bytes, the longest of its class; none where that is too long a word, too large a number or a text that doesn't end
abbrev pub token_at : List ℕ → Front
token_at bs =
    if is_letter (slice_index bs 0) then word_at bs (front_length is_word_byte bs)
    else (if is_digit (slice_index bs 0) then number_at bs (front_length is_digit bs)
    else (if nat_eq (slice_index bs 0) 39 then quoted_by (closing (drop 1 bs))
    else symbol_at bs))

abbrev pub no_tokens : Option ℕ → Lexed
no_tokens fault = record { tokens = []; fault = fault }

abbrev pub with_token : Token → Lexed → Lexed
with_token t l = record { tokens = t ∷ l.tokens; fault = l.fault }

-- the token at a place and what follows it, or the fault there
abbrev pub token_then : ℕ → Front → (ℕ → Lexed) → Lexed
token_then at None rest = no_tokens (Some at)
token_then at (Some p) rest =
    with_token (record { kind = p.0; start = at; end = at + p.1 }) (rest p.1)

abbrev pub after_gap : ℕ → ℕ → List ℕ → (ℕ → List ℕ → Lexed) → Lexed
after_gap n at bs next =
    if nat_le (length bs) n then no_tokens None
    else token_then (at + n) (token_at (drop n bs)) (λ m. next (at + n + m) (drop (n + m) bs))

-- the tokens of bytes that begin at this place, where there are at most so many
unfoldable pub tokens_from : ℕ → ℕ → List ℕ → Lexed
tokens_from zero at bs = no_tokens None
tokens_from (suc n) at bs = after_gap (gap false bs) at bs (tokens_from n)

-- the tokens of a text, and the lexical fault; a text has no more tokens than bytes
abbrev pub tokens_of : List ℕ → Lexed
tokens_of text = tokens_from (length text) 0 text
