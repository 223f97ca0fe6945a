-- Words: what the grammar sees of tokens, without their places.
use Rattle.std.specs.Prelude.{ℕ, ◌+◌, ◌-◌, Bool, ◌&&◌, ◌||◌, nat_eq, nat_le, nat_lt, if◌then◌else◌, Option, Some, None, option_map, List, [], ◌∷◌, map, take, drop, length, slice_index}
use Rattle.std.specs.Char.{to_ascii_uppercase}
use Rattle.iv_lex.specs.declared.kind.TokenKind.{TokenKind}
use Rattle.iv_lex.specs.declared.kind.TokenKind.TheVariants as kind
use Rattle.iv_lex.specs.declared.token.Token.{Token}

-- A name folded to upper case, a number by its value, a text with each doubled quote made one, or
-- the symbol or reserved word that it is. A name or a text whose characters the text doesn't have is
-- plain, too, and no rule of the grammar takes it. The tokens of a text all have their characters
-- (IsTokens.antt).
pub data Word : Type 0 where
  name : List ℕ → Word
  number : ℕ → Word
  quoted : List ℕ → Word
  plain : TokenKind → Word

-- the letters of ASCII in upper case; every other byte as it is
abbrev pub upper_case : List ℕ → List ℕ
upper_case = map to_ascii_uppercase

-- one quote for each two
abbrev pub single_quotes : List ℕ → List ℕ
single_quotes [] = []
single_quotes (b ∷ []) = b ∷ []
single_quotes (b ∷ c ∷ bs) =
    if nat_eq b 39 && nat_eq c 39 then 39 ∷ single_quotes bs else b ∷ single_quotes (c ∷ bs)

-- the bytes from one place up to another
abbrev pub slice : List ℕ → ℕ → ℕ → List ℕ
slice text start end = take (end - start) (drop start text)

-- whether a character of the text begins at a place, or the text ends there
abbrev pub is_boundary : List ℕ → ℕ → Bool
is_boundary text at =
    nat_le at (length text)
    && (nat_lt (slice_index text at) 128 || nat_le 192 (slice_index text at))

-- the characters from one place up to another; none where that isn't a part of the text, or cuts a
-- character
abbrev pub characters : List ℕ → ℕ → ℕ → Option (List ℕ)
characters text start end =
    if nat_le start end && (is_boundary text start && is_boundary text end)
    then Some (slice text start end) else None

-- the characters of a name, folded to upper case
abbrev pub folded_text : List ℕ → Token → Option (List ℕ)
folded_text text t = option_map upper_case (characters text t.start t.end)

-- the characters between the quotes of a text, with one quote for each two
abbrev pub unquoted_text : List ℕ → Token → Option (List ℕ)
unquoted_text text t = option_map single_quotes (characters text (t.start + 1) (t.end - 1))

abbrev pub with_characters : TokenKind → (List ℕ → Word) → Option (List ℕ) → Word
with_characters k word None = plain k
with_characters k word (Some cs) = word cs

-- the word of a token of this kind, by the characters of a name and of a text
abbrev pub word_by : TokenKind → Option (List ℕ) → Option (List ℕ) → Word
word_by kind.Name of_name of_text = with_characters kind.Name name of_name
word_by (kind.Number n) of_name of_text = number n
word_by kind.Quoted of_name of_text = with_characters kind.Quoted quoted of_text
word_by k of_name of_text = plain k

abbrev pub word_of : List ℕ → Token → Word
word_of text t = word_by t.kind (folded_text text t) (unquoted_text text t)

-- the words that these tokens of the text are
abbrev pub words : List ℕ → List Token → List Word
words text tokens = map (word_of text) tokens
