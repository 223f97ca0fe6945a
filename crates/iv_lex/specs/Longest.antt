-- The longest first: which characters are a token, and which are the longest run at the front of
-- others.
use Rattle.std.specs.Prelude.{◌≡◌, ℕ, ◌≤◌, Bool, true, ◌&&◌, not, nat_eq, if◌then◌else◌, Some, List, [], ◌∷◌, ◌++◌, length}
use Rattle.std.specs.List.{list_all}
use Rattle.iv_lex.specs.declared.kind.TokenKind.{TokenKind}
use Rattle.iv_lex.specs.declared.kind.TokenKind.TheVariants as kind
use Rattle.iv_lex.specs.Reserved.{word_kind}
use Rattle.iv_syntax.specs.declared.limits.TheConstants.{LONGEST_NAME, GREATEST_INTEGER}
use Rattle.iv_lex.specs.Tokens.{is_letter, is_digit, is_word_byte, value_from, single_symbol, double_symbol}

-- a letter or an underscore, and then letters, digits and underscores
abbrev pub IsWord : List ℕ → Type 0
IsWord [] = ⊥
IsWord (b ∷ bs) = (is_letter b ≡ true) × (list_all is_word_byte bs ≡ true)

-- one digit or several
abbrev pub IsDigits : List ℕ → Type 0
IsDigits [] = ⊥
IsDigits (b ∷ bs) = (is_digit b ≡ true) × (list_all is_digit bs ≡ true)

-- whether each quote is one of two
abbrev pub quotes_doubled : List ℕ → Bool
quotes_doubled [] = true
quotes_doubled (b ∷ []) = not (nat_eq b 39)
quotes_doubled (b ∷ c ∷ bs) = if nat_eq b 39 then nat_eq c 39 && quotes_doubled bs else quotes_doubled (c ∷ bs)

-- a quote, characters with two quotes for each one, and a quote
abbrev pub IsText : List ℕ → Type 0
IsText bs = (inside : List ℕ) × (quotes_doubled inside ≡ true) × (bs ≡ 39 ∷ (inside ++ 39 ∷ []))

-- a text without the quote that ends it
abbrev pub IsOpenText : List ℕ → Type 0
IsOpenText bs = (inside : List ℕ) × (quotes_doubled inside ≡ true) × (bs ≡ 39 ∷ inside)

-- the symbol of this kind: one character or two
pub data IsSymbol (bs : List ℕ) (k : TokenKind) : Type 0 where
  one : (a : ℕ) → bs ≡ a ∷ [] → single_symbol a ≡ Some k → IsSymbol bs k
  two : (a b : ℕ) → bs ≡ a ∷ b ∷ [] → double_symbol a b ≡ Some k → IsSymbol bs k

-- characters that belong together: a word or a number, however long, a text that ends or doesn't, or a symbol
pub data IsRun (bs : List ℕ) : Type 0 where
  word : IsWord bs → IsRun bs
  digits : IsDigits bs → IsRun bs
  text : IsText bs → IsRun bs
  open_text : IsOpenText bs → IsRun bs
  symbol : (k : TokenKind) → IsSymbol bs k → IsRun bs

-- These characters are one token, of this kind: a word that isn't too long, which is the reserved
-- word that it is or else a name; a number by its value that isn't too large; a text; or a symbol.
pub data IsToken (bs : List ℕ) (k : TokenKind) : Type 0 where
  a_word : IsWord bs → length bs ≤ LONGEST_NAME → k ≡ word_kind bs → IsToken bs k
  a_number : IsDigits bs → value_from 0 bs ≤ GREATEST_INTEGER → k ≡ kind.Number (value_from 0 bs)
      → IsToken bs k
  a_text : IsText bs → k ≡ kind.Quoted → IsToken bs k
  a_symbol : IsSymbol bs k → IsToken bs k

-- these characters are a run at the front of bytes, and no run there is longer
pub record IsLongestRun (bs front : List ℕ) : Type 0 where
  pub rest : List ℕ
  pub whole : bs ≡ front ++ rest
  pub run : IsRun front
  pub longest : (longer more : List ℕ) → bs ≡ longer ++ more → IsRun longer → length longer ≤ length front
