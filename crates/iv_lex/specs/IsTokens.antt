-- Which tokens a text has: white space and comments, then the longest token, and so on up to the end or
-- to a fault.
use Rattle.std.specs.Prelude.{◌≡◌, ℕ, ◌+◌, ◌-◌, ◌≤◌, ◌<◌, true, false, not, nat_eq, Option, Some, None, List, [], ◌∷◌, ◌++◌, length, drop, slice_index, All, IsUtf8}
use Rattle.std.specs.List.{list_all}
use Rattle.iv_lex.specs.declared.kind.TokenKind.{TokenKind}
use Rattle.iv_lex.specs.declared.kind.TokenKind.TheVariants as kind
use Rattle.iv_lex.specs.declared.token.Token.{Token}
use Rattle.iv_lex.specs.Tokens.{is_space, opens_comment, tokens_of}
use Rattle.iv_lex.specs.Words.{slice, characters}
use Rattle.iv_lex.specs.Longest.{IsLongestRun, IsToken}

-- no line ends within these characters
abbrev pub IsInLine : List ℕ → Type 0
IsInLine line = list_all (λ b. not (nat_eq b 10)) line ≡ true

-- the line ends here, with LF or with the text
abbrev pub EndsLine : List ℕ → Type 0
EndsLine [] = Unit {0}
EndsLine (b ∷ bs) = b ≡ 10

-- neither white space nor a comment begins here
abbrev pub BeginsNoGap : List ℕ → Type 0
BeginsNoGap [] = Unit {0}
BeginsNoGap (b ∷ bs) = (is_space b ≡ false) × (opens_comment b (slice_index bs 0) ≡ false)

-- the rest comes after white space and comments, as far as they go; a comment goes up to the end of its
-- line
pub data AfterGap : List ℕ → List ℕ → Type 0 where
  no_gap : (bs rest : List ℕ) → bs ≡ rest → BeginsNoGap rest → AfterGap bs rest
  space : (bs : List ℕ) (b : ℕ) (more rest : List ℕ) → bs ≡ b ∷ more → is_space b ≡ true
      → AfterGap more rest → AfterGap bs rest
  comment : (bs line more rest : List ℕ) → bs ≡ 45 ∷ 45 ∷ (line ++ more) → IsInLine line → EndsLine more
      → AfterGap more rest → AfterGap bs rest

-- only white space and comments are between two places of the text, and neither begins at the
-- second
pub record IsGap (text : List ℕ) (start end : ℕ) : Type 0 where
  pub rising : start ≤ end
  pub within : end ≤ length text
  pub gap : AfterGap (drop start text) (drop end text)

-- the token is a part of the text, the longest run that begins at its place, and of its kind
pub record IsTokenOf (text : List ℕ) (t : Token) : Type 0 where
  pub within : t.end ≤ length text
  pub longest : IsLongestRun (drop t.start text) (slice text t.start t.end)
  pub token : IsToken (slice text t.start t.end) t.kind

-- no run begins here, or the longest one is no token: too long a word, too large a number, or an open
-- text
abbrev pub BeginsNoToken : List ℕ → Type 0
BeginsNoToken bs = (front : List ℕ) (k : TokenKind) → IsLongestRun bs front → IsToken front k → ⊥

-- these are the tokens of the text from a place on, and its fault where they don't reach the end
abbrev pub IsTokensFrom : List ℕ → ℕ → List Token → Option ℕ → Type 0
IsTokensFrom text place [] None = IsGap text place (length text)
IsTokensFrom text place [] (Some fault) =
    IsGap text place fault × (fault < length text) × BeginsNoToken (drop fault text)
IsTokensFrom text place (t ∷ ts) fault =
    IsGap text place t.start × IsTokenOf text t × IsTokensFrom text t.end ts fault

-- these are the tokens of the text, and its fault where they don't reach the end
abbrev pub IsTokens : List ℕ → List Token → Option ℕ → Type 0
IsTokens text tokens fault = IsTokensFrom text 0 tokens fault

-- the tokens that are found are tokens of the text
abbrev pub FindsTokens : Type 0
FindsTokens = (text : List ℕ) → IsTokens text (tokens_of text).tokens (tokens_of text).fault

-- and there are no others
abbrev pub FindsAllTokens : Type 0
FindsAllTokens =
    (text : List ℕ) (tokens : List Token) (fault : Option ℕ) → IsTokens text tokens fault
    → (tokens ≡ (tokens_of text).tokens) × (fault ≡ (tokens_of text).fault)

-- the text has the characters of the token, and those between the quotes of a text
pub record HasCharacters (text : List ℕ) (t : Token) : Type 0 where
  pub whole : characters text t.start t.end ≡ Some (slice text t.start t.end)
  pub inside : t.kind ≡ kind.Quoted
      → (inside : List ℕ) × (slice text t.start t.end ≡ 39 ∷ (inside ++ 39 ∷ []))
      × (characters text (t.start + 1) (t.end - 1) ≡ Some inside)

-- each token of a text in UTF-8 has its characters, so that no word of it is lost
abbrev pub TokensHaveCharacters : Type 0
TokensHaveCharacters =
    (text : List ℕ) → IsUtf8 text → All (HasCharacters text) (tokens_of text).tokens
