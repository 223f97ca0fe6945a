-- How a kind of words is told to whoever reads it. The symbols are in src/told.rt, and the reserved words in src/reserved.rt.
use Rattle.std.specs.Prelude.{ℕ, if◌then◌else◌, List, [], ◌∷◌, map}
use Rattle.iv_lex.specs.declared.kind.TokenKind.{TokenKind}
use Rattle.iv_lex.specs.contracts.kind.TokenKindPartialEq.TheImpl.{ghosts as equality}
use Rattle.iv_lex.specs.declared.told.TheConstants.{SYMBOLS}
use Rattle.iv_lex.specs.Reserved.{reserved_words}

-- the symbols and what is no reserved word, each with its kind
abbrev pub symbols : List (List ℕ × TokenKind)
symbols = map (λ row. (row.0.now, row.1)) SYMBOLS

-- the first of these words that has this kind; no word where none has it
abbrev pub text_among : List (List ℕ × TokenKind) → TokenKind → List ℕ
text_among [] k = []
text_among ((text, j) ∷ rest) k = if equality.eq j k then text else text_among rest k

abbrev pub or_else : List ℕ → List ℕ → List ℕ
or_else [] other = other
or_else (b ∷ bs) other = b ∷ bs

-- the word of a kind
unfoldable pub kind_text : TokenKind → List ℕ
kind_text k = or_else (text_among symbols k) (text_among reserved_words k)
