-- Reserved words, whatever the case of their letters. The list of them is in src/reserved.rt.
use Rattle.std.specs.Prelude.{ℕ, if◌then◌else◌, List, [], ◌∷◌, map}
use Rattle.std.specs.Str.{str_eq_ignore_ascii_case}
use Rattle.iv_lex.specs.declared.kind.TokenKind.{TokenKind}
use Rattle.iv_lex.specs.declared.kind.TokenKind.TheVariants as kind
use Rattle.iv_lex.specs.declared.reserved.TheConstants.{RESERVED}

-- the reserved words, each with its kind
abbrev pub reserved_words : List (List ℕ × TokenKind)
reserved_words = map (λ row. (row.0.now, row.1)) RESERVED

-- the kind of the first of these words that this word is but for the case of its letters; a name
-- where it is none
abbrev pub word_among : List (List ℕ × TokenKind) → List ℕ → TokenKind
word_among [] word = kind.Name
word_among ((reserved, k) ∷ rest) word =
    if str_eq_ignore_ascii_case word reserved then k else word_among rest word

-- the reserved word or the name that a word is
unfoldable pub word_kind : List ℕ → TokenKind
word_kind word = word_among reserved_words word
