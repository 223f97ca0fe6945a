-- The words of parts that come several times, with commas between them or without.
use Rattle.std.specs.Prelude.{List, [], ◌∷◌, ◌++◌}
use Rattle.iv_lex.specs.declared.kind.TokenKind.TheVariants as kind
use Rattle.iv_lex.specs.Words.{Word, plain}

module _ {A : Type 0} where
  -- further parts, each after a comma
  abbrev pub more_words : (A → List Word) → List A → List Word
  more_words words [] = []
  more_words words (a ∷ bs) = plain kind.Comma ∷ (words a ++ more_words words bs)

  -- parts with a comma between any two
  abbrev pub series_words : (A → List Word) → List A → List Word
  series_words words [] = []
  series_words words (a ∷ bs) = words a ++ more_words words bs

  -- parts one after the other
  abbrev pub sequence_words : (A → List Word) → List A → List Word
  sequence_words words [] = []
  sequence_words words (a ∷ bs) = words a ++ sequence_words words bs

-- words between parentheses
abbrev pub enclosed_words : List Word → List Word
enclosed_words ws = plain kind.LeftParenthesis ∷ (ws ++ plain kind.RightParenthesis ∷ [])
