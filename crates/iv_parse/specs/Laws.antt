-- Laws: words are at most one statement, and a script has one reading.
use Rattle.std.specs.Prelude.{◌≡◌, ℕ, Option, List, ◌∷◌, ◌++◌}
use Rattle.iv_lex.specs.declared.kind.TokenKind.TheVariants as kind
use Rattle.iv_lex.specs.Words.{Word, plain}
use Rattle.iv_parse.specs.Types.{Statement}
use Rattle.iv_parse.specs.Statements.{Reads}
use Rattle.iv_parse.specs.Script.{IsScript}

-- words are at most one statement
abbrev pub OneStatement : Type 0
OneStatement = (ws : List Word) (s t : Statement) → Reads ws s → Reads ws t → s ≡ t

-- no statement with its semicolon begins another
abbrev pub NoOtherBegins : Type 0
NoOtherBegins =
    (s t : Statement) (f g rest others : List Word) → Reads f s → Reads g t → f ++ plain kind.Semicolon ∷ rest ≡ g ++ plain kind.Semicolon ∷ others
    → (s ≡ t) × (rest ≡ others)

-- a script has one reading
abbrev pub OneScript : Type 0
OneScript =
    (text : List ℕ) (ss ts : List Statement) (f g : Option ℕ) → IsScript text ss f → IsScript text ts g → (ss ≡ ts) × (f ≡ g)
