-- Laws: a template has one reading, and values add no name and no semicolon to it.
use Rattle.std.specs.Prelude.{◌≡◌, ℕ, Bool, true, false, List, [], ◌∷◌, filter}
use Rattle.iv_value.specs.declared.value.Value.{Value}
use Rattle.iv_lex.specs.declared.kind.TokenKind.TheVariants as kind
use Rattle.iv_lex.specs.Words.{Word, name, plain}
use Rattle.iv_template.specs.Templates.{Part, word, hole, IsTemplate, filled}
use Rattle.iv_template.specs.Holes.{StopsAt}

-- a template has one list of parts
abbrev pub OneReading : Type 0
OneReading = (text : List ℕ) (ps qs : List Part) → IsTemplate text ps → IsTemplate text qs → ps ≡ qs

-- a text that stops at a place is no template
abbrev pub NoneThatStops : Type 0
NoneThatStops = (text : List ℕ) (place : ℕ) (ps : List Part) → StopsAt text place → IsTemplate text ps → ⊥

-- the words of a template alone
abbrev pub own_words : List Part → List Word
own_words [] = []
own_words (word w ∷ ps) = w ∷ own_words ps
own_words (hole ∷ ps) = own_words ps

abbrev pub is_name : Word → Bool
is_name (name n) = true
is_name _ = false

abbrev pub is_semicolon : Word → Bool
is_semicolon (plain kind.Semicolon) = true
is_semicolon _ = false

-- of these words a filled template has those of the template, in their order, and no others
abbrev pub KeepsTheTemplates : (Word → Bool) → Type 0
KeepsTheTemplates test =
    (ps : List Part) (vs : List Value) → filter test (filled ps vs) ≡ filter test (own_words ps)
