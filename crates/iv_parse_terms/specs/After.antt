-- What is at the front of a list of words.
use Rattle.std.specs.Prelude.{ℕ, Bool, true, false, if◌then◌else◌, Option, Some, None, List, [], ◌∷◌}
use Rattle.iv_lex.specs.declared.kind.TokenKind.{TokenKind}
use Rattle.iv_lex.specs.declared.kind.TokenKind.TheVariants as kind
use Rattle.iv_lex.specs.Words.{Word, name, number, quoted, plain}
use Rattle.iv_lex.specs.contracts.kind.TokenKindPartialEq.TheImpl.{ghosts as equality}

-- two kinds are the same
abbrev pub same : TokenKind → TokenKind → Bool
same = equality.eq

-- the kind is a symbol or a reserved word
abbrev pub is_plain : TokenKind → Bool
is_plain kind.Name = false
is_plain (kind.Number n) = false
is_plain kind.Quoted = false
is_plain _ = true

-- the word is this symbol or reserved word
abbrev pub is_word : TokenKind → Word → Bool
is_word k (name n) = false
is_word k (number n) = false
is_word k (quoted t) = false
is_word k (plain j) = same j k

-- the words after this symbol or reserved word, where it is at the front
abbrev pub after : TokenKind → List Word → Option (List Word)
after k [] = None
after k (w ∷ ws) = if is_word k w then Some ws else None

-- the name at the front, and the words after it
abbrev pub after_name : List Word → Option (List ℕ × List Word)
after_name (name n ∷ ws) = Some (n, ws)
after_name [] = None
after_name (number n ∷ ws) = None
after_name (quoted t ∷ ws) = None
after_name (plain k ∷ ws) = None

-- the number at the front, and the words after it
abbrev pub after_number : List Word → Option (ℕ × List Word)
after_number (number n ∷ ws) = Some (n, ws)
after_number [] = None
after_number (name n ∷ ws) = None
after_number (quoted t ∷ ws) = None
after_number (plain k ∷ ws) = None

-- the text at the front, and the words after it
abbrev pub after_quoted : List Word → Option (List ℕ × List Word)
after_quoted (quoted t ∷ ws) = Some (t, ws)
after_quoted [] = None
after_quoted (name n ∷ ws) = None
after_quoted (number t ∷ ws) = None
after_quoted (plain k ∷ ws) = None

-- the function of what there is, or else the other value
abbrev pub if_some : {A B : Type 0} → Option A → (A → B) → B → B
if_some None f other = other
if_some (Some a) f other = f a

-- what was read, and the words that are left, go to the function
abbrev pub then_read : {A B : Type 0} → Option (A × List Word) → (A → List Word → Option B) → Option B
then_read None f = None
then_read (Some p) f = f p.0 p.1
