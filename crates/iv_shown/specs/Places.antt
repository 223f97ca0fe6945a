-- Where statements begin and end in their text. Places are bytes of the text, from 0.
use Rattle.std.specs.Prelude.{◌≡◌, ℕ, Bool, true, false, not, ◌&&◌, Option, Some, None, unwrap_or, List, [], ◌∷◌, length, nat_lt, slice_get, if◌then◌else◌}
use Rattle.iv_lex.specs.declared.kind.TokenKind.{TokenKind}
use Rattle.iv_lex.specs.declared.kind.TokenKind.TheVariants as kind
use Rattle.iv_lex.specs.declared.token.Token.{Token}
use Rattle.iv_lex.specs.Tokens.{tokens_of}
use Rattle.iv_syntax.specs.declared.statement.Statement.{Statement}
use Rattle.iv_template.specs.Places.{blanked}
use Rattle.iv_shown.specs.declared.places.StatementPlace.{StatementPlace}

-- a text that statements were read from, and how many of its question marks are holes of a template
pub record Source : Type 0 where
  pub text : List ℕ
  pub holes : ℕ

-- ATOMIC begins the body of a trigger, and END ends it
abbrev pub in_body : Bool → TokenKind → Bool
in_body before kind.Atomic = true
in_body before kind.End = false
in_body before _ = before

abbrev pub is_semicolon : TokenKind → Bool
is_semicolon kind.Semicolon = true
is_semicolon _ = false

-- a statement ends with the first semicolon that is in no body
abbrev pub is_end : Bool → TokenKind → Bool
is_end inside k = not inside && is_semicolon k

-- the places of the statements of these tokens, of which the first began before them at a place, or begins with their first one
abbrev pub places_from : Option ℕ → Bool → List Token → List StatementPlace
places_from begin inside [] = []
places_from begin inside (t ∷ ts) =
    if is_end inside t.kind then record { begin = unwrap_or begin t.start; end = t.end } ∷ places_from None false ts
    else places_from (Some (unwrap_or begin t.start)) (in_body inside t.kind) ts

-- Each statement begins with its first token and ends with its semicolon.
abbrev pub statement_places : List Token → List StatementPlace
statement_places ts = places_from None false ts

-- so in a text, in which nothing stands for the holes
abbrev pub places_in : Source → List StatementPlace
places_in source = statement_places (tokens_of (blanked source.text source.holes)).tokens

-- places that were found are those of the text
abbrev pub AreFound : Source → Option (List StatementPlace) → Type 0
AreFound source None = Unit {0}
AreFound source (Some places) = places ≡ places_in source

-- the place of a statement of those that were read
abbrev pub place_at : List Statement → Source → ℕ → Option StatementPlace
place_at statements source at = if nat_lt at (length statements) then slice_get (places_in source) at else None
