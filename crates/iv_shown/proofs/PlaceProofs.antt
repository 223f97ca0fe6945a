-- The places of statements, token by token.
use Rattle.std.proofs.Common.{◌≡◌, ℕ, Bool, true, false, Option, Some, None, unwrap_or, List, [], ◌∷◌, ◌++◌, sym, ◌∙◌, ap, append_assoc}
use Rattle.std.specs.Prelude.{if◌then◌else◌}
use Rattle.iv_lex.specs.declared.token.Token.{Token}
use Rattle.iv_shown.specs.declared.places.StatementPlace.{StatementPlace}
use Rattle.iv_shown.specs.Places.{in_body, is_end, places_from}

abbrev ended : Option ℕ → Token → StatementPlace
ended begin t = record { begin = unwrap_or begin t.start; end = t.end }

-- a statement ends with the token
pub place_ended : (found : List StatementPlace) (begin : Option ℕ) (inside : Bool) (t : Token) (ts : List Token) → is_end inside t.kind ≡ true
    → (found ++ ended begin t ∷ []) ++ places_from None false ts ≡ found ++ places_from begin inside (t ∷ ts)
place_ended found begin inside t ts h =
    append_assoc found (ended begin t ∷ []) (places_from None false ts)
    ∙ ap (λ b. found ++ (if b then ended begin t ∷ places_from None false ts else places_from (Some (unwrap_or begin t.start)) (in_body inside t.kind) ts)) (sym h)

-- it goes on
pub place_goes_on : (found : List StatementPlace) (begin : Option ℕ) (inside : Bool) (t : Token) (ts : List Token) → is_end inside t.kind ≡ false
    → found ++ places_from (Some (unwrap_or begin t.start)) (in_body inside t.kind) ts ≡ found ++ places_from begin inside (t ∷ ts)
place_goes_on found begin inside t ts h =
    ap (λ b. found ++ (if b then ended begin t ∷ places_from None false ts else places_from (Some (unwrap_or begin t.start)) (in_body inside t.kind) ts)) (sym h)
