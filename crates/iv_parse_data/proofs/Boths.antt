-- Two words that are looked at together.
use Rattle.std.proofs.Common.{◌≡◌, Option, Some, None, true, false, Bool, List, refl, ap}
use Rattle.iv_lex.specs.declared.kind.TokenKind.{TokenKind}
use Rattle.iv_lex.specs.declared.kind.TokenKind.TheVariants as kind
use Rattle.iv_lex.specs.Words.{Word}
use Rattle.iv_parse_terms.specs.After.{after, if_some, then_read}
use Rattle.iv_parse_terms.specs.Reading.{after_both}
use Rattle.iv_parse_data.specs.Types.{ReferentialAction}
use Rattle.iv_parse_data.specs.readers.Data.{FoundPart}
use Rattle.iv_parse_data.specs.readers.Tables.{read_deferrable, read_on, read_referential_action}

both_by : {B : Type 0} (o : Option (List Word)) (g : List Word → Option (List Word)) (f : List Word → B) (other : B) → if_some o (λ rest. if_some (g rest) f other) other ≡ if_some (if_some o g None) f other
both_by None g f other = refl
both_by (Some r) g f other = refl

abbrev pub deferrable_found : Bool → List Word → FoundPart (Option Bool)
deferrable_found b ws = Some (Some b, ws)

abbrev pub deferrable_left : List Word → FoundPart (Option Bool)
deferrable_left ws = Some (None, ws)

abbrev pub not_deferrable : List Word → FoundPart (Option Bool)
not_deferrable ws = if_some (after_both kind.Not kind.Deferrable ws) (deferrable_found false) (deferrable_left ws)

pub deferrable_step : (ws : List Word) → read_deferrable ws ≡ if_some (after kind.Deferrable ws) (deferrable_found true) (not_deferrable ws)
unfolding read_deferrable
deferrable_step ws =
    ap (λ z. if_some (after kind.Deferrable ws) (deferrable_found true) z) (both_by (after kind.Not ws) (after kind.Deferrable) (deferrable_found false) (deferrable_left ws))

abbrev pub action_given : ReferentialAction → List Word → FoundPart (Option ReferentialAction)
action_given a ws = Some (Some a, ws)

abbrev pub action_found : List Word → FoundPart (Option ReferentialAction)
action_found ws = then_read (read_referential_action ws) action_given

abbrev pub action_left : List Word → FoundPart (Option ReferentialAction)
action_left ws = Some (None, ws)

pub on_step : (event : TokenKind) (ws : List Word) → read_on event ws ≡ if_some (after_both kind.On event ws) action_found (action_left ws)
unfolding read_on
on_step event ws = both_by (after kind.On ws) (after event) action_found (action_left ws)
