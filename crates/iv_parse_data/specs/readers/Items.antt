-- Items of REFERENCING as they are found at the front of words.
use Rattle.std.specs.Prelude.{ℕ, Option, Some, None, List}
use Rattle.iv_lex.specs.declared.kind.TokenKind.TheVariants as kind
use Rattle.iv_lex.specs.Words.{Word}
use Rattle.iv_parse_data.specs.Types.{Side, TransitionName, Referencing}
use Rattle.iv_parse_data.specs.Types.side
use Rattle.iv_parse_data.specs.Types.transition
use Rattle.iv_parse_terms.specs.After.{after, if_some, then_read}
use Rattle.iv_parse_data.specs.readers.Series.{skip}
use Rattle.iv_parse_data.specs.readers.Data.{FoundPart, read_name}

unfoldable pub read_transition : List Word → FoundPart TransitionName
read_transition ws = if_some (after kind.Table ws) (λ rest. Some (transition.Table, rest)) (Some (transition.Row, skip kind.Row ws))

-- [ AS ] and a name
abbrev pub read_transition_name : List Word → FoundPart (List ℕ)
read_transition_name ws = read_name (skip kind.As ws)

-- after OLD or NEW
unfoldable pub read_referencing_item_of : Side → List Word → FoundPart (Option Referencing)
read_referencing_item_of s ws =
    then_read (read_transition ws) (λ w rest. then_read (read_transition_name rest) (λ n more. Some (Some (record { side = s; what = w; name = n }), more)))

-- an item, where one begins
unfoldable pub read_referencing_item : List Word → FoundPart (Option Referencing)
read_referencing_item ws =
    if_some (after kind.Old ws) (read_referencing_item_of side.Old)
    (if_some (after kind.New ws) (read_referencing_item_of side.New) (Some (None, ws)))
