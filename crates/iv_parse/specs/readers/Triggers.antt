-- The parts of CREATE TRIGGER as they are found at the front of words.
use Rattle.std.specs.Prelude.{ℕ, Option, Some, None, List, [], ◌∷◌}
use Rattle.iv_lex.specs.declared.kind.TokenKind.TheVariants as kind
use Rattle.iv_lex.specs.Words.{Word}
use Rattle.iv_parse.specs.Types.{Condition, ActionTime, TriggerEvent, Granularity, Referencing, TriggerAction, TriggerDefinition}
use Rattle.iv_parse.specs.Types.time as action_time
use Rattle.iv_parse.specs.Types.event
use Rattle.iv_parse.specs.Types.granularity
use Rattle.iv_parse.specs.Types.action
use Rattle.iv_parse_terms.specs.After.{after, after_quoted, if_some, then_read}
use Rattle.iv_parse_data.specs.readers.Series.{give, read_as, read_series, read_all}
use Rattle.iv_parse_data.specs.readers.Data.{FoundPart, then_word, read_name, read_shallow, read_check, read_insert, read_update, read_delete}
use Rattle.iv_parse_data.specs.readers.Items.{read_referencing_item}

-- there is one at least
abbrev pub some_items : List Referencing → List Word → FoundPart (List Referencing)
some_items [] ws = None
some_items (r ∷ rs) ws = Some (r ∷ rs, ws)

unfoldable pub read_referencing : List Word → FoundPart (List Referencing)
read_referencing ws = if_some (after kind.Referencing ws) (λ a. then_read (read_all read_referencing_item a) some_items) (Some ([], ws))

unfoldable pub read_granularity : List Word → FoundPart Granularity
read_granularity ws =
    if_some (after kind.For ws)
    (λ a. then_word kind.Each a (λ b. if_some (after kind.Row b) (give granularity.Row) (then_word kind.Statement b (give granularity.Statement))))
    (Some (granularity.Statement, ws))

unfoldable pub read_when : List Word → FoundPart (Option Condition)
read_when ws = if_some (after kind.When ws) (read_as Some read_check) (Some (None, ws))

-- after SET: a column of a row variable, and its value
unfoldable pub read_set_action : List Word → FoundPart TriggerAction
read_set_action ws =
    then_read (read_name ws) (λ r a. then_word kind.Period a (λ b. then_read (read_name b) (λ c d. then_word kind.Equals d
    (read_as (action.Set r c) read_shallow))))

unfoldable pub read_action : List Word → FoundPart TriggerAction
read_action ws =
    if_some (after kind.Insert ws) (read_as action.Insert read_insert)
    (if_some (after kind.Update ws) (read_as action.Update read_update)
    (if_some (after kind.Delete ws) (read_as action.Delete read_delete)
    (if_some (after kind.Signal ws) (read_as action.Signal after_quoted) (then_word kind.Set ws read_set_action))))

-- an action and its semicolon
unfoldable pub read_with_semicolon : List Word → FoundPart TriggerAction
read_with_semicolon ws = then_read (read_action ws) (λ a b. then_word kind.Semicolon b (give a))

-- an action and its semicolon, up to END
unfoldable pub read_ended_action : List Word → FoundPart (Option TriggerAction)
read_ended_action ws = if_some (after kind.End ws) (λ rest. Some (None, ws)) (read_as Some read_with_semicolon ws)

abbrev pub some_actions : List TriggerAction → List Word → FoundPart (List TriggerAction)
some_actions [] ws = None
some_actions (a ∷ bs) ws = then_word kind.End ws (give (a ∷ bs))

-- one action, or BEGIN ATOMIC and actions
unfoldable pub read_body : List Word → FoundPart (List TriggerAction)
read_body ws =
    if_some (after kind.Begin ws) (λ a. then_word kind.Atomic a (λ b. then_read (read_all read_ended_action b) some_actions))
    (read_as (λ a. a ∷ []) read_action ws)

unfoldable pub read_action_time : List Word → FoundPart ActionTime
read_action_time ws = if_some (after kind.Before ws) (give action_time.Before) (then_word kind.After ws (give action_time.After))

-- OF and names, where they are written
unfoldable pub read_update_columns : List Word → FoundPart (List (List ℕ))
read_update_columns ws = if_some (after kind.Of ws) (read_series read_name) (Some ([], ws))

-- the event, and the columns of UPDATE OF
unfoldable pub read_event : List Word → FoundPart (TriggerEvent × List (List ℕ))
read_event ws =
    if_some (after kind.Insert ws) (give (event.Insert, []))
    (if_some (after kind.Update ws) (read_as (λ ns. (event.Update, ns)) read_update_columns) (then_word kind.Delete ws (give (event.Delete, []))))

-- the time, the event with its columns, and ON
unfoldable pub read_occasion : List Word → FoundPart (ActionTime × TriggerEvent × List (List ℕ))
read_occasion ws =
    then_read (read_action_time ws) (λ t a. then_read (read_event a) (λ e b. then_word kind.On b (give (t, e.0, e.1))))

-- what is between the table and the body
unfoldable pub read_middle : List Word → FoundPart (List Referencing × Granularity × Option Condition)
read_middle ws =
    then_read (read_referencing ws) (λ rs a. then_read (read_granularity a) (λ g. read_as (λ w. (rs, g, w)) read_when))

abbrev pub trigger_of : List ℕ → ActionTime × TriggerEvent × List (List ℕ) → List ℕ → List Referencing × Granularity × Option Condition → List TriggerAction → TriggerDefinition
trigger_of n o table m body =
    record { name = n; time = o.0; event = o.1; columns = o.2; table = table; referencing = m.0; granularity = m.1; when = m.2; body = body }

-- after TRIGGER
unfoldable pub read_trigger : List Word → FoundPart TriggerDefinition
read_trigger ws =
    then_read (read_name ws) (λ n a. then_read (read_occasion a) (λ o b. then_read (read_name b) (λ t c.
    then_read (read_middle c) (λ m. read_as (trigger_of n o t m) read_body))))
