-- The words of CREATE TRIGGER. ROW of a row variable and FOR EACH STATEMENT are left out; a body of one statement has no BEGIN.
use Rattle.std.specs.Prelude.{ℕ, Option, Some, None, List, [], ◌∷◌, ◌++◌}
use Rattle.iv_lex.specs.declared.kind.TokenKind.TheVariants as kind
use Rattle.iv_lex.specs.Words.{Word, name, quoted, plain}
use Rattle.iv_parse_terms.specs.Expressions.{spelling}
use Rattle.iv_write.specs.Types.{Condition, TriggerEvent, Granularity, TransitionName, Referencing, TriggerAction, TriggerDefinition}
use Rattle.iv_write.specs.Types.event
use Rattle.iv_write.specs.Types.granularity
use Rattle.iv_write.specs.Types.transition
use Rattle.iv_write.specs.Types.action
use Rattle.iv_parse.specs.Triggers.{side_kind, time_kind}
use Rattle.iv_write.specs.Parts.{sequence_words, enclosed_words}
use Rattle.iv_write.specs.Terms.{condition_words}
use Rattle.iv_write.specs.Data.{names_words, insert_words, update_words, delete_words}

abbrev pub transition_words : TransitionName → List Word
transition_words transition.Row = []
transition_words transition.Table = plain kind.Table ∷ []

-- OLD or NEW, TABLE of a transition table, AS and a name
abbrev pub item_words : Referencing → List Word
item_words r = plain (side_kind r.side) ∷ (transition_words r.what ++ plain kind.As ∷ name r.name ∷ [])

abbrev pub referencing_words : List Referencing → List Word
referencing_words [] = []
referencing_words (r ∷ rs) = plain kind.Referencing ∷ sequence_words item_words (r ∷ rs)

abbrev pub granularity_words : Granularity → List Word
granularity_words granularity.Row = plain kind.For ∷ plain kind.Each ∷ plain kind.Row ∷ []
granularity_words granularity.Statement = []

abbrev pub when_words : Option Condition → List Word
when_words None = []
when_words (Some c) = plain kind.When ∷ enclosed_words (condition_words c)

abbrev pub action_words : TriggerAction → List Word
action_words (action.Insert i) = insert_words i
action_words (action.Update u) = update_words u
action_words (action.Delete d) = delete_words d
action_words (action.Signal t) = plain kind.Signal ∷ quoted t ∷ []
action_words (action.Set r c e) = plain kind.Set ∷ name r ∷ plain kind.Period ∷ name c ∷ plain kind.Equals ∷ spelling e

-- a statement of a block, with its semicolon
abbrev pub ended_words : TriggerAction → List Word
ended_words a = action_words a ++ plain kind.Semicolon ∷ []

abbrev pub body_words : List TriggerAction → List Word
body_words (a ∷ []) = action_words a
body_words acts = plain kind.Begin ∷ plain kind.Atomic ∷ (sequence_words ended_words acts ++ plain kind.End ∷ [])

abbrev pub columns_words : List (List ℕ) → List Word
columns_words [] = []
columns_words (n ∷ ns) = plain kind.Of ∷ names_words (n ∷ ns)

-- what happens: INSERT, UPDATE with its columns, or DELETE
abbrev pub event_words : TriggerEvent → List (List ℕ) → List Word
event_words event.Insert ns = plain kind.Insert ∷ []
event_words event.Update ns = plain kind.Update ∷ columns_words ns
event_words event.Delete ns = plain kind.Delete ∷ []

abbrev pub trigger_words : TriggerDefinition → List Word
trigger_words t =
    plain kind.Create ∷ plain kind.Trigger ∷ name t.name ∷ plain (time_kind t.time)
    ∷ (event_words t.event t.columns ++ plain kind.On ∷ name t.table
    ∷ (referencing_words t.referencing ++ (granularity_words t.granularity ++ (when_words t.when ++ body_words t.body))))
