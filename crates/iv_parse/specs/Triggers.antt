-- Triggers: which words are the parts of CREATE TRIGGER.
use Rattle.std.specs.Prelude.{◌≡◌, ◌⊎◌, ℕ, List, [], ◌∷◌, ◌++◌}
use Rattle.iv_lex.specs.declared.kind.TokenKind.{TokenKind}
use Rattle.iv_lex.specs.declared.kind.TokenKind.TheVariants as kind
use Rattle.iv_lex.specs.Words.{Word, name, quoted, plain}
use Rattle.iv_parse.specs.Types.{Side, Condition, ActionTime, TriggerEvent, Granularity, TransitionName, Referencing, TriggerAction, TriggerDefinition}
use Rattle.iv_parse.specs.Types.side
use Rattle.iv_parse.specs.Types.time as action_time
use Rattle.iv_parse.specs.Types.event
use Rattle.iv_parse.specs.Types.granularity
use Rattle.iv_parse.specs.Types.transition
use Rattle.iv_parse.specs.Types.action
use Rattle.iv_parse_data.specs.Series.{Sequence, Maybe, InParentheses, Optional}
use Rattle.iv_parse_data.specs.Data.{Names, IsShallow, IsShallowCondition, IsInsert, IsUpdate, IsDelete}

abbrev pub side_kind : Side → TokenKind
side_kind side.Old = kind.Old
side_kind side.New = kind.New

-- [ ROW | TABLE ]
abbrev pub IsTransition : List Word → TransitionName → Type 0
IsTransition ws transition.Row = Optional kind.Row ws
IsTransition ws transition.Table = ws ≡ plain kind.Table ∷ []

-- < OLD | NEW > [ ROW | TABLE ] [ AS ] name
abbrev pub IsItem : List Word → Referencing → Type 0
IsItem ws r =
    (what : List Word) × (as_word : List Word) × IsTransition what r.what × Optional kind.As as_word
    × (ws ≡ plain (side_kind r.side) ∷ (what ++ (as_word ++ name r.name ∷ [])))

-- [ REFERENCING item {item} ]
abbrev pub IsReferencing : List Word → List Referencing → Type 0
IsReferencing ws [] = ws ≡ []
IsReferencing ws (r ∷ rs) = (items : List Word) × Sequence IsItem items (r ∷ rs) × (ws ≡ plain kind.Referencing ∷ items)

-- [ FOR EACH < ROW | STATEMENT > ]
abbrev pub IsGranularity : List Word → Granularity → Type 0
IsGranularity ws granularity.Row = ws ≡ plain kind.For ∷ plain kind.Each ∷ plain kind.Row ∷ []
IsGranularity ws granularity.Statement = (ws ≡ []) ⊎ (ws ≡ plain kind.For ∷ plain kind.Each ∷ plain kind.Statement ∷ [])

-- WHEN ( condition )
abbrev pub IsWhen : List Word → Condition → Type 0
IsWhen ws c = (check : List Word) × InParentheses IsShallowCondition check c × (ws ≡ plain kind.When ∷ check)

-- insert | update | delete | SIGNAL text | SET name . name = expression
abbrev pub IsAction : List Word → TriggerAction → Type 0
IsAction ws (action.Insert i) = IsInsert ws i
IsAction ws (action.Update u) = IsUpdate ws u
IsAction ws (action.Delete d) = IsDelete ws d
IsAction ws (action.Signal t) = ws ≡ plain kind.Signal ∷ quoted t ∷ []
IsAction ws (action.Set r c e) =
    (value : List Word) × IsShallow value e × (ws ≡ plain kind.Set ∷ name r ∷ plain kind.Period ∷ name c ∷ plain kind.Equals ∷ value)

-- an action and its semicolon
abbrev pub IsEndedAction : List Word → TriggerAction → Type 0
IsEndedAction ws a = (inner : List Word) × IsAction inner a × (ws ≡ inner ++ plain kind.Semicolon ∷ [])

abbrev pub IsSingle : List Word → List TriggerAction → Type 0
IsSingle ws (a ∷ []) = IsAction ws a
IsSingle ws _ = ⊥

-- BEGIN ATOMIC action ; {action ;} END
abbrev pub IsBlock : List Word → List TriggerAction → Type 0
IsBlock ws [] = ⊥
IsBlock ws (a ∷ bs) =
    (actions : List Word) × Sequence IsEndedAction actions (a ∷ bs) × (ws ≡ plain kind.Begin ∷ plain kind.Atomic ∷ (actions ++ plain kind.End ∷ []))

-- an action or a block
abbrev pub IsBody : List Word → List TriggerAction → Type 0
IsBody ws actions = IsSingle ws actions ⊎ IsBlock ws actions

abbrev pub time_kind : ActionTime → TokenKind
time_kind action_time.Before = kind.Before
time_kind action_time.After = kind.After

-- [ OF names ]
abbrev pub IsUpdateColumns : List Word → List (List ℕ) → Type 0
IsUpdateColumns ws [] = ws ≡ []
IsUpdateColumns ws (n ∷ ns) = (names : List Word) × Names names (n ∷ ns) × (ws ≡ plain kind.Of ∷ names)

-- INSERT | UPDATE [ OF .. ] | DELETE
abbrev pub IsEvent : List Word → TriggerEvent → List (List ℕ) → Type 0
IsEvent ws event.Insert ns = (ns ≡ []) × (ws ≡ plain kind.Insert ∷ [])
IsEvent ws event.Update ns = (columns : List Word) × IsUpdateColumns columns ns × (ws ≡ plain kind.Update ∷ columns)
IsEvent ws event.Delete ns = (ns ≡ []) × (ws ≡ plain kind.Delete ∷ [])

-- CREATE TRIGGER name < BEFORE | AFTER > event ON name [ REFERENCING .. ] [ FOR EACH .. ] [ WHEN .. ] body
abbrev pub IsTrigger : List Word → TriggerDefinition → Type 0
IsTrigger ws t =
    (happens : List Word) × (items : List Word) × (each : List Word) × (when : List Word) × (body : List Word)
    × IsEvent happens t.event t.columns × IsReferencing items t.referencing × IsGranularity each t.granularity × Maybe IsWhen when t.when × IsBody body t.body
    × (ws ≡ plain kind.Create ∷ plain kind.Trigger ∷ name t.name ∷ plain (time_kind t.time)
    ∷ (happens ++ plain kind.On ∷ name t.table ∷ (items ++ (each ++ (when ++ body)))))
