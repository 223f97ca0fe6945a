-- The net changes of a level by their table and event, and which AFTER triggers fire on them.
use Rattle.std.specs.Prelude.{◌≡◌, ◌<◌, ℕ, ◌+◌, ◌*◌, Bool, false, ◌&&◌, if◌then◌else◌, ◌==◌, List, [], ◌∷◌, map, filter, flat_map, get_or}
use Rattle.iv_expr.specs.declared.row.Change.{Change}
use Rattle.iv_expr.specs.declared.wave.TableColumn.{TableColumn}
use Rattle.iv_syntax.specs.declared.trigger.TriggerEvent.{TriggerEvent}
use Rattle.iv_syntax.specs.declared.trigger.TriggerEvent.TheVariants as event
use Rattle.iv_catalogue.specs.declared.plan.DataStatement.{DataStatement}
use Rattle.iv_catalogue.specs.declared.plan.Trigger.{Trigger}
use Rattle.iv_machine.specs.BeforeTriggers.{event_of_change, for_each_row, same_event}
use Rattle.iv_machine.specs.Levels.{Firing, row_firing, statement_firing, firings_of, is_after_on}
use Rattle.iv_exec_triggers.specs.declared.fire.Fires.{Fires}
use Rattle.iv_exec_triggers.specs.declared.fire.Fires.TheVariants as fires

-- a table's insertions, updates and deletions are side by side
abbrev pub event_place : TriggerEvent → ℕ
event_place event.Insert = 0
event_place event.Update = 1
event_place event.Delete = 2

abbrev pub place_of : ℕ → TriggerEvent → ℕ
place_of t e = 3 * t + event_place e

-- the changes of a table and event
abbrev pub transitions_on : List (List Change) → ℕ → TriggerEvent → List Change
transitions_on parts t e = get_or parts (place_of t e) []

abbrev pub is_of : ℕ → TriggerEvent → Change → Bool
is_of t e c = (t == c.table) && same_event e (event_of_change c)

-- These are the changes by their table and event.
abbrev pub ByTableAndEvent : List (List Change) → List Change → Type 0
ByTableAndEvent parts changes = (t : ℕ) (e : TriggerEvent) → transitions_on parts t e ≡ filter (is_of t e) changes

-- the changes are of tables below this one
abbrev pub OfTablesBelow : ℕ → List Change → Type 0
OfTablesBelow tables [] = Unit {0}
OfTablesBelow tables (c ∷ changes) = (c.table < tables) × OfTablesBelow tables changes

-- how a trigger fires on its transitions: not at all, once, or for each of them
abbrev pub expanded : Trigger → Fires → List Firing
expanded t fires.Never = []
expanded t (fires.Once transitions) = statement_firing t transitions.now ∷ []
expanded t (fires.EachRow transitions) = map (row_firing t transitions.now) transitions.now

-- the firings of one trigger, if it is an AFTER trigger, and on one of these columns if it lists columns
abbrev pub after_firings : DataStatement → List TableColumn → List (List Change) → Trigger → List Firing
after_firings statement columns parts t = if is_after_on columns t then firings_of statement t (transitions_on parts t.table t.event) else []

-- the firings of triggers, in creation order
abbrev pub all_firings : DataStatement → List TableColumn → List (List Change) → List Trigger → List Firing
all_firings statement columns parts ts = flat_map (after_firings statement columns parts) ts

-- A trigger fires on the changes of its table and event: once only if it isn't a row trigger.
abbrev pub FiresOn : Trigger → List (List Change) → Fires → Type 0
FiresOn t parts fires.Never = Unit {0}
FiresOn t parts (fires.Once transitions) = (for_each_row t ≡ false) × (transitions.now ≡ transitions_on parts t.table t.event)
FiresOn t parts (fires.EachRow transitions) = transitions.now ≡ transitions_on parts t.table t.event
