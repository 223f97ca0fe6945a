-- CREATE TRIGGER: what its columns, REFERENCING, WHEN and body are refused for ("Trigger definition").
use Rattle.std.specs.Prelude.{ℕ, Bool, true, false, not, ◌&&◌, ◌||◌, List, length, map, filter, find, Option, Some, None, nat_le, nat_lt, option_map}
use Rattle.std.specs.List.{list_any}
use Rattle.std.specs.Str.{bytes_eq}
use Rattle.iv_resolution.specs.Types.{Side, TriggerEvent, Referencing, TriggerAction, TriggerDefinition}
use Rattle.iv_resolution.specs.Types.side
use Rattle.iv_resolution.specs.Types.time
use Rattle.iv_resolution.specs.Types.event
use Rattle.iv_resolution.specs.Types.granularity
use Rattle.iv_resolution.specs.Types.transition as what
use Rattle.iv_resolution.specs.Types.action
use Rattle.iv_catalogue.specs.Catalogues.{Schema}
use Rattle.iv_catalogue.specs.declared.limits.TheConstants.{MOST_TRIGGERS, MOST_TRIGGERS_EVER, MOST_BODY_STATEMENTS}
use Rattle.iv_resolution.specs.declared.origin.Origin.{Origin}
use Rattle.iv_resolution.specs.declared.origin.Origin.TheVariants.{Rows, Variable}
use Rattle.iv_resolution.specs.Scopes.{NamedColumn, NamedRange, Names, NamedTransition, type_named}
use Rattle.iv_resolution.specs.Terms.{misshaped_expression, misshaped_filter}
use Rattle.iv_resolution.specs.Changes.{target_columns, clashes_with, misshaped_insert, misshaped_update, misshaped_delete}
use Rattle.iv_resolution.specs.Tables.{table_names}

-- ---- what WHEN and the body may name

abbrev pub names_row : Referencing → Bool
names_row i = elim i.what [ what.Row ↦ true | what.Table ↦ false ]

-- The row variables, which have the columns of the trigger's table. An item that isn't allowed has its name all the same.
abbrev pub row_variables : List NamedColumn → List Referencing → List NamedRange
row_variables subject items = map (λ i. record { name = i.name; columns = subject; origin = Variable i.side }) (filter names_row items)

abbrev pub transition_tables : List Referencing → List NamedTransition
transition_tables items = map (λ i. record { name = i.name; side = i.side }) (filter (λ i. not (names_row i)) items)

-- the columns of the table that the trigger is on
unfoldable pub subject_of : Schema → TriggerDefinition → List NamedColumn
subject_of schema t = target_columns (table_names schema) t.table

unfoldable pub trigger_names : Schema → TriggerDefinition → Names
trigger_names schema t = record { created = None; tables = schema.tables; transitions = transition_tables t.referencing; subject = subject_of schema t }

unfoldable pub trigger_variables : Schema → TriggerDefinition → List NamedRange
trigger_variables schema t = row_variables (subject_of schema t) t.referencing

-- the row variable of that name; none if it is no row variable's name
unfoldable pub variable_named : List NamedRange → List ℕ → Option Origin
variable_named variables name = option_map (λ r. r.origin) (find (λ r. bytes_eq name r.name) variables)

-- ---- what the trigger's time, event and granularity don't allow

abbrev pub is_before : TriggerDefinition → Bool
is_before t = elim t.time [ time.Before ↦ true | time.After ↦ false ]

abbrev pub for_each_row : TriggerDefinition → Bool
for_each_row t = elim t.granularity [ granularity.Row ↦ true | granularity.Statement ↦ false ]

-- INSERT has no old rows, DELETE no new ones
abbrev pub has_side : TriggerEvent → Side → Bool
has_side event.Insert side.Old = false
has_side event.Delete side.New = false
has_side _ _ = true

-- row variables need FOR EACH ROW; BEFORE triggers have no transition tables
unfoldable pub is_allowed_item : TriggerDefinition → Referencing → Bool
is_allowed_item t i = has_side t.event i.side && elim i.what [ what.Row ↦ for_each_row t | what.Table ↦ not (is_before t) ]

abbrev pub is_side : Side → Side → Bool
is_side side.Old side.Old = true
is_side side.New side.New = true
is_side _ _ = false

-- the items that name the old or new row, or the old or new table
abbrev pub items_of : Side → Bool → List Referencing → List Referencing
items_of s row items = filter (λ i. is_side s i.side && elim row [ true ↦ names_row i | false ↦ not (names_row i) ]) items

abbrev pub item_twice : List Referencing → Side → Bool → Bool
item_twice items s row = nat_lt 1 (length (items_of s row items))

abbrev pub some_item_twice : List Referencing → Bool
some_item_twice items =
    (item_twice items side.Old true || item_twice items side.New true)
    || (item_twice items side.Old false || item_twice items side.New false)

-- BEFORE triggers hold SIGNAL, and for each row SET; AFTER triggers INSERT, UPDATE, DELETE and SIGNAL
unfoldable pub is_allowed_action : TriggerDefinition → TriggerAction → Bool
is_allowed_action t (action.Signal text) = true
is_allowed_action t (action.Set v column e) = is_before t && for_each_row t
is_allowed_action t _ = not (is_before t)

-- the row variable OLD
abbrev pub is_old : Origin → Bool
is_old Rows = false
is_old (Variable s) = is_side side.Old s

-- SET changes only the row variable NEW
unfoldable pub sets_old : List NamedRange → TriggerAction → Bool
sets_old variables (action.Set v column e) = elim (variable_named variables v) [ Some o ↦ is_old o | None ↦ false ]
sets_old variables _ = false

abbrev pub faulty_trigger : Schema → TriggerDefinition → Bool
faulty_trigger schema t =
    some_item_twice t.referencing
    || (list_any (λ i. not (is_allowed_item t i)) t.referencing
    || (list_any (λ a. not (is_allowed_action t a)) t.body
    || list_any (sets_old (trigger_variables schema t)) t.body))

-- ---- kinds

unfoldable pub misshaped_action : Names → List NamedRange → TriggerAction → Bool
misshaped_action names variables (action.Insert i) = misshaped_insert names variables i
misshaped_action names variables (action.Update u) = misshaped_update names variables u
misshaped_action names variables (action.Delete d) = misshaped_delete names variables d
misshaped_action names variables (action.Signal t) = false
misshaped_action names variables (action.Set v column e) = clashes_with (type_named names.subject column) variables e || misshaped_expression variables e

abbrev pub misshaped_trigger : Schema → TriggerDefinition → Bool
misshaped_trigger schema t =
    misshaped_filter (trigger_names schema t) (trigger_variables schema t) t.when
    || list_any (misshaped_action (trigger_names schema t) (trigger_variables schema t)) t.body

-- ---- limits

abbrev pub trigger_beyond_limits : Schema → TriggerDefinition → Bool
trigger_beyond_limits schema t =
    nat_le MOST_TRIGGERS (length schema.triggers)
    || (nat_le MOST_TRIGGERS_EVER schema.created
    || nat_lt MOST_BODY_STATEMENTS (length t.body))
