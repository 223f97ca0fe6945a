-- What C reads of an account, entry by entry and item by item. Places count from 0.
use Rattle.std.specs.Prelude.{ℕ, zero, suc, Bool, List, length, is_some, if◌then◌else◌, slice_get, Option, Some, None, option_and_then, option_map}
use Rattle.iv_account.specs.declared.entry.Entry.{Entry}
use Rattle.iv_account.specs.declared.entry.Entry.TheVariants.{Changed, Acted, Ran, Skipped, Began, Ended, Faulted, Disagreed, Failed, Standing, NotAdded}
use Rattle.iv_account.specs.declared.entry.Disagreement.{Disagreement}
use Rattle.iv_account.specs.declared.failure.EvaluatedFor.{EvaluatedFor}
use Rattle.iv_account.specs.declared.failure.EvaluatedFor.TheVariants.{When}
use Rattle.iv_account.specs.declared.failure.RowAtHand.{RowAtHand}
use Rattle.iv_account.specs.declared.failure.RowAtHand.TheVariants as hand
use Rattle.iv_account.specs.declared.entry.RowAction.{RowAction}
use Rattle.iv_account.specs.declared.entry.TriggerView.{TriggerView}
use Rattle.iv_catalogue.specs.Catalogues.{Schema}
use Rattle.iv_expr.specs.declared.row.Change.{Change}
use Rattle.iv_expr.specs.declared.row.StoredRow.{StoredRow}
use Rattle.iv_value.specs.declared.value.Truth.{Truth}
use Rattle.iv_value.specs.declared.value.Truth.TheVariants.{Unknown}
use Rattle.iv_value.specs.declared.value.Value.{Value}
use Rattle.iv_shown.specs.Catalogue.{action_number}
use Rattle.iv_shown.specs.Cells.{cell_of}
use Rattle.iv_shown.specs.Texts.{trigger_named}
use Rattle.iv_shown.specs.declared.accounts.ShownDisagreement.{ShownDisagreement}
use Rattle.iv_shown.specs.declared.accounts.ShownEntry.{ShownEntry}
use Rattle.iv_shown.specs.declared.accounts.ShownItem.{ShownItem}

abbrev pub flag : Bool → ℕ
flag b = if b then 1 else 0

-- 1 where a WHEN is unknown
abbrev pub unknown_flag : Truth → ℕ
unknown_flag Unknown = 1
unknown_flag _ = 0

abbrev pub no_entry : ShownEntry
no_entry = record { kind = 0; statement = 0; constraint = 0; has_old = 0; has_new = 0; is_unknown = 0; items = 0; row = 0 }

-- the values of a row before a change, on side 0, and after it, on side 1
abbrev pub side_of : Option (List Value) → Option (List Value) → ℕ → Option (List Value)
side_of old new zero = old
side_of old new (suc zero) = new
side_of old new (suc (suc n)) = None

-- the row of a table at which something failed
abbrev pub hand_row : RowAtHand → Option StoredRow
hand_row (hand.Row r) = Some r
hand_row (hand.Source r) = Some r
hand_row (hand.Variables old new) = None

-- OLD, on side 0, and NEW, on side 1, where no row of a table is at hand
abbrev pub hand_side : RowAtHand → ℕ → Option (List Value)
hand_side (hand.Row r) side = None
hand_side (hand.Source r) side = None
hand_side (hand.Variables old new) side = side_of old new side

-- the trigger whose WHEN failed
abbrev pub when_of : EvaluatedFor → Option ℕ
when_of (When id) = Some id
when_of _ = None

-- the first item is the row at hand
abbrev pub hand_item : RowAtHand → ℕ → Option StoredRow
hand_item r zero = hand_row r
hand_item r (suc n) = None

-- what kind of entry it is, and what it tells besides its items
abbrev pub entry_shown : Entry → ShownEntry
entry_shown (Changed changes) = record no_entry { items = length changes }
entry_shown (Acted actions) = record no_entry { kind = 1; items = length actions }
entry_shown (Ran trigger seen) =
    record no_entry { kind = 2; has_old = flag (is_some seen.old); has_new = flag (is_some seen.new); items = length seen.transition }
entry_shown (Skipped trigger seen) =
    record no_entry { kind = 6; has_old = flag (is_some seen.old); has_new = flag (is_some seen.new); is_unknown = unknown_flag seen.when }
entry_shown (Began place) = record no_entry { kind = 3; statement = place }
entry_shown Ended = record no_entry { kind = 4 }
entry_shown (Faulted fault rows) = record no_entry { kind = 5; constraint = fault.constraint; items = length rows; row = fault.row }
entry_shown (Disagreed fault rows how) = record no_entry { kind = 7; constraint = fault.constraint; items = length rows; row = fault.row }
entry_shown (Failed f) =
    record no_entry { kind = 8; has_old = flag (is_some (hand_side f.row 0)); has_new = flag (is_some (hand_side f.row 1)); items = flag (is_some (hand_row f.row)) }
entry_shown (Standing names) = record no_entry { kind = 9; items = length names }
entry_shown (NotAdded k rows) = record no_entry { kind = 10; items = length rows }

-- a name that the catalogue doesn't have: of the savepoint at this place, or on place 0 of the constraint that isn't added
abbrev pub entry_name : Entry → ℕ → Option (List ℕ)
entry_name (Standing names) item = slice_get names item
entry_name (NotAdded k rows) zero = Some k.name
entry_name (NotAdded k rows) (suc item) = None
entry_name _ item = None

-- the trigger that runs or is skipped, or whose WHEN failed
abbrev pub entry_trigger : Schema → Entry → Option (List ℕ)
entry_trigger s (Ran trigger seen) = Some (trigger_named s (Some trigger))
entry_trigger s (Skipped trigger seen) = Some (trigger_named s (Some trigger))
entry_trigger s (Failed f) = option_map (λ id. trigger_named s (Some id)) (when_of f.part)
entry_trigger s _ = None

abbrev pub change_shown : Change → ShownItem
change_shown c =
    record { table = c.table; constraint = 0; action = 0; has_old = flag (is_some c.old); has_new = flag (is_some c.new); row = c.row }

abbrev pub row_action_shown : RowAction → ShownItem
row_action_shown a =
    record { table = a.table; constraint = a.constraint; action = action_number a.action; has_old = 0; has_new = 0; row = a.row }

abbrev pub stored_shown : StoredRow → ShownItem
stored_shown r = record { table = r.table; constraint = 0; action = 0; has_old = 0; has_new = 1; row = r.number }

-- a change of a wave or of a trigger's transition tables, an action, a row that a violation is about, or the row at which something failed
abbrev pub item_shown : Entry → ℕ → Option ShownItem
item_shown (Changed changes) item = option_map change_shown (slice_get changes item)
item_shown (Acted actions) item = option_map row_action_shown (slice_get actions item)
item_shown (Ran trigger seen) item = option_map change_shown (slice_get seen.transition item)
item_shown (Faulted fault rows) item = option_map stored_shown (slice_get rows item)
item_shown (Disagreed fault rows how) item = option_map stored_shown (slice_get rows item)
item_shown (Failed f) item = option_map stored_shown (hand_item f.row item)
item_shown (NotAdded k rows) item = option_map stored_shown (slice_get rows item)
item_shown _ item = None

abbrev pub change_side : ℕ → Change → Option (List Value)
change_side side c = side_of c.old c.new side

-- the values of an item: those of a change, and on side 1 those of a row that a violation is about
abbrev pub item_values : Entry → ℕ → ℕ → Option (List Value)
item_values (Changed changes) item side = option_and_then (change_side side) (slice_get changes item)
item_values (Ran trigger seen) item side = option_and_then (change_side side) (slice_get seen.transition item)
item_values (Faulted fault rows) item side = side_of None (option_map (λ r. r.values) (slice_get rows item)) side
item_values (Disagreed fault rows how) item side = side_of None (option_map (λ r. r.values) (slice_get rows item)) side
item_values (Failed f) item side = side_of None (option_map (λ r. r.values) (hand_item f.row item)) side
item_values (NotAdded k rows) item side = side_of None (option_map (λ r. r.values) (slice_get rows item)) side
item_values _ item side = None

-- OLD, on side 0, and NEW, on side 1, of a trigger that runs or is skipped for a row
abbrev pub seen_values : Entry → ℕ → Option (List Value)
seen_values (Ran trigger seen) side = side_of seen.old seen.new side
seen_values (Skipped trigger seen) side = side_of seen.old seen.new side
seen_values (Failed f) side = hand_side f.row side
seen_values _ side = None

-- how two foreign keys disagree
abbrev pub how_in : Entry → Option Disagreement
how_in (Disagreed fault rows how) = Some how
how_in _ = None

abbrev pub disagreement_shown : Disagreement → ShownDisagreement
disagreement_shown how = record {
  earlier = how.earlier;
  column = how.column;
  earlier_value = cell_of how.earlier_value;
  value = cell_of how.value;
}

-- what the earlier foreign key sets the column to, on side 0, and what the later one does, on side 1
abbrev pub set_on : ℕ → Disagreement → Option Value
set_on zero how = Some how.earlier_value
set_on (suc zero) how = Some how.value
set_on (suc (suc n)) how = None

-- in the list of entries
abbrev pub item_at : List Entry → ℕ → ℕ → Option ShownItem
item_at entries at item = option_and_then (λ e. item_shown e item) (slice_get entries at)

abbrev pub item_value : List Entry → ℕ → ℕ → ℕ → ℕ → Option Value
item_value entries at item side column =
    option_and_then (λ values. slice_get values column) (option_and_then (λ e. item_values e item side) (slice_get entries at))

abbrev pub seen_value : List Entry → ℕ → ℕ → ℕ → Option Value
seen_value entries at side column =
    option_and_then (λ values. slice_get values column) (option_and_then (λ e. seen_values e side) (slice_get entries at))

abbrev pub trigger_at_entry : Schema → List Entry → ℕ → Option (List ℕ)
trigger_at_entry s entries at = option_and_then (entry_trigger s) (slice_get entries at)

abbrev pub name_at_entry : List Entry → ℕ → ℕ → Option (List ℕ)
name_at_entry entries at item = option_and_then (λ e. entry_name e item) (slice_get entries at)

abbrev pub disagreement_at : List Entry → ℕ → Option Disagreement
disagreement_at entries at = option_and_then how_in (slice_get entries at)

abbrev pub set_value : List Entry → ℕ → ℕ → Option Value
set_value entries at side = option_and_then (set_on side) (disagreement_at entries at)
