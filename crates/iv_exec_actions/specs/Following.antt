-- What foreign keys do to a row, from the changes that took keys away.
use Rattle.std.specs.Prelude.{ℕ, Bool, false, ◌&&◌, ◌||◌, ◌==◌, List, [], ◌∷◌, map, filter, filter_map, flat_map, find, Option, Some, None, Result, Ok}
use Rattle.std.specs.List.{list_any}
use Rattle.std.specs.Option.{option_map}
use Rattle.iv_expr.specs.declared.row.StoredRow.{StoredRow}
use Rattle.iv_expr.specs.declared.row.Change.{Change}
use Rattle.iv_expr.specs.declared.wave.TableColumn.{TableColumn}
use Rattle.iv_expr.specs.Changes.{Wave, wave_of}
use Rattle.iv_catalogue.specs.Catalogues.{Schema}
use Rattle.iv_catalogue.specs.declared.cause.Cause.TheVariants.{Restrict, ActionConflict}
use Rattle.iv_catalogue.specs.declared.cause.Fault.{Fault}
use Rattle.iv_machine.specs.declared.database.Database.{Database}
use Rattle.iv_machine.specs.declared.effect.Effect.{Effect}
use Rattle.iv_machine.specs.Context.{Failure, fails}
use Rattle.iv_machine.specs.Databases.{row_at, fault_at}
use Rattle.iv_machine.specs.ReferentialActions.{is_restrict, effects_of_action, keeps_reference, change_by, sets_values, referencing_columns}
use Rattle.iv_account.specs.declared.entry.Disagreement.{Disagreement}
use Rattle.iv_account.specs.Disagreements.{disagreement}
use Rattle.iv_laws_levels.specs.Holders.{loss_of_new, row_before}
use Rattle.iv_laws_kept.specs.FollowingWaves.{first_conflict, least}
use Rattle.iv_exec_actions.specs.AffectedForeignKey.{AffectedForeignKey, action_for, change_losing}

-- ---- RESTRICT

-- the foreign key is on the row's table, and the row refers to a key that was lost under RESTRICT
abbrev pub restricts : StoredRow → AffectedForeignKey → Bool
restricts row x =
    (row.table == x.reference.table)
    && elim (change_losing x row) [ Some c ↦ is_restrict (action_for x.reference.key c) | None ↦ false ]

-- the foreign key has RESTRICT as an action
abbrev pub may_restrict : AffectedForeignKey → Bool
may_restrict x = is_restrict x.reference.key.on_delete || is_restrict x.reference.key.on_update

-- a row with the first foreign key that restricts it
abbrev pub restricted_fault : List AffectedForeignKey → StoredRow → Option Fault
restricted_fault xs row = option_map (λ x. fault_at x.reference.id row) (find (restricts row) xs)

-- ---- effects

-- what a foreign key does to a row which refers to a key that this change took away
abbrev pub effects_for : Schema → AffectedForeignKey → Change → List Effect
effects_for schema x c = effects_of_action schema x.reference (loss_of_new x.reference.key c.new) (action_for x.reference.key c)

abbrev pub one_or_none : Option Effect → List Effect
one_or_none None = []
one_or_none (Some effect) = effect ∷ []

abbrev pub effects_by : Schema → StoredRow → AffectedForeignKey → List (ℕ × Effect)
effects_by schema before x =
    map (λ effect. (x.reference.id, effect)) (elim (change_losing x before) [ Some c ↦ effects_for schema x c | None ↦ [] ])

-- what these foreign keys do to a row
abbrev pub effects_among : Schema → List AffectedForeignKey → StoredRow → StoredRow → List (ℕ × Effect)
effects_among schema xs before after = flat_map (effects_by schema before) (filter (λ x. keeps_reference before after x.reference) xs)

-- ---- by row number, from the rows after the wave

abbrev pub restricted_at : List AffectedForeignKey → List Change → List StoredRow → ℕ → Option Fault
restricted_at xs changes later number =
    elim (row_before (wave_of changes) later number) [ Some row ↦ restricted_fault xs row | None ↦ None ]

abbrev pub effects_at : Schema → List AffectedForeignKey → List Change → List StoredRow → StoredRow → List (ℕ × Effect)
effects_at schema xs changes later after =
    elim (row_before (wave_of changes) later after.number) [ Some before ↦ effects_among schema xs before after | None ↦ [] ]

abbrev pub conflict_at : Schema → List AffectedForeignKey → List Change → List StoredRow → ℕ → Option Fault
conflict_at schema xs changes later number =
    elim (row_at later number) [
      | Some after ↦ option_map (λ id. fault_at id after) (first_conflict (effects_at schema xs changes later after))
      | None ↦ None
    ]

-- how a foreign key disagrees with an earlier one about the row of a fault
abbrev pub disagreement_by : Schema → List AffectedForeignKey → List Change → List StoredRow → Fault → Option Disagreement
disagreement_by schema xs changes later fault =
    elim (row_at later fault.row) [
      | Some after ↦ disagreement fault.constraint (effects_at schema xs changes later after)
      | None ↦ None
    ]

abbrev pub change_at : Schema → List AffectedForeignKey → List Change → List StoredRow → ℕ → Option Change
change_at schema xs changes later number =
    elim (row_at later number) [ Some after ↦ change_by after (effects_at schema xs changes later after) | None ↦ None ]

-- a foreign key sets values of the row of this number
abbrev pub sets_at : Schema → List AffectedForeignKey → List Change → List StoredRow → ℕ → ℕ → Bool
sets_at schema xs changes later id number =
    elim (row_at later number) [ Some after ↦ sets_values id (effects_at schema xs changes later after) | None ↦ false ]

-- the columns of those of these foreign keys whose numbers pass, in creation order
abbrev pub columns_where : (ℕ → Bool) → List AffectedForeignKey → List TableColumn
columns_where sets xs = flat_map (λ x. referencing_columns x.reference) (filter (λ x. sets x.reference.id) xs)

-- those of the foreign keys that set values of some of the rows of these numbers
abbrev pub columns_at : Schema → List AffectedForeignKey → List Change → List StoredRow → List ℕ → List TableColumn
columns_at schema xs changes later numbers = columns_where (λ id. list_any (sets_at schema xs changes later id) numbers) xs

-- The next wave, from the rows of these numbers.
abbrev pub next_at : Schema → List AffectedForeignKey → List Change → List StoredRow → List ℕ → Wave
next_at schema xs changes later numbers = record {
  changes = filter_map (change_at schema xs changes later) numbers;
  columns = columns_at schema xs changes later numbers;
}

-- What follows a wave, from the rows of these numbers.
abbrev pub answer_among : Schema → List AffectedForeignKey → List Change → Database → List ℕ → Result Wave Failure
answer_among schema xs changes later numbers =
    elim (least (restricted_at xs changes later.rows) numbers) [
      | Some f ↦ fails later (Restrict f)
      | None ↦
          elim (least (conflict_at schema xs changes later.rows) numbers) [
            | Some f ↦ fails later (ActionConflict f)
            | None ↦ Ok (next_at schema xs changes later.rows numbers)
          ]
    ]
