-- The foreign keys that act on a row, from the changes that took keys away.
use Rattle.std.specs.Prelude.{ℕ, if◌then◌else◌, List, [], ◌∷◌, filter, flat_map, Some, None}
use Rattle.iv_expr.specs.declared.row.StoredRow.{StoredRow}
use Rattle.iv_expr.specs.declared.row.Change.{Change}
use Rattle.iv_expr.specs.Changes.{wave_of}
use Rattle.iv_machine.specs.Databases.{row_at}
use Rattle.iv_machine.specs.ReferentialActions.{keeps_reference}
use Rattle.iv_laws_levels.specs.Holders.{row_before}
use Rattle.iv_account.specs.declared.entry.RowAction.{RowAction}
use Rattle.iv_account.specs.Accounts.{acts}
use Rattle.iv_exec_actions.specs.AffectedForeignKey.{AffectedForeignKey, action_for, change_losing}

-- what a foreign key has for a row which refers to a key that this change took away
abbrev pub actions_for : AffectedForeignKey → ℕ → Change → List RowAction
actions_for x row c =
    if acts (action_for x.reference.key c)
    then record { constraint = x.reference.id; action = action_for x.reference.key c; table = x.reference.table; row = row } ∷ []
    else []

abbrev pub actions_by : StoredRow → AffectedForeignKey → List RowAction
actions_by before x = elim (change_losing x before) [ Some c ↦ actions_for x before.number c | None ↦ [] ]

-- those of these foreign keys that act on a row
abbrev pub actions_among : List AffectedForeignKey → StoredRow → StoredRow → List RowAction
actions_among xs before after = flat_map (actions_by before) (filter (λ x. keeps_reference before after x.reference) xs)

-- those that act on the row of this number, from the rows after the wave
abbrev pub actions_at : List AffectedForeignKey → List Change → List StoredRow → ℕ → List RowAction
actions_at xs changes later number = elim (row_before (wave_of changes) later number) [
  | Some before ↦ elim (row_at later number) [ Some after ↦ actions_among xs before after | None ↦ [] ]
  | None ↦ []
]

-- those that act on the rows of the changes that followed
abbrev pub actions_on_all : List AffectedForeignKey → List Change → List StoredRow → List Change → List RowAction
actions_on_all xs changes later next = flat_map (λ c. actions_at xs changes later c.row) next
