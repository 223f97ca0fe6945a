use Rattle.std.proofs.Common.{◌+◌, ◌<◌, ℕ, List, [], ◌∷◌, ap, sym, subst, ◌∙◌}
use Rattle.iv_expr.specs.declared.row.StoredRow.{StoredRow}
use Rattle.iv_expr.specs.Changes.{wave_of}
use Rattle.iv_machine.specs.declared.database.Database.{Database}
use Rattle.iv_machine.specs.Bounds.{most_changes_in_a_transaction}
use Rattle.iv_machine.specs.Databases.{database_after}
use Rattle.iv_machine.specs.SetRows.{InBounds, set_row}
use Rattle.iv_machine.proofs.OneChange.{rises, changed_is, changed_in_bounds}
use Rattle.iv_store_plain.proofs.database.PlainDatabase.change.Goals as goal

pub set_row-requires : goal.set_row-requires
set_row-requires c = rises 0 c.self.inside.rows.items c.self.inside.next c.self.invariant.rising c.self.invariant.next

pub invariant_of-self-2 : goal.invariant_of-self-2
invariant_of-self-2 c =
    let change = c.args.change in
    let rows = c.self.inside.rows.items in
    let db : Database = record { rows = c.self.inside.rows.items; next = c.self.inside.next; count = c.self.inside.count } in
    let room : db.count < most_changes_in_a_transaction = subst (λ (d : Database). d.count < most_changes_in_a_transaction) (sym c.self.view_is) c.requires.room in
    subst (λ (l : List StoredRow). InBounds (record { rows = l; next = c.max-self-inside.result; count = c.self.inside.count + 1 })) (sym c.in_ok-set_row.ensures.ok)
    (subst (λ (n : ℕ). InBounds (record { rows = set_row change.table change.row change.new rows; next = n; count = c.self.inside.count + 1 })) (sym c.max-self-inside.ensures)
    (changed_in_bounds db change c.self.invariant c.requires.positive c.requires.small room))

pub returns-clause-ok : goal.returns-clause-ok
returns-clause-ok c =
    let change = c.args.change in
    let rows = c.self.inside.rows.items in
    let db : Database = record { rows = c.self.inside.rows.items; next = c.self.inside.next; count = c.self.inside.count } in
    ap (λ (l : List StoredRow). record { rows = l; next = c.max-self-inside.result; count = c.self.inside.count + 1 }) c.in_ok-set_row.ensures.ok
    ∙ ap (λ (n : ℕ). record { rows = set_row change.table change.row change.new rows; next = n; count = c.self.inside.count + 1 }) c.max-self-inside.ensures
    ∙ changed_is db change c.self.invariant
    ∙ ap (λ (d : Database). database_after d (wave_of (change ∷ []))) c.self.view_is
