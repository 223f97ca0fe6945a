use Rattle.std.proofs.Common.{◌≡◌, ◌+◌, ◌*◌, ◌≤◌, length, List, ap, sym, subst, ◌∙◌}
use Rattle.iv_expr.specs.declared.row.StoredRow.{StoredRow}
use Rattle.iv_catalogue.specs.Catalogues.{AllOn}
use Rattle.iv_catalogue.specs.declared.constraint.Constraint.{Constraint}
use Rattle.iv_catalogue.specs.declared.limits.TheConstants.{MOST_CONSTRAINTS, MOST_TABLES}
use Rattle.iv_store.specs.Stores.{StoreState}
use Rattle.iv_store_plain.specs.Suspects.{Watched, with_new}
use Rattle.iv_store_plain.proofs.Suspects.{watched_with_new, watched_more}
use Rattle.iv_store_plain.proofs.plain.PlainStore.push_table.Goals as goal

pub invariant_of-self-in_err-append : goal.invariant_of-self-in_err-append
invariant_of-self-in_err-append c =
    let s = c.self.inside in
    let new = c.in_ok-constraints.constraints.items in
    let touched : c.touch_new.new.touched.items ≡ with_new s.database.rows new s.touched.items =
    c.in_ok-touch_new.ensures.ok
    ∙ ap (λ (rows : List StoredRow). with_new rows c.as_slice.result.now s.touched.items) c.rows.ensures.rows
    ∙ ap (λ (l : List Constraint). with_new s.database.rows l s.touched.items) c.as_slice.ensures.value in
    subst (λ t. Watched t c.append.new.self.items s.database s.marks.items) (sym touched)
    (subst (λ k. Watched (with_new s.database.rows new s.touched.items) k s.database s.marks.items) (sym c.in_err-append.ensures.items)
    (watched_with_new new s.constraints.items s.touched.items s.database s.marks.items
    (ap (λ (v : StoreState). v.marks) c.self.view_is ∙ c.requires.unmarked) c.self.invariant))

pub invariant_of-self-2 : goal.invariant_of-self-2
invariant_of-self-2 c =
    let s = c.self.inside in
    let new = c.in_ok-constraints.constraints.items in
    let copied : new ≡ c.args.constraints.now = c.in_ok-constraints.ensures in
    let own : AllOn (length c.args.self.now.tables) new = subst (λ l. AllOn (length c.args.self.now.tables) l) (sym copied) c.requires.own in
    let few : length s.constraints.items + length new ≤ MOST_TABLES * MOST_CONSTRAINTS =
    subst (λ (l : List Constraint). length s.constraints.items + length l ≤ MOST_TABLES * MOST_CONSTRAINTS) (sym copied)
    (subst (λ (v : StoreState). length v.constraints + length c.args.constraints.now ≤ MOST_TABLES * MOST_CONSTRAINTS) (sym c.self.view_is) c.requires.few) in
    let touched : c.touch_new.new.touched.items ≡ with_new s.database.rows new s.touched.items =
    c.in_ok-touch_new.ensures.ok
    ∙ ap (λ (rows : List StoredRow). with_new rows c.as_slice.result.now s.touched.items) c.rows.ensures.rows
    ∙ ap (λ (l : List Constraint). with_new s.database.rows l s.touched.items) c.as_slice.ensures.value in
    subst (λ t. Watched t c.append.new.self.items s.database s.marks.items) (sym touched)
    (subst (λ k. Watched (with_new s.database.rows new s.touched.items) k s.database s.marks.items) (sym c.in_ok-append.ensures.items)
    (watched_more new s.constraints.items (length c.args.self.now.tables) s.touched.items s.database s.marks.items
    (ap (λ (v : StoreState). v.marks) c.self.view_is ∙ c.requires.unmarked) own few c.self.invariant))
