use Rattle.std.proofs.lemmas.Bool.{false≢true}
use Rattle.std.proofs.Common.{◌≡◌, true, ap, sym, ◌∙◌}
use Rattle.iv_numbers.specs.Rows.{Rows, has_row, removed}
use Rattle.iv_store_groups.proofs.GroupsLemmas.{edited, found_in, missing_in, of_group, placed_in}
use Rattle.iv_numbers.proofs.RowsKept.{rising_without}
use Rattle.iv_store_groups.proofs.key_index.remove_under.Goals as goal

pub remove_at-requires-clause-present : goal.remove_at-requires-clause-present
remove_at-requires-clause-present c =
    of_group (λ (h : Rows). has_row c.args.row h.rows ≡ true) (placed_in c.args.key.now c.in-Some.place c.as_slice.ensures.value c.in-Some.ensures.place) c.requires.present

pub unreachable-requires : goal.unreachable-requires
unreachable-requires c =
    let none = missing_in c.args.key.now c.as_slice.ensures.value c.in-None.ensures.place in
    false≢true (sym (ap (λ (h : Rows). has_row c.args.row h.rows) none.held_is) ∙ c.requires.present)

pub returns : goal.returns
returns c =
    let at = placed_in c.args.key.now c.in-Some.place c.as_slice.ensures.value c.in-Some.ensures.place in
    let e = edited (removed c.args.row) c.requires.indexed at (rising_without c.args.row _) c.remove_at.ensures in
    record { groups = e.groups; place = found_in c.args.key.now c.in-Some.place c.as_slice.ensures.value c.in-Some.ensures.place; indexed = e.indexed }
