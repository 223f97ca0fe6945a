use Rattle.std.proofs.Common.{◌≡◌, [], false, refl}
use Rattle.iv_numbers.specs.Rows.{Rows, added, has_row}
use Rattle.iv_store_groups.proofs.GroupsLemmas.{edited, grown, missing_in, of_group, placed_in}
use Rattle.iv_numbers.proofs.RowsKept.{rising_none, rising_with}
use Rattle.iv_store_groups.proofs.key_index.add_under.Goals as goal

pub add_at-requires-clause-absent : goal.add_at-requires-clause-absent
add_at-requires-clause-absent c =
    of_group (λ (h : Rows). has_row c.args.row h.rows ≡ false) (placed_in c.args.key.now c.in-Some.place c.as_slice.ensures.value c.in-Some.ensures.place) c.requires.absent

pub returns-in_ok-add_at-in-Some : goal.returns-in_ok-add_at-in-Some
returns-in_ok-add_at-in-Some c =
    let at = placed_in c.args.key.now c.in-Some.place c.as_slice.ensures.value c.in-Some.ensures.place in
    let e = edited (added c.args.row) c.requires.indexed at (rising_with c.args.row _ c.requires.absent) c.in_ok-add_at-in-Some.ensures.ok in
    record { ok = e.groups; err = tt; indexed = e.indexed }

pub returns-in_ok-add_group-in-None : goal.returns-in_ok-add_group-in-None
returns-in_ok-add_group-in-None c =
    let none = missing_in c.args.key.now c.as_slice.ensures.value c.in-None.ensures.place in
    let e = grown (added c.args.row) c.requires.indexed none (rising_with c.args.row [] refl rising_none) c.hash-hash.ensures
    c.in_ok-add_group-in-None.ensures.hashes c.in_ok-group-in-None.ensures c.in_ok-add_group-in-None.ensures.groups in
    record { ok = e.groups; err = tt; indexed = e.indexed }
