use Rattle.iv_numbers.specs.Rows.{no_rows, roomy}
use Rattle.iv_store_groups.proofs.GroupsLemmas.{edited, grown, missing_in, placed_in}
use Rattle.iv_numbers.proofs.RowsKept.{rising_none, rising_roomy}
use Rattle.iv_store_groups.proofs.key_index.make_room_under.Goals as goal

pub returns-in_ok-make_room_at-in-Some : goal.returns-in_ok-make_room_at-in-Some
returns-in_ok-make_room_at-in-Some c =
    let at = placed_in c.args.key.now c.in-Some.place c.as_slice.ensures.value c.in-Some.ensures.place in
    let e = edited roomy c.requires.indexed at (rising_roomy _) c.in_ok-make_room_at-in-Some.ensures.ok in
    record { ok = e.groups; err = tt; indexed = e.indexed }

pub returns-in_ok-add_group-in-None : goal.returns-in_ok-add_group-in-None
returns-in_ok-add_group-in-None c =
    let none = missing_in c.args.key.now c.as_slice.ensures.value c.in-None.ensures.place in
    let e = grown roomy c.requires.indexed none (rising_roomy no_rows rising_none) c.hash-hash.ensures
    c.in_ok-add_group-in-None.ensures.hashes c.in_ok-group-in-None.ensures c.in_ok-add_group-in-None.ensures.groups in
    record { ok = e.groups; err = tt; indexed = e.indexed }
