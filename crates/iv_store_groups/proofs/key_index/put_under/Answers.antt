use Rattle.std.proofs.Common.{◌<◌, ap, arith}
use Rattle.iv_numbers.specs.Rows.{Rows, put}
use Rattle.iv_store_groups.proofs.GroupsLemmas.{edited, found_in, missing_in, of_group, placed_in}
use Rattle.iv_numbers.proofs.RowsKept.{rising_put}
use Rattle.iv_store_groups.proofs.key_index.put_under.Goals as goal

pub put_at-requires-clause-room : goal.put_at-requires-clause-room
put_at-requires-clause-room c = of_group (λ (h : Rows). 0 < h.room) (placed_in c.args.key.now c.in-Some.place c.as_slice.ensures.value c.in-Some.ensures.place) c.requires.room

pub unreachable-requires : goal.unreachable-requires
unreachable-requires c =
    let none = missing_in c.args.key.now c.as_slice.ensures.value c.in-None.ensures.place in
    let no_room = ap (λ (h : Rows). h.room) none.held_is in
    omega (arith, no_room, c.requires.room)

pub returns : goal.returns
returns c =
    let at = placed_in c.args.key.now c.in-Some.place c.as_slice.ensures.value c.in-Some.ensures.place in
    let e = edited (put c.args.row) c.requires.indexed at (rising_put c.args.row _) c.put_at.ensures in
    record { groups = e.groups; place = found_in c.args.key.now c.in-Some.place c.as_slice.ensures.value c.in-Some.ensures.place; indexed = e.indexed }
