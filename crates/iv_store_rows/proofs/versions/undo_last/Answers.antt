use Rattle.iv_store_rows.specs.InSlots.{live_rows}
use Rattle.iv_store_rows.proofs.Keeping.{undone_slot, undone_room, undone_small, undone_rows, slots_left, room_left}
use Rattle.iv_store_rows.proofs.versions.undo_last.Goals as goal

pub put_back-requires-clause-positive : goal.put_back-requires-clause-positive
put_back-requires-clause-positive c =
    (undone_small 9223372036854775808 c.args.journal.now c.pop.new.self c.in-Some.change c.in-Some.ensures.last c.requires.small).0

pub put_back-requires-clause-small : goal.put_back-requires-clause-small
put_back-requires-clause-small c =
    (undone_small 9223372036854775808 c.args.journal.now c.pop.new.self c.in-Some.change c.in-Some.ensures.last c.requires.small).1

pub put_back-requires-clause-slot : goal.put_back-requires-clause-slot
put_back-requires-clause-slot c =
    undone_slot c.args.slots.now.slots c.args.journal.now c.pop.new.self c.in-Some.change c.in-Some.ensures.last c.requires.slots

pub put_back-requires-clause-room : goal.put_back-requires-clause-room
put_back-requires-clause-room c =
    undone_room (live_rows c.args.slots.now.slots) c.args.slots.now.numbers c.args.journal.now c.pop.new.self c.in-Some.change c.in-Some.ensures.last
    c.recall_order.ensures.files.covers c.requires.made c.requires.room

pub returns-in-Some-clause-rows : goal.returns-in-Some-clause-rows
returns-in-Some-clause-rows c =
    undone_rows c.args.slots.now.slots c.put_back.new.self.slots c.args.journal.now c.pop.new.self c.in-Some.change c.recall_order.ensures.files.rises
    c.in-Some.ensures.last c.put_back.ensures.slots

pub returns-in-Some-clause-slots : goal.returns-in-Some-clause-slots
returns-in-Some-clause-slots c =
    slots_left c.args.slots.now.slots c.put_back.new.self.slots c.args.journal.now c.pop.new.self c.in-Some.change c.in-Some.ensures.last
    c.put_back.ensures.slots c.requires.slots

pub returns-in-Some-clause-room : goal.returns-in-Some-clause-room
returns-in-Some-clause-room c =
    room_left (live_rows c.args.slots.now.slots) c.args.slots.now.numbers c.put_back.new.self.numbers c.args.journal.now c.pop.new.self c.in-Some.change
    c.in-Some.ensures.last c.recall_order.ensures.files.covers c.requires.made c.put_back.ensures.numbers c.requires.room
