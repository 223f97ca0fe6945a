use Rattle.std.proofs.Common.{length}
use Rattle.iv_store_following.proofs.Rooms.{room_stays, stay_then}
use Rattle.iv_store_following.proofs.following.make_all_rooms.Goals as goal

pub returns-in_err-make_rooms-2-clause-stay : goal.returns-in_err-make_rooms-2-clause-stay
returns-in_err-make_rooms-2-clause-stay c =
    stay_then c.args.lists.now.constraints.now (length c.args.lists.now.keys.now) (length c.args.lists.now.foreign_keys.now) (length c.args.lists.now.constraints.now) c.args.groups.now c.make_rooms.new.groups c.make_rooms-2.new.groups
    c.args.violating.now c.make_rooms.new.violating c.make_rooms-2.new.violating c.requires.met.few c.make_rooms.ensures.stay c.make_rooms-2.ensures.stay

pub returns-clause-keys : goal.returns-clause-keys
returns-clause-keys c = λ k h.
    room_stays c.args.lists.now.constraints.now c.args.change.now (length c.args.lists.now.foreign_keys.now) c.make_rooms.new.groups c.make_rooms-2.new.groups c.make_rooms.new.violating c.make_rooms-2.new.violating k
    c.make_rooms-2.ensures.stay (c.in_ok-make_rooms.ensures.room k h)

pub returns-clause-stay : goal.returns-clause-stay
returns-clause-stay c =
    stay_then c.args.lists.now.constraints.now (length c.args.lists.now.keys.now) (length c.args.lists.now.foreign_keys.now) (length c.args.lists.now.constraints.now) c.args.groups.now c.make_rooms.new.groups c.make_rooms-2.new.groups
    c.args.violating.now c.make_rooms.new.violating c.make_rooms-2.new.violating c.requires.met.few c.make_rooms.ensures.stay c.make_rooms-2.ensures.stay
