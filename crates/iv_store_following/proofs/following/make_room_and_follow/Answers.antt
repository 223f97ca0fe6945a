use Rattle.iv_store_following.proofs.Rooms.{ready, then_followed}
use Rattle.iv_store_following.proofs.following.make_room_and_follow.Goals as goal

pub follow-requires-clause-ready : goal.follow-requires-clause-ready
follow-requires-clause-ready c =
    ready c.args.lists.now.constraints.now c.args.change.now c.args.lists.now.keys.now c.args.lists.now.foreign_keys.now _ c.args.groups.now c.make_all_rooms.new.groups c.args.violating.now c.make_all_rooms.new.violating
    c.requires.met c.requires.present c.make_all_rooms.ensures.stay c.in_ok-make_all_rooms.ensures.keys c.in_ok-make_all_rooms.ensures.foreign_keys

pub returns-clause-ok : goal.returns-clause-ok
returns-clause-ok c =
    then_followed c.args.lists.now.constraints.now c.args.change.now c.args.groups.now c.make_all_rooms.new.groups c.follow.new.groups c.args.violating.now c.make_all_rooms.new.violating c.follow.new.violating
    c.requires.named c.make_all_rooms.ensures.stay c.follow.ensures
