use Rattle.iv_store_following.proofs.GroupsShown.{made_room, made_shown, made_sizes}
use Rattle.iv_store_following.proofs.shown.make_room.Goals as goal

pub returns-clause-ok : goal.returns-clause-ok
returns-clause-ok c = made_shown c.args.groups.now.groups c.make_room.new.self.groups c.args.id c.args.key.now c.requires.known c.in_ok-make_room.ensures.ok

pub returns-clause-room : goal.returns-clause-room
returns-clause-room c = made_room c.args.groups.now.groups c.make_room.new.self.groups c.args.id c.args.key.now c.requires.known c.in_ok-make_room.ensures.ok

pub returns-clause-sizes : goal.returns-clause-sizes
returns-clause-sizes c = made_sizes c.args.groups.now.groups c.make_room.new.self.groups c.args.id c.args.key.now c.requires.known c.in_ok-make_room.ensures.ok
