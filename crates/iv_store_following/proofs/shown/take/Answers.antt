use Rattle.std.proofs.Common.{sym, ◌∙◌}
use Rattle.iv_store_groups.specs.Groups.{groups_of}
use Rattle.iv_store_following.proofs.GroupsShown.{has_shown, place_shown, taken_room, taken_shown, taken_sizes}
use Rattle.iv_store_following.proofs.shown.take.Goals as goal

pub remove-requires-clause-present : goal.remove-requires-clause-present
remove-requires-clause-present c = has_shown (groups_of c.args.groups.now.groups c.args.id) c.args.key.now c.args.row c.requires.present

pub returns-clause-place : goal.returns-clause-place
returns-clause-place c = sym (place_shown (groups_of c.args.groups.now.groups c.args.id) c.args.key.now) ∙ c.remove.ensures.place

pub returns-clause-rows : goal.returns-clause-rows
returns-clause-rows c =
    taken_shown c.args.groups.now.groups c.remove.new.self.groups c.args.id c.args.key.now c.requires.known c.args.row c.remove.result.place
    (c.recall_groups.ensures.rising c.args.id) c.remove.ensures.place c.remove.ensures.groups

pub returns-clause-room : goal.returns-clause-room
returns-clause-room c = taken_room c.args.groups.now.groups c.remove.new.self.groups c.args.id c.args.key.now c.requires.known c.args.row c.remove.ensures.groups

pub returns-clause-sizes : goal.returns-clause-sizes
returns-clause-sizes c = taken_sizes c.args.groups.now.groups c.remove.new.self.groups c.args.id c.args.key.now c.requires.known c.args.row c.requires.present c.remove.ensures.groups
