use Rattle.std.proofs.Common.{sym, ◌∙◌}
use Rattle.iv_store_groups.specs.Groups.{groups_of}
use Rattle.iv_store_following.proofs.GroupsShown.{place_shown, put_shown, put_sizes}
use Rattle.iv_store_following.proofs.shown.put.Goals as goal

pub returns-clause-place : goal.returns-clause-place
returns-clause-place c = sym (place_shown (groups_of c.args.groups.now.groups c.args.id) c.args.key.now) ∙ c.put_back.ensures.place

pub returns-clause-rows : goal.returns-clause-rows
returns-clause-rows c =
    put_shown c.args.groups.now.groups c.put_back.new.self.groups c.args.id c.args.key.now c.requires.known c.args.row c.put_back.result.place
    (c.recall_groups.ensures.rising c.args.id) c.put_back.ensures.place c.put_back.ensures.groups

pub returns-clause-sizes : goal.returns-clause-sizes
returns-clause-sizes c = put_sizes c.args.groups.now.groups c.put_back.new.self.groups c.args.id c.args.key.now c.requires.known c.args.row c.put_back.ensures.groups
