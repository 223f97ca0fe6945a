use Rattle.std.proofs.Common.{◌∙◌}
use Rattle.iv_store_groups.specs.Groups.{groups_of}
use Rattle.iv_store_following.proofs.GroupsShown.{once, place_shown}
use Rattle.iv_store_following.proofs.shown.find.Goals as goal

pub returns-clause-place : goal.returns-clause-place
returns-clause-place c = c.find.ensures.place ∙ place_shown (groups_of c.args.groups.now.groups c.args.id) c.args.key.now

pub returns-clause-once : goal.returns-clause-once
returns-clause-once c = once (groups_of c.args.groups.now.groups c.args.id) (c.recall_groups.ensures.apart c.args.id)
