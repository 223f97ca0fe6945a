use Rattle.std.proofs.Common.{length, ap, sym, ◌∙◌}
use Rattle.iv_store_groups.specs.Groups.{groups_of}
use Rattle.iv_store_following.proofs.GroupsShown.{rows_shown}
use Rattle.iv_store_faults.proofs.filling.count_under.Goals as goal

pub returns : goal.returns
returns c = c.len.ensures ∙ ap length (c.holders.ensures.value ∙ sym (rows_shown (groups_of c.args.groups.now.groups c.args.id) c.args.key.now))
