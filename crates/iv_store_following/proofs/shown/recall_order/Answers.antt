use Rattle.iv_store_following.proofs.GroupsShown.{rows_rise_in}
use Rattle.iv_store_following.proofs.shown.recall_order.Goals as goal

pub returns : goal.returns
returns c = λ id key. rows_rise_in c.args.groups.now.groups id key (c.recall_groups.ensures.rising id)
