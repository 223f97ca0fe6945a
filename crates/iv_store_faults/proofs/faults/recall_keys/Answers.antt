use Rattle.iv_store_violating.proofs.Shown.{keys_once}
use Rattle.iv_store_faults.proofs.faults.recall_keys.Goals as goal

pub returns : goal.returns
returns c = keys_once c.args.groups.now.groups c.recall_groups.ensures.apart
