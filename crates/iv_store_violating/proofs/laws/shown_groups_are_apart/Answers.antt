use Rattle.iv_store_violating.proofs.Apart.{shown_groups_are_apart}
use Rattle.iv_store_violating.proofs.laws.shown_groups_are_apart.Goals as goal

pub returns : goal.returns
returns c = shown_groups_are_apart
