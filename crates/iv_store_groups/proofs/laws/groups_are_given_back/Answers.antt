use Rattle.iv_store_groups.proofs.GivingLemmas.{given_back_is_nothing, groups_leave}
use Rattle.iv_store_groups.proofs.laws.groups_are_given_back.Goals as goal

pub returns : goal.returns
returns c = record { leave = groups_leave; nothing = given_back_is_nothing }
