use Rattle.iv_store_index.proofs.Changes.{kept_given_back}
use Rattle.iv_store_index.proofs.changing.settle.Goals as goal

pub returns-clause-kept : goal.returns-clause-kept
returns-clause-kept c =
    kept_given_back c.args.versions.now c.settle.new.self c.args.faults.now c.give_back.new.self c.args.groups.now c.give_back.new.groups c.requires c.settle.ensures.kept
    c.give_back.ensures.shown c.give_back.ensures.watched c.give_back.ensures.constraints
