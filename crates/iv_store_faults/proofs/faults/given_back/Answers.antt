use Rattle.iv_store_faults.proofs.Shows.{shown_given}
use Rattle.iv_store_faults.proofs.faults.given_back.Goals as goal

pub returns-clause-shown : goal.returns-clause-shown
returns-clause-shown c = λ rows shows.
    shown_given c.args.constraints.now c.args.groups.now c.give_back.new.groups c.args.violating.now c.give_back.new.violating rows c.requires.taken_up.named c.give_back.ensures shows
