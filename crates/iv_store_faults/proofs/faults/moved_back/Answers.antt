use Rattle.std.proofs.Common.{sym, subst}
use Rattle.iv_store_groups.specs.Groups.{groups_of}
use Rattle.iv_store_following.specs.Steps.{IsReady}
use Rattle.iv_store_faults.proofs.Shows.{ready_back}
use Rattle.iv_store_faults.proofs.faults.moved_back.Goals as goal

pub follow-requires-clause-ready : goal.follow-requires-clause-ready
follow-requires-clause-ready c = λ k d at.
    subst (λ change. IsReady change d (groups_of c.args.groups.now.groups k)) (sym c.back.ensures)
    (ready_back c.args.constraints.now c.args.change.now c.args.groups.now.groups c.requires.present c.requires.room k d at)
