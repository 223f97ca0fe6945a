use Rattle.iv_catalogue.specs.declared.plan.TransactionPlan.TheVariants as transaction
use Rattle.iv_session.proofs.Sound.{performs_reached}
use Rattle.iv_session.proofs.session.Session.rollback_to.Goals as goal

pub invariant_of-self : goal.invariant_of-self
invariant_of-self g c =
    performs_reached c.self.inside.state.state (transaction.RollbackTo c.args.name.now) c.rollback_to.result c.rollback_to.new.self c.self.invariant c.rollback_to.ensures.performs
