use Rattle.std.proofs.Common.{sym, subst}
use Rattle.iv_step.proofs.Reached.{IsReached}
use Rattle.iv_session.proofs.Sound.{rolled_back_reached}
use Rattle.iv_session.proofs.session.Session.rollback.Goals as goal

pub invariant_of-self : goal.invariant_of-self
invariant_of-self g c = subst IsReached (sym c.rollback.ensures.state) (rolled_back_reached c.self.inside.state.state c.self.invariant)
