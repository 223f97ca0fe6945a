use Rattle.iv_session.proofs.Sound.{listed_rise}
use Rattle.iv_session.proofs.session.Session.pending.Goals as goal

pub returns-clause-rise : goal.returns-clause-rise
returns-clause-rise g c = listed_rise c.self.inside.state.state c.pending.result (λ v. v.items) c.self.invariant c.pending.ensures
