use Rattle.std.proofs.Common.{◌∙◌, ap}
use Rattle.iv_state.specs.Kept.{Seen}
use Rattle.iv_state.proofs.Defined.{executes_of, worked_of}
use Rattle.iv_session.proofs.session.Session.execute_telling.Goals as goal

pub returns-clause-step : goal.returns-clause-step
returns-clause-step g c =
    executes_of c.args.self.now.state c.args.statement.now c.run-answer.result c.run-answer.new.self c.count_lookups.new.self.state
    (c.count_lookups.ensures.state ∙ ap (λ (x : Seen). x.state) c.self-2.view_is) c.run-answer.ensures.runs

pub returns-clause-work : goal.returns-clause-work
returns-clause-work g c =
    worked_of c.args.self.now.state c.args.statement.now c.run-answer.result c.run-answer.new.self c.count_lookups.new.self.work
    (c.count_lookups.ensures.work ∙ ap (λ (x : Seen). x.work) c.self-2.view_is) c.run-answer.ensures.runs
