use Rattle.iv_shown.specs.Copying.{Copies}
use Rattle.iv_shown.specs.Texts.{refusal_trigger}
use Rattle.sqlkeep_c.proofs.Refused.{by_refusal, refused_status}
use Rattle.sqlkeep_c.proofs.texts.sqlkeep_trigger.Goals as goal

pub returns-clause-bytes : goal.returns-clause-bytes
returns-clause-bytes c = rw (← c.in-Some.ensures.taken, ← c.deref.ensures) (by_refusal (refusal_trigger c.deref.result.now.session.state.schema)
    (λ text. Copies c.args.from text c.args.buffer.now c.copied_if_there-status.new.buffer c.copied_if_there-status.new.count) c.deref.result.now.outcome
    (rw (← c.last_trigger.ensures) c.copied_if_there-status.ensures.bytes))

pub returns-clause-status : goal.returns-clause-status
returns-clause-status c = rw (← c.in-Some.ensures.taken, ← c.deref.ensures) (refused_status (refusal_trigger c.deref.result.now.session.state.schema) c.deref.result.now.outcome _
    (rw (← c.last_trigger.ensures) c.copied_if_there-status.ensures.status))
