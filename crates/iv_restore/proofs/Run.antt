-- What an execution answers that was accepted.
use Rattle.std.proofs.Common.{Ok, sym}
use Rattle.iv_syntax.specs.declared.statement.Statement.{Statement}
use Rattle.iv_machine.specs.declared.answer.Answer.{Answer}
use Rattle.iv_machine.specs.Machine.{State}
use Rattle.iv_step.specs.Step.{Executes}
use Rattle.iv_restore.specs.Restoring.{IsAccepted}

pub was_accepted : (old : State) (st : Statement) (a : Answer) (new : State) → Executes old st (Ok a) new → IsAccepted old st new
was_accepted old st a new h = record { answer = a; accepted = sym h.0; state = h.1 }
