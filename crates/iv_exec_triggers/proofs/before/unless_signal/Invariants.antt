use Rattle.std.proofs.Common.{◌≡◌, ℕ, ◌+◌, drop, find}
use Rattle.std.specs.List.{enumerate_from}
use Rattle.iv_catalogue.specs.declared.plan.BodyStatement.{BodyStatement}
use Rattle.iv_machine.specs.BeforeTriggers.{is_signal}
use Rattle.iv_exec_triggers.proofs.before.unless_signal.Given as goal

abbrev pub invariant-loop-statement : goal.invariant-loop-statement
invariant-loop-statement l =
    let signals = λ (s : ℕ × BodyStatement). is_signal s.1 in
    record {
      counted : l.place ≡ 1 + l.statement-index;
      rest : find signals (enumerate_from l.place (drop l.statement-index l.body)) ≡ find signals (enumerate_from 1 l.trigger.body);
    }
