use Rattle.std.proofs.Common.{◌≡◌, ℕ, ◌+◌, drop}
use Rattle.std.specs.List.{enumerate_from}
use Rattle.iv_catalogue.specs.declared.plan.BodyStatement.{BodyStatement}
use Rattle.iv_machine.specs.BeforeTriggers.{change_after_statement}
use Rattle.iv_machine.specs.Context.{in_turn}
use Rattle.iv_account.specs.Accounts.{set_told, told_in_turn}
use Rattle.iv_account.specs.Telling.{and_told}
use Rattle.iv_exec_triggers.proofs.before.run_body.Given as goal

abbrev pub invariant-loop-statement : goal.invariant-loop-statement
invariant-loop-statement g l =
    let f = λ (s : ℕ × BodyStatement). change_after_statement l.context (g.R.Rows.rows l.rows) l.trigger s.0 s.1 in
    let tell = λ (s : ℕ × BodyStatement). set_told l.context (g.R.Rows.rows l.rows) s.1 in
    record {
      counted : l.place ≡ 1 + l.statement-index;
      rest : in_turn f (enumerate_from l.place (drop l.statement-index l.body)) l.change ≡ in_turn f (enumerate_from 1 l.trigger.body) l.initial.change;
      told : and_told l.account (told_in_turn f tell (enumerate_from l.place (drop l.statement-index l.body)) l.change)
          ≡ and_told l.initial.account (told_in_turn f tell (enumerate_from 1 l.trigger.body) l.initial.change);
    }
