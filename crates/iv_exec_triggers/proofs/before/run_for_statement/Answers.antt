use Rattle.std.proofs.Common.{◌≡◌, [], ◌∷◌, List, subst, sym}
use Rattle.iv_expr.specs.Scopes.{no_frame}
use Rattle.iv_account.specs.Accounts.{failure_told, ran_or_skipped}
use Rattle.iv_account.specs.Failures.{when_failure}
use Rattle.iv_account.specs.Telling.{and_told}
use Rattle.iv_account.specs.declared.entry.Entry.{Entry}
use Rattle.iv_exec_context.specs.Answering.{UnlessMemoryCause}
use Rattle.iv_exec_triggers.proofs.before.run_for_statement.Goals as goal

pub returns-in-Ok-clause-told : goal.returns-in-Ok-clause-told
returns-in-Ok-clause-told g c =
    let t = c.args.trigger.now in
    subst (λ (told : List Entry). UnlessMemoryCause c.run_once.result (c.run_once.new.account ≡ and_told c.args.account.now told))
    (sym (c.in-Ok.ensures.told (λ cause. failure_told cause (when_failure (g.R.Rows.rows c.args.rows.now) t no_frame)) (λ when. ran_or_skipped t no_frame when ∷ [])))
    c.run_once.ensures.told
