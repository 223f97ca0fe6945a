use Rattle.std.proofs.Common.{◌≡◌, List, subst, sym}
use Rattle.iv_machine.specs.BeforeTriggers.{change_frame}
use Rattle.iv_account.specs.Accounts.{before_row_run_told, failure_told}
use Rattle.iv_account.specs.Failures.{when_failure}
use Rattle.iv_account.specs.Telling.{and_told}
use Rattle.iv_account.specs.declared.entry.Entry.{Entry}
use Rattle.iv_exec_context.specs.Answering.{UnlessMemoryCause}
use Rattle.iv_exec_triggers.proofs.before.run_at_row.Goals as goal

pub returns-in-Ok-clause-told : goal.returns-in-Ok-clause-told
returns-in-Ok-clause-told g c =
    let rows = g.R.Rows.rows c.args.rows.now in
    let t = c.args.trigger.now in
    let change = c.args.change.now in
    subst (λ (told : List Entry). UnlessMemoryCause c.run_by_truth.result (c.run_by_truth.new.account ≡ and_told c.args.account.now told))
    (sym (c.in-Ok.ensures.told (λ cause. failure_told cause (when_failure rows t (change_frame change))) (before_row_run_told c.args.context.now rows t change)))
    c.run_by_truth.ensures.told
