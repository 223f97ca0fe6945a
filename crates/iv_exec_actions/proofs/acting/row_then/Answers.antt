use Rattle.std.proofs.Common.{◌≡◌, ◌∙◌, sym, subst, IfOk}
use Rattle.iv_account.specs.Accounts.{if_some}
use Rattle.iv_laws_kept.specs.FollowingWaves.{LedTo}
use Rattle.iv_exec_actions.proofs.ActingKeys.{row_then_is}
use Rattle.iv_exec_actions.proofs.acting.row_then.Goals as goal

pub returns : goal.returns
returns g c before led =
    let later = (g.K.ReferencingRows.view c.args.store.now).base in
    subst (λ o. IfOk c.listed.result (λ v. v.items ≡ if_some o))
    (c.in_ok-row.ensures ∙ sym (row_then_is before later c.changes.result.now c.args.number (subst (λ l. LedTo before l later) (sym c.changes.ensures.list) led)))
    c.listed.ensures
