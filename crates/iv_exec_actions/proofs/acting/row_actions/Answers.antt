use Rattle.std.proofs.Common.{◌≡◌, ◌∙◌, sym, ap, subst, flat_map, IfOk}
use Rattle.iv_account.specs.Accounts.{actions_at as actions_between}
use Rattle.iv_laws_kept.specs.FollowingWaves.{LedTo}
use Rattle.iv_exec_actions.specs.AffectedForeignKey.{affected_from}
use Rattle.iv_exec_actions.proofs.ActingKeys.{acting_on_all}
use Rattle.iv_exec_actions.proofs.acting.row_actions.Goals as goal

pub returns : goal.returns
returns g c before led =
    let later = (g.K.ReferencingRows.view c.args.store.now).base in
    let changes = c.changes-changes.result.now in
    subst (λ l. IfOk c.actions_on_all.result (λ v. v.items ≡ l))
    (acting_on_all c.args.catalogue.now before later changes c.changes.result.now _
    (c.in_ok-affected_keys.ensures ∙ ap (affected_from changes 0) c.constraints.ensures.constraints)
    (subst (λ l. LedTo before l later) (sym c.changes-changes.ensures.list) led)
    ∙ ap (flat_map (λ change. actions_between c.args.catalogue.now before.rows later.rows change.row)) c.changes.ensures.list)
    c.actions_on_all.ensures
