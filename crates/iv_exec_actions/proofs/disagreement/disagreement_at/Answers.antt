use Rattle.std.proofs.Common.{◌≡◌, ◌∙◌, sym, ap, subst, IfOk}
use Rattle.iv_laws_kept.specs.FollowingWaves.{LedTo}
use Rattle.iv_exec_actions.specs.AffectedForeignKey.{affected_from}
use Rattle.iv_exec_actions.proofs.Disagreeing.{disagreement_is}
use Rattle.iv_exec_actions.proofs.disagreement.disagreement_at.Goals as goal

pub returns : goal.returns
returns g c before led =
    let later = (g.K.ReferencingRows.view c.args.store.now).base in
    let changes = c.changes-changes.result.now in
    subst (λ o. IfOk c.disagreement_by.result (λ how. how ≡ o))
    (disagreement_is c.args.catalogue.now before later changes _
    (c.in_ok-affected_keys.ensures ∙ ap (affected_from changes 0) c.constraints.ensures.constraints)
    (subst (λ l. LedTo before l later) (sym c.changes-changes.ensures.list) led) c.args.fault.now)
    c.disagreement_by.ensures
