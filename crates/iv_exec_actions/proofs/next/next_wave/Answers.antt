use Rattle.std.proofs.Common.{◌∙◌, sym, ap, subst}
use Rattle.iv_laws_kept.specs.FollowingWaves.{is_among, LedTo}
use Rattle.iv_store.specs.Stores.{RisingNumbers}
use Rattle.iv_exec_actions.specs.AffectedForeignKey.{affected_from}
use Rattle.iv_exec_actions.specs.Following.{answer_among}
use Rattle.iv_exec_actions.specs.Answers.{AnswersWave}
use Rattle.iv_exec_actions.proofs.Answering.{answered, looked_at_most}
use Rattle.iv_exec_actions.proofs.next.next_wave.Goals as goal

pub returns-clause-followed : goal.returns-clause-followed
returns-clause-followed g c before context e same led =
    let changes = c.changes-changes.result.now in
    let s = g.K.ReferencingRows.view c.args.store.now in
    let s2 = g.K.ReferencingRows.view c.found.new.store in
    let xs = c.as_slice.result.now in
    let numbers = c.as_slice-2.result.now in
    answered c.args.catalogue.now s s2 changes xs numbers c.answer_among.result c.in_ok-numbers.ensures.kept
    (c.as_slice.ensures ∙ c.in_ok-affected_keys.ensures ∙ ap (affected_from changes 0) c.constraints.ensures.constraints)
    (subst (RisingNumbers 0) (sym c.as_slice-2.ensures.value) c.in_ok-numbers.ensures.rising)
    (λ n. ap (λ l. is_among l n) c.as_slice-2.ensures.value ∙ c.in_ok-numbers.ensures.same n)
    (subst (λ l. AnswersWave c.answer_among.result (answer_among c.args.catalogue.now l changes s2.base numbers)) (sym c.as_slice.ensures) c.answer_among.ensures)
    before context e same (subst (λ l. LedTo before l s.base) (sym c.changes-changes.ensures.list) led)

pub returns-in_err-numbers-clause-looked_up : goal.returns-in_err-numbers-clause-looked_up
returns-in_err-numbers-clause-looked_up g c =
    looked_at_most c.as_slice.result.now c.changes-changes.result.now c.args.wave.now.changes c.args.catalogue.now.constraints
    (g.K.ReferencingRows.lookups c.found.new.store) (g.K.ReferencingRows.lookups c.args.store.now)
    (c.as_slice.ensures ∙ c.in_ok-affected_keys.ensures ∙ ap (affected_from c.changes-changes.result.now 0) c.constraints.ensures.constraints)
    c.changes-changes.ensures.list c.found.ensures.looked_up

pub returns-clause-looked_up : goal.returns-clause-looked_up
returns-clause-looked_up g c =
    looked_at_most c.as_slice.result.now c.changes-changes.result.now c.args.wave.now.changes c.args.catalogue.now.constraints
    (g.K.ReferencingRows.lookups c.found.new.store) (g.K.ReferencingRows.lookups c.args.store.now)
    (c.as_slice.ensures ∙ c.in_ok-affected_keys.ensures ∙ ap (affected_from c.changes-changes.result.now 0) c.constraints.ensures.constraints)
    c.changes-changes.ensures.list c.found.ensures.looked_up
