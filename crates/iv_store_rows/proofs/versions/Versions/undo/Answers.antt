use Rattle.std.proofs.Common.{◌∙◌, List, sym, ap, subst}
use Rattle.iv_store_rows.specs.declared.marked_point.MarkedPoint.{MarkedPoint}
use Rattle.iv_store_rows.specs.Histories.{History, history_of, marked_of, Kept}
use Rattle.iv_store_rows.proofs.Histories.{marked_before}
use Rattle.iv_store_rows.proofs.Keeping.{kept_taken}
use Rattle.iv_store_rows.proofs.versions.Versions.undo.Goals as goal

pub invariant_of-self : goal.invariant_of-self
invariant_of-self c =
    let s = c.self.inside in
    subst (λ (l : List MarkedPoint). Kept s.slots.slots s.slots.numbers s.next s.journal l) (sym c.truncate.ensures.items)
    (kept_taken s.slots.slots s.slots.numbers s.next s.journal s.marks.items c.args.place c.self.invariant)

pub returns-clause-marked : goal.returns-clause-marked
returns-clause-marked c =
    let s = c.self.inside in
    ap (λ (l : List MarkedPoint). marked_of (history_of s.slots.slots s.next s.journal l)) c.truncate.ensures.items
    ∙ marked_before (history_of s.slots.slots s.next s.journal s.marks.items) (marked_of c.args.self.now) c.args.place
    (ap (λ (h : History). marked_of h) c.self.view_is ∙ c.undo_to.ensures.marked)
