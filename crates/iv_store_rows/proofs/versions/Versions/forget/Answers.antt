use Rattle.std.proofs.Common.{◌∙◌, List, sym, ap, subst}
use Rattle.iv_store_rows.specs.declared.marked_point.MarkedPoint.{MarkedPoint}
use Rattle.iv_store_rows.specs.Histories.{History, history_of, marked_of, without_mark, Kept}
use Rattle.iv_store_rows.proofs.Histories.{marked_without}
use Rattle.iv_store_rows.proofs.Keeping.{kept_without}
use Rattle.iv_store_rows.proofs.versions.Versions.forget.Goals as goal

pub invariant_of-self : goal.invariant_of-self
invariant_of-self c =
    let s = c.self.inside in
    subst (λ (l : List MarkedPoint). Kept s.slots.slots s.slots.numbers s.next s.journal l) (sym c.remove.ensures.items)
    (kept_without s.slots.slots s.slots.numbers s.next s.journal s.marks.items c.args.place c.self.invariant)

pub returns-clause-marked : goal.returns-clause-marked
returns-clause-marked c =
    let s = c.self.inside in
    ap (λ (l : List MarkedPoint). marked_of (history_of s.slots.slots s.next s.journal l)) c.remove.ensures.items
    ∙ marked_without (history_of s.slots.slots s.next s.journal s.marks.items) c.args.place
    ∙ ap (λ (h : History). without_mark (marked_of h) c.args.place) c.self.view_is
