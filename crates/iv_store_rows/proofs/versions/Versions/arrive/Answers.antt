use Rattle.std.proofs.Common.{◌≡◌, ◌∙◌, ◌<◌, ◌≤◌, List, Some, length, sym, ap, subst}
use Rattle.std.specs.Prelude.{slice_get}
use Rattle.iv_store_rows.specs.declared.marked_point.MarkedPoint.{MarkedPoint}
use Rattle.iv_store_rows.specs.Histories.{History, history_of, marked_of, at_mark, noted_at, Kept}
use Rattle.iv_store_rows.proofs.Marks.{indexed, noted_is}
use Rattle.iv_store_rows.proofs.Histories.{marked_arrived}
use Rattle.iv_store_rows.proofs.Keeping.{kept_arrived}
use Rattle.iv_store_rows.proofs.versions.Versions.arrive.Goals as goal

pub invariant_of-self : goal.invariant_of-self
invariant_of-self c =
    let s = c.self.inside in
    let m : MarkedPoint = c.index.result.now in
    let there : c.args.place < length s.marks.items = subst (λ (h : History). c.args.place < length h.marks) (sym c.self.view_is) c.requires.there in
    let at : slice_get s.marks.items c.args.place ≡ Some m = indexed s.marks.items c.args.place m there ∙ ap (λ (x : MarkedPoint). Some x) (sym c.index.ensures) in
    let above : length s.journal ≤ m.noted =
    subst (λ n. length s.journal ≤ n) (noted_is s.marks.items c.args.place m at)
    (subst (λ (h : History). length h.journal ≤ noted_at h.marks c.args.place) (sym c.self.view_is) c.requires.above) in
    subst (λ (l : List MarkedPoint). Kept s.slots.slots s.slots.numbers m.next s.journal l) (sym c.truncate.ensures.items)
    (kept_arrived s.slots.slots s.slots.numbers s.next s.journal s.marks.items c.args.place m at above c.self.invariant)

pub returns-clause-marked : goal.returns-clause-marked
returns-clause-marked c =
    let s = c.self.inside in
    let m : MarkedPoint = c.index.result.now in
    let there : c.args.place < length s.marks.items = subst (λ (h : History). c.args.place < length h.marks) (sym c.self.view_is) c.requires.there in
    let at : slice_get s.marks.items c.args.place ≡ Some m = indexed s.marks.items c.args.place m there ∙ ap (λ (x : MarkedPoint). Some x) (sym c.index.ensures) in
    let above : length s.journal ≤ m.noted =
    subst (λ n. length s.journal ≤ n) (noted_is s.marks.items c.args.place m at)
    (subst (λ (h : History). length h.journal ≤ noted_at h.marks c.args.place) (sym c.self.view_is) c.requires.above) in
    ap (λ (l : List MarkedPoint). marked_of (history_of s.slots.slots m.next s.journal l)) c.truncate.ensures.items
    ∙ marked_arrived (history_of s.slots.slots s.next s.journal s.marks.items) c.args.place m at above c.self.invariant.sound
    ∙ ap (λ (h : History). at_mark (marked_of h) c.args.place) c.self.view_is
