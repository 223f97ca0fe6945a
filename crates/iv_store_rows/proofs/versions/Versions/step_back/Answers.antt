use Rattle.std.proofs.Common.{◌∙◌, ◌<◌, ◌+◌, List, length, take, sym, ap, subst}
use Rattle.iv_store_rows.specs.declared.marked_point.MarkedPoint.{MarkedPoint}
use Rattle.iv_store_rows.specs.Histories.{History, history_of, marked_databases, noted_at, Kept}
use Rattle.iv_store_rows.proofs.Histories.{small_rows, marked_stepped}
use Rattle.iv_store_rows.proofs.Keeping.{kept_stepped, stepped_view}
use Rattle.iv_store_rows.proofs.versions.Versions.step_back.Goals as goal

pub undo_last-requires-clause-small : goal.undo_last-requires-clause-small
undo_last-requires-clause-small c =
    let s = c.self.inside in
    small_rows (history_of s.slots.slots s.next s.journal s.marks.items) c.self.invariant.sound

pub invariant_of-self : goal.invariant_of-self
invariant_of-self c =
    let s = c.self.inside in
    let there : c.args.place < length s.marks.items = subst (λ (h : History). c.args.place < length h.marks) (sym c.self.view_is) c.requires.there in
    let above : noted_at s.marks.items c.args.place < length s.journal =
    subst (λ (h : History). noted_at h.marks c.args.place < length h.journal) (sym c.self.view_is) c.requires.above in
    subst (λ (l : List MarkedPoint). Kept c.undo_last.new.slots.slots c.undo_last.new.slots.numbers s.next c.undo_last.new.journal l) (sym c.truncate.ensures.items)
    (kept_stepped s.slots.slots c.undo_last.new.slots.slots s.slots.numbers c.undo_last.new.slots.numbers s.next s.journal
    c.undo_last.new.journal s.marks.items c.args.place
    c.undo_last.ensures.rows c.undo_last.ensures.journal c.undo_last.ensures.slots c.undo_last.ensures.room there above c.self.invariant)

pub returns-clause-marked : goal.returns-clause-marked
returns-clause-marked c =
    let s = c.self.inside in
    let there : c.args.place < length s.marks.items = subst (λ (h : History). c.args.place < length h.marks) (sym c.self.view_is) c.requires.there in
    let above : noted_at s.marks.items c.args.place < length s.journal =
    subst (λ (h : History). noted_at h.marks c.args.place < length h.journal) (sym c.self.view_is) c.requires.above in
    ap (λ (l : List MarkedPoint). marked_databases (history_of c.undo_last.new.slots.slots s.next c.undo_last.new.journal l)) c.truncate.ensures.items
    ∙ ap (λ (h : History). marked_databases h)
    (stepped_view s.slots.slots c.undo_last.new.slots.slots s.next s.journal c.undo_last.new.journal s.marks.items c.args.place c.undo_last.ensures.rows
    c.undo_last.ensures.journal)
    ∙ marked_stepped (history_of s.slots.slots s.next s.journal s.marks.items) c.args.place there above c.self.invariant.sound
    ∙ ap (λ (h : History). take (c.args.place + 1) (marked_databases h)) c.self.view_is
