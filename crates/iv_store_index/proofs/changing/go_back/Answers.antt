use Rattle.std.proofs.Common.{◌<◌, ◌≤◌, length, sym, subst}
use Rattle.iv_store_rows.specs.Histories.{History, noted_at}
use Rattle.iv_store_index.proofs.Changes.{arrived}
use Rattle.iv_store_index.proofs.changing.go_back.Goals as goal

pub returns-clause-kept : goal.returns-clause-kept
returns-clause-kept c =
    let stays = c.step_back.ensures.stays c.loop-test.false in
    arrived c.args.place c.step_back.new.versions c.undo_to.new.self c.step_back.new.faults c.step_back.new.groups
    (subst (λ (h : History). c.args.place < length h.marks) (sym stays) c.loop.invariant.there)
    (subst (λ (h : History). length h.journal ≤ noted_at h.marks c.args.place) (sym stays) (c.step_back.ensures.none c.loop-test.false))
    c.undo_to.ensures.marked c.undo_to.ensures.journal c.undo_to.ensures.marks c.step_back.ensures.kept
