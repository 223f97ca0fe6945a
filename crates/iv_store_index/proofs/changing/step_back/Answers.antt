use Rattle.std.proofs.Common.{List, sym, subst, arith}
use Rattle.iv_store_index.specs.Types.{StoredRow}
use Rattle.iv_store_rows.specs.Histories.{History, rows_before}
use Rattle.iv_store_faults.specs.Watching.{IsShownBy}
use Rattle.iv_store_index.specs.Kept.{IsKept}
use Rattle.iv_store_index.proofs.Changes.{held_before, kept_back, present_back, room_back}
use Rattle.iv_store_index.proofs.changing.step_back.Goals as goal

pub moved_back-requires-clause-present : goal.moved_back-requires-clause-present
moved_back-requires-clause-present c = present_back c.args.versions.now c.in-Some.change.now c.args.faults.now c.args.groups.now c.requires.kept c.in-Some.ensures.made

pub moved_back-requires-clause-room : goal.moved_back-requires-clause-room
moved_back-requires-clause-room c =
    room_back c.args.versions.now c.in-Some.change.now c.args.place c.args.faults.now c.args.groups.now c.requires.kept c.requires.there c.in-Some.ensures.above c.in-Some.ensures.last
    c.in-Some.ensures.made c.in-Some.ensures.before

pub returns-clause-kept : goal.returns-clause-kept
returns-clause-kept c =
    let rows = c.args.versions.now.rows in
    let change = c.in-Some.change.now in
    let above = c.in-Some.ensures.above in
    subst (λ (h : History). IsKept h c.moved_back.new.self c.moved_back.new.groups) (sym c.step_back.ensures.back)
    (kept_back c.args.versions.now change c.args.place c.args.faults.now c.moved_back.new.self c.args.groups.now c.moved_back.new.groups c.requires.kept (omega (arith, above)) c.in-Some.ensures.last
    (c.moved_back.ensures.back (rows_before change rows) (held_before rows change c.in-Some.ensures.before)
    (subst (λ (rows : List StoredRow). IsShownBy rows c.args.faults.now c.args.groups.now) (sym c.in-Some.ensures.made) c.requires.kept.shown))
    c.moved_back.ensures.watched c.moved_back.ensures.constraints c.moved_back.ensures.sizes)
