use Rattle.std.proofs.Common.{List, ◌∷◌, [], ap, sym, subst, ◌∙◌, arith}
use Rattle.iv_store_index.specs.Types.{StoredRow}
use Rattle.iv_machine.specs.Databases.{rows_after}
use Rattle.iv_laws_kept.specs.Moves.{Holds, taken_back}
use Rattle.iv_store_rows.specs.Histories.{History, Marked}
use Rattle.iv_store_faults.specs.Watching.{IsShownBy}
use Rattle.iv_store_faults.proofs.Rooming.{room_suffices}
use Rattle.iv_store_faults.proofs.Shows.{shown_rows_are_present}
use Rattle.iv_store_index.specs.Kept.{HasSizes, IsKept}
use Rattle.iv_store_index.proofs.Changes.{held_after, held_old, kept_after, kept_stays}
use Rattle.iv_store_index.proofs.Sizes.{sizes_now, sizes_stay}
use Rattle.iv_store_index.proofs.changing.make.Goals as goal

pub moved-requires-clause-present : goal.moved-requires-clause-present
moved-requires-clause-present c =
    shown_rows_are_present c.args.versions.now.rows c.args.faults.now.constraints c.args.groups.now.groups c.args.change.now c.requires.kept.shown.shows
    (c.requires.kept.shown.in_order, held_old c.args.versions.now.rows c.args.change.now c.requires.current c.requires.own)

pub moved_back-requires-clause-present : goal.moved_back-requires-clause-present
moved_back-requires-clause-present c =
    let rows = c.args.versions.now.rows in
    let change = c.args.change.now in
    let holds : Holds rows change = (c.requires.kept.shown.in_order, held_old rows change c.requires.current c.requires.own) in
    shown_rows_are_present (rows_after rows (change ∷ [])) c.moved.new.self.constraints c.moved.new.groups.groups (taken_back change) (c.in_ok-moved.ensures.ok rows holds c.requires.kept.shown).shows (held_after rows change)

pub moved_back-requires-clause-room : goal.moved_back-requires-clause-room
moved_back-requires-clause-room c =
    let rows = c.args.versions.now.rows in
    let change = c.args.change.now in
    let holds : Holds rows change = (c.requires.kept.shown.in_order, held_old rows change c.requires.current c.requires.own) in
    room_suffices rows c.moved.new.self.constraints c.moved.new.groups.groups change holds (c.in_ok-moved.ensures.ok rows holds c.requires.kept.shown).shows
    (subst (λ cs. HasSizes cs c.moved.new.groups.groups rows) (sym c.moved.ensures.constraints)
    (sizes_stay rows c.args.faults.now.constraints c.args.groups.now.groups c.moved.new.groups.groups c.moved.ensures.sizes
    (sizes_now rows c.args.faults.now.constraints c.args.groups.now.groups c.requires.kept.shown.shows)))

pub returns-in_err-moved-clause-kept : goal.returns-in_err-moved-clause-kept
returns-in_err-moved-clause-kept c =
    kept_stays c.args.versions.now c.args.faults.now c.moved.new.self c.args.groups.now c.moved.new.groups c.requires.kept (c.in_err-moved.ensures.err c.args.versions.now.rows c.requires.kept.shown)
    c.moved.ensures.watched c.moved.ensures.constraints c.moved.ensures.sizes

pub returns-in-Ok-clause-kept : goal.returns-in-Ok-clause-kept
returns-in-Ok-clause-kept c =
    let rows = c.args.versions.now.rows in
    let change = c.args.change.now in
    let holds : Holds rows change = (c.requires.kept.shown.in_order, held_old rows change c.requires.current c.requires.own) in
    kept_after c.args.versions.now c.change.new.self change c.args.faults.now c.moved.new.self c.args.groups.now c.moved.new.groups c.requires.kept c.in-Ok.ensures.ok c.in-Ok.ensures.back
    (subst (λ (rows : List StoredRow). IsShownBy rows c.moved.new.self c.moved.new.groups) (sym (ap (λ (m : Marked). m.base.rows) c.in-Ok.ensures.marked))
    (c.in_ok-moved.ensures.ok rows holds c.requires.kept.shown))
    c.moved.ensures.watched c.moved.ensures.constraints c.moved.ensures.sizes

pub returns-in-Err-clause-kept : goal.returns-in-Err-clause-kept
returns-in-Err-clause-kept c =
    let rows = c.args.versions.now.rows in
    let change = c.args.change.now in
    let holds : Holds rows change = (c.requires.kept.shown.in_order, held_old rows change c.requires.current c.requires.own) in
    subst (λ (h : History). IsKept h c.moved_back.new.self c.moved_back.new.groups) (sym c.in-Err.ensures.err)
    (kept_stays c.args.versions.now c.args.faults.now c.moved_back.new.self c.args.groups.now c.moved_back.new.groups c.requires.kept
    (c.moved_back.ensures.back rows holds (c.in_ok-moved.ensures.ok rows holds c.requires.kept.shown))
    c.moved_back.ensures.watched (c.moved_back.ensures.constraints ∙ c.moved.ensures.constraints)
    (λ k key. omega (arith, c.moved.ensures.sizes k key, c.moved_back.ensures.sizes k key)))
