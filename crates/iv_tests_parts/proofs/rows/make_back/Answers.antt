use Rattle.std.proofs.Common.{[], ◌∷◌, sym, ap, subst, ◌∙◌}
use Rattle.iv_machine.specs.Databases.{rows_after}
use Rattle.iv_laws_kept.specs.Moves.{taken_back}
use Rattle.iv_store_faults.specs.Watching.{IsShownBy}
use Rattle.iv_store_faults.proofs.Shows.{shown_rows_are_present}
use Rattle.iv_tests_parts.proofs.TakenBack.{expected, held_before, made_again}
use Rattle.iv_tests_parts.proofs.rows.make_back.Goals as goal

pub moved_back-requires-clause-present : goal.moved_back-requires-clause-present
moved_back-requires-clause-present g c =
    shown_rows_are_present c.args.versions.now.rows c.args.faults.now.constraints c.args.groups.now.groups (taken_back c.args.change.now) c.requires.shown.shows (c.requires.shown.in_order, c.requires.is)

pub returns-clause-shown : goal.returns-clause-shown
returns-clause-shown g c =
    let rows = c.args.versions.now.rows in
    let change = c.args.change.now in
    subst (λ rows. IsShownBy rows c.moved_back.new.self c.moved_back.new.groups) (sym (ap (λ m. m.base.rows) (expected _ _ c.expect.ensures c.change.ensures.marked) ∙ ap (λ back. rows_after rows (back ∷ [])) c.requires.back))
    (c.moved_back.ensures.back (rows_after rows (taken_back change ∷ [])) (held_before rows change)
    (subst (λ rows. IsShownBy rows c.args.faults.now c.args.groups.now) (sym (made_again rows change (c.requires.shown.in_order, c.requires.is))) c.requires.shown))
