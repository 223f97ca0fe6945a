use Rattle.std.proofs.Common.{sym, ap, subst}
use Rattle.iv_store_faults.specs.Watching.{IsShownBy}
use Rattle.iv_store_faults.proofs.Shows.{shown_rows_are_present}
use Rattle.iv_tests_parts.proofs.TakenBack.{expected}
use Rattle.iv_tests_parts.proofs.rows.make.Goals as goal

pub moved-requires-clause-present : goal.moved-requires-clause-present
moved-requires-clause-present g c =
    shown_rows_are_present c.args.versions.now.rows c.args.faults.now.constraints c.args.groups.now.groups c.args.change.now c.requires.shown.shows (c.requires.shown.in_order, c.requires.is)

pub returns-clause-shown : goal.returns-clause-shown
returns-clause-shown g c =
    subst (λ rows. IsShownBy rows c.moved.new.self c.moved.new.groups) (sym (ap (λ m. m.base.rows) (expected _ _ c.expect-2.ensures c.change.ensures.marked)))
    (expected _ _ c.expect.ensures c.moved.ensures.ok c.args.versions.now.rows (c.requires.shown.in_order, c.requires.is) c.requires.shown)
