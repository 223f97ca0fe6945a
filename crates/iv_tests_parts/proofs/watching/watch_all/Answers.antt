use Rattle.std.proofs.Common.{refl, [], ◌++◌, sym, ap, subst, ◌∙◌}
use Rattle.iv_store_groups.specs.Groups.{groups_of}
use Rattle.iv_store_faults.specs.Watching.{IsShownBy}
use Rattle.iv_tests_parts.proofs.TakenBack.{expected}
use Rattle.iv_tests_parts.proofs.Watched.{nothing_shown, no_row_shown}
use Rattle.iv_tests_parts.proofs.watching.watch_all.Goals as goal

pub returns-clause-shown : goal.returns-clause-shown
returns-clause-shown g c =
    expected _ _ c.expect-2.ensures c.watch.ensures.shown []
    (subst (λ w. IsShownBy [] w c.cover.new.self) (sym c.requires.no_constraint) (nothing_shown c.cover.new.self))
    (no_row_shown (c.args.faults.now.constraints ++ c.args.constraints.now) c.cover.new.self.groups (λ k. c.cover.ensures.groups k ∙ ap (λ g. groups_of g k) c.requires.no_group))
    (λ k d at. refl)
