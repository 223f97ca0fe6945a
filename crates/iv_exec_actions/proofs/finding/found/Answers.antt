use Rattle.std.proofs.Common.{map, ap, ◌∙◌}
use Rattle.iv_expr.specs.declared.row.Change.{Change}
use Rattle.iv_laws_kept.specs.FollowingWaves.{is_among}
use Rattle.iv_exec_actions.proofs.Numbers.{rising_numbers, none_of_both, no_row_is_zero}
use Rattle.iv_exec_actions.proofs.finding.found.Goals as goal

pub returns-clause-rising : goal.returns-clause-rising
returns-clause-rising g c =
    let rows = map (λ (x : Change). x.row) c.args.changes.now in
    let before = c.in_ok-push_found_by_all.ensures.positive (ap (λ l. is_among l 0) c.new-numbers.ensures.items) in
    let both = none_of_both c.push_found_by_all.new.numbers.items rows before (no_row_is_zero 0 c.args.changes.now c.requires) in
    rising_numbers c.sort_once.new.numbers.items c.sort_once.ensures.rising
    (c.sort_once.ensures.same 0 ∙ ap (λ l. is_among l 0) c.in_ok-push_rows.ensures ∙ both)
