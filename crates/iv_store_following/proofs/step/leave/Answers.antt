use Rattle.std.proofs.Common.{refl, not, ◌∙◌}
use Rattle.iv_laws_kept.specs.Numbers.{without}
use Rattle.iv_laws_kept.specs.GroupFlags.{violating_of}
use Rattle.iv_store_violating.specs.Shown.{shown_of}
use Rattle.iv_store_following.proofs.Steps.{flag_at_tells, rows_change}
use Rattle.iv_store_following.proofs.Watched.{flag_put, place_flagged, watched_set}
use Rattle.iv_store_following.proofs.step.leave.Goals as goal

pub set-requires-clause-place : goal.set-requires-clause-place
set-requires-clause-place c = place_flagged c.args.groups.now.groups c.args.violating.now c.args.id c.args.key.now c.take-found.result.place c.requires.watched c.take-found.ensures.place

pub returns-clause-rows : goal.returns-clause-rows
returns-clause-rows c = λ other.
    rows_change (without c.args.row) (shown_of c.args.groups.now.groups c.args.id) (shown_of c.take-found.new.groups.groups c.args.id) c.args.key.now c.take-found.result.place other c.take-found.ensures.place c.take-found.ensures.rows

pub returns-clause-watched : goal.returns-clause-watched
returns-clause-watched c =
    watched_set c.args.groups.now.groups c.take-found.new.groups.groups c.args.violating.now c.set.new.self c.args.id c.args.key.now c.take-found.result.place _ c.violate.result
    c.requires.watched c.take-found.ensures.place c.take-found.ensures.rows c.take-found.ensures.count c.set.ensures.count c.set.ensures.own

pub returns-clause-flagged : goal.returns-clause-flagged
returns-clause-flagged c = λ is_referenced right.
    flag_put c.args.groups.now.groups c.take-found.new.groups.groups c.args.violating.now c.set.new.self c.args.id c.args.key.now c.take-found.result.place _ c.violate.result
    c.requires.watched c.take-found.ensures.place c.take-found.ensures.rows is_referenced c.args.rule.now c.take-found.result.count c.take-found.ensures.held
    (c.violate.ensures (λ _. not c.is_flagged-referenced.result) (λ _. refl)
    ∙ flag_at_tells is_referenced c.args.rule.now (shown_of c.args.groups.now.groups c.args.id) (violating_of c.args.violating.now c.args.id) c.args.key.now c.take-found.result.place c.args.row c.take-found.result.count c.is_flagged-referenced.result
    c.take-found.ensures.place c.requires.present c.is_flagged-referenced.ensures right)
    c.set.ensures.own right
