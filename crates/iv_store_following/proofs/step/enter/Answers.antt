use Rattle.iv_laws_kept.specs.Numbers.{with_number}
use Rattle.iv_store_violating.specs.Shown.{shown_of}
use Rattle.iv_store_following.proofs.Steps.{rows_change}
use Rattle.iv_store_following.proofs.Watched.{flag_put, place_flagged, watched_set}
use Rattle.iv_store_following.proofs.step.enter.Goals as goal

pub set-requires-clause-place : goal.set-requires-clause-place
set-requires-clause-place c = place_flagged c.args.groups.now.groups c.args.violating.now c.args.id c.args.key.now c.put-found.result.place c.requires.watched c.put-found.ensures.place

pub returns-clause-rows : goal.returns-clause-rows
returns-clause-rows c = λ other.
    rows_change (with_number c.args.row) (shown_of c.args.groups.now.groups c.args.id) (shown_of c.put-found.new.groups.groups c.args.id) c.args.key.now c.put-found.result.place other c.put-found.ensures.place c.put-found.ensures.rows

pub returns-clause-watched : goal.returns-clause-watched
returns-clause-watched c =
    watched_set c.args.groups.now.groups c.put-found.new.groups.groups c.args.violating.now c.set.new.self c.args.id c.args.key.now c.put-found.result.place _ c.violate.result
    c.requires.watched c.put-found.ensures.place c.put-found.ensures.rows c.put-found.ensures.count c.set.ensures.count c.set.ensures.own

pub returns-clause-flagged : goal.returns-clause-flagged
returns-clause-flagged c = λ is_referenced same.
    flag_put c.args.groups.now.groups c.put-found.new.groups.groups c.args.violating.now c.set.new.self c.args.id c.args.key.now c.put-found.result.place _ c.violate.result
    c.requires.watched c.put-found.ensures.place c.put-found.ensures.rows is_referenced c.args.rule.now c.put-found.result.count c.put-found.ensures.held (c.violate.ensures is_referenced same) c.set.ensures.own
