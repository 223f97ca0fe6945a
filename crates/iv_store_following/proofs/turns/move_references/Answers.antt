use Rattle.std.proofs.Common.{get_or}
use Rattle.iv_store_groups.specs.Groups.{groups_of}
use Rattle.iv_laws_kept.specs.GroupFlags.{violating_of}
use Rattle.iv_store_following.specs.Turns.{ReferenceTurn}
use Rattle.iv_store_following.proofs.Turning.{from_start, named_there, turn, turn_watched}
use Rattle.iv_store_following.proofs.turns.move_references.Goals as goal

pub move_at-requires-clause-watched : goal.move_at-requires-clause-watched
move_at-requires-clause-watched c =
    turn_watched (ReferenceTurn c.args.constraints.now c.args.references.now c.args.change.now c.args.groups.now.groups) 6 c.args.places.now c.loop-place.place-index c.args.groups.now c.loop-place.groups
    c.args.violating.now c.loop-place.violating c.loop-place-test.true c.loop-place.invariant c.requires.watched

pub move_at-requires-clause-named : goal.move_at-requires-clause-named
move_at-requires-clause-named c =
    named_there c.args.constraints.now c.args.references.now c.args.change.now c.args.places.now c.loop-place.place-index c.args.groups.now c.loop-place.groups c.args.violating.now c.loop-place.violating
    c.loop-place-test.true c.loop-place.invariant c.requires.named

pub loop-place-preserved : goal.loop-place-preserved
loop-place-preserved c =
    turn (ReferenceTurn c.args.constraints.now c.args.references.now c.args.change.now c.args.groups.now.groups) 6 c.args.places.now c.loop-place.place-index c.args.groups.now c.loop-place.groups
    c.args.violating.now c.loop-place.violating c.loop-place-test.true c.loop-place.invariant c.move_at.new.groups c.move_at.new.violating c.move_at.ensures.only c.move_at.ensures.watched
    (from_start c.args.constraints.now c.args.references.now c.args.change.now c.args.places.now c.loop-place.place-index c.args.groups.now c.loop-place.groups c.args.violating.now c.loop-place.violating
    c.loop-place-test.true c.loop-place.invariant c.requires.named
    (groups_of c.move_at.new.groups.groups (get_or c.args.places.now c.loop-place.place-index 0)) (violating_of c.move_at.new.violating (get_or c.args.places.now c.loop-place.place-index 0)) c.move_at.ensures.moved)
