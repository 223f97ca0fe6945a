use Rattle.iv_store_following.specs.Turns.{KeyTurn}
use Rattle.iv_store_following.proofs.Turning.{turn, turn_watched}
use Rattle.iv_store_following.proofs.turns.move_keys.Goals as goal

pub move_key-requires-clause-watched : goal.move_key-requires-clause-watched
move_key-requires-clause-watched c =
    turn_watched (KeyTurn c.args.constraints.now c.args.change.now) 2 c.args.places.now c.loop-place.place-index c.args.groups.now c.loop-place.groups c.args.violating.now c.loop-place.violating
    c.loop-place-test.true c.loop-place.invariant c.requires.watched

pub loop-place-preserved : goal.loop-place-preserved
loop-place-preserved c =
    turn (KeyTurn c.args.constraints.now c.args.change.now) 2 c.args.places.now c.loop-place.place-index c.args.groups.now c.loop-place.groups c.args.violating.now c.loop-place.violating
    c.loop-place-test.true c.loop-place.invariant c.move_key.new.groups c.move_key.new.violating c.move_key.ensures.only c.move_key.ensures.watched c.move_key.ensures.moved
