use Rattle.iv_store_following.specs.Turns.{RoomTurn}
use Rattle.iv_store_following.proofs.Turning.{all_stay, turn_refused, turn_watched, ended}
use Rattle.iv_store_following.proofs.turns.make_rooms.Goals as goal

pub make_room_at-requires : goal.make_room_at-requires
make_room_at-requires c = record {
  watched =
      turn_watched (RoomTurn c.args.constraints.now c.args.change.now) 1 c.args.places.now c.loop-place.place-index c.args.groups.now c.loop-place.groups c.args.violating.now c.loop-place.violating
      c.loop-place-test.true c.loop-place.invariant c.requires.watched;
}

pub returns-in_err-make_room_at-clause-stay : goal.returns-in_err-make_room_at-clause-stay
returns-in_err-make_room_at-clause-stay c =
    turn_refused c.args.constraints.now c.args.change.now c.args.places.now c.loop-place.place-index c.args.groups.now c.loop-place.groups c.make_room_at.new.groups c.args.violating.now c.loop-place.violating c.make_room_at.new.violating
    c.loop-place-test.true c.loop-place.invariant c.make_room_at.ensures.only c.make_room_at.ensures.watched c.make_room_at.ensures.stay

pub returns-clause-stay : goal.returns-clause-stay
returns-clause-stay c =
    all_stay c.args.constraints.now c.args.change.now c.args.places.now c.args.groups.now c.loop-place.groups c.args.violating.now c.loop-place.violating
    (ended (RoomTurn c.args.constraints.now c.args.change.now) 1 c.args.places.now c.loop-place.place-index c.args.groups.now c.loop-place.groups c.args.violating.now c.loop-place.violating c.loop-place-test.false c.loop-place.invariant)
