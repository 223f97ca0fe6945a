use Rattle.std.proofs.Common.{drop}
use Rattle.iv_store_violating.specs.Flagging.{NoRepeats}
use Rattle.iv_store_following.specs.Turns.{KeyTurn, Turned}
use Rattle.iv_store_following.proofs.turns.move_keys.Given as goal

-- the constraints before the place have had their turn
abbrev pub invariant-loop-place : goal.invariant-loop-place
invariant-loop-place l = Turned (KeyTurn l.constraints l.change) 2 l.places (drop l.place-index l.places) l.initial.groups l.groups l.initial.violating l.violating × NoRepeats (drop l.place-index l.places)
