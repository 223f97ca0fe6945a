use Rattle.std.proofs.Common.{drop}
use Rattle.iv_store_violating.specs.Flagging.{NoRepeats}
use Rattle.iv_store_following.specs.Turns.{ReferenceTurn, Turned}
use Rattle.iv_store_following.proofs.turns.move_references.Given as goal

-- the constraints before the place have had their turn
abbrev pub invariant-loop-place : goal.invariant-loop-place
invariant-loop-place l = Turned (ReferenceTurn l.constraints l.references l.change l.initial.groups.groups) 6 l.places (drop l.place-index l.places) l.initial.groups l.groups l.initial.violating l.violating × NoRepeats (drop l.place-index l.places)
