use Rattle.std.proofs.Common.{◌≡◌, drop, find}
use Rattle.iv_exec_actions.specs.ByTable.{at_places}
use Rattle.iv_exec_actions.specs.Following.{restricts}
use Rattle.iv_exec_actions.proofs.restrict.first_among.Given as goal

abbrev pub invariant-loop-place : goal.invariant-loop-place
invariant-loop-place l =
    find (restricts l.row) (at_places l.affected_keys (drop l.place-index l.places)) ≡ find (restricts l.row) (at_places l.affected_keys l.places)
