use Rattle.std.proofs.Common.{◌≡◌, ◌++◌, drop}
use Rattle.iv_exec_actions.specs.ByTable.{at_places}
use Rattle.iv_exec_actions.specs.RowActions.{actions_among}
use Rattle.iv_exec_actions.proofs.acting.push_at_places.Given as goal

abbrev pub invariant-loop-place : goal.invariant-loop-place
invariant-loop-place l =
    l.actions.items ++ actions_among (at_places l.affected_keys (drop l.place-index l.places)) l.before l.after
    ≡ l.initial.actions.items ++ actions_among (at_places l.affected_keys l.places) l.before l.after
