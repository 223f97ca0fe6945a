use Rattle.std.proofs.Common.{◌≡◌, ◌++◌, drop}
use Rattle.iv_exec_actions.specs.ByTable.{at_places}
use Rattle.iv_exec_actions.specs.Following.{effects_among}
use Rattle.iv_exec_actions.proofs.effect.effects_at_places.Given as goal

abbrev pub invariant-loop-place : goal.invariant-loop-place
invariant-loop-place l =
    l.effects.items ++ effects_among l.catalogue (at_places l.affected_keys (drop l.place-index l.places)) l.before l.after
    ≡ effects_among l.catalogue (at_places l.affected_keys l.places) l.before l.after
