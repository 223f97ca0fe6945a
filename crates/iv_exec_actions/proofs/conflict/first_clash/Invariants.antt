use Rattle.std.proofs.Common.{◌≡◌, drop, find}
use Rattle.iv_laws_kept.specs.FollowingWaves.{clashes}
use Rattle.iv_exec_actions.proofs.conflict.first_clash.Given as goal

abbrev pub invariant-loop-effect : goal.invariant-loop-effect
invariant-loop-effect l = find (clashes l.all) (drop l.effect-index l.effects) ≡ find (clashes l.all) l.effects
