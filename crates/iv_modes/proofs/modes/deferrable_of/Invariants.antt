use Rattle.std.proofs.Common.{◌≡◌, ◌++◌, drop, map}
use Rattle.iv_modes.proofs.modes.deferrable_of.Given as goal

abbrev pub invariant-loop-constraint : goal.invariant-loop-constraint
invariant-loop-constraint l = l.deferrable.items ++ map (λ c. c.deferrable) (drop l.constraint-index l.constraints) ≡ map (λ c. c.deferrable) l.constraints
