use Rattle.std.proofs.Common.{◌≡◌, ◌++◌, drop}
use Rattle.iv_machine.specs.Databases.{initial_modes}
use Rattle.iv_modes.proofs.modes.initial_modes.Given as goal

abbrev pub invariant-loop-constraint : goal.invariant-loop-constraint
invariant-loop-constraint l = l.modes.items ++ initial_modes (drop l.constraint-index l.constraints) ≡ initial_modes l.constraints
