use Rattle.std.proofs.Common.{◌≡◌, ◌++◌, drop}
use Rattle.iv_catalogue.proofs.copies.copy_constraints.Given as goal

abbrev pub invariant-loop-constraint : goal.invariant-loop-constraint
invariant-loop-constraint l = l.copy.items ++ drop l.constraint-index l.constraints ≡ l.constraints
