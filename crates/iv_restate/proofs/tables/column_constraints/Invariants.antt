use Rattle.std.proofs.Common.{◌≡◌, ◌++◌, drop, map}
use Rattle.iv_restate.specs.Constraints.{column_constraint_of}
use Rattle.iv_restate.proofs.tables.column_constraints.Given as goal

abbrev pub invariant-loop-constraint : goal.invariant-loop-constraint
invariant-loop-constraint l =
    l.written ++ map (column_constraint_of l.fn.tables) (drop l.constraint-index l.constraints) ≡ map (column_constraint_of l.fn.tables) l.constraints
