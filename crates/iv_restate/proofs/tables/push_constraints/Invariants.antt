use Rattle.std.proofs.Common.{◌≡◌, ◌++◌, drop}
use Rattle.iv_restate.specs.Statements.{constraint_elements}
use Rattle.iv_restate.proofs.tables.push_constraints.Given as goal

abbrev pub invariant-loop-constraint : goal.invariant-loop-constraint
invariant-loop-constraint l =
    l.elements ++ constraint_elements l.fn.tables (drop l.constraint-index l.constraints) ≡ l.fn.elements ++ constraint_elements l.fn.tables l.constraints
