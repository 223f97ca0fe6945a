use Rattle.std.proofs.Common.{◌≡◌, ◌++◌, drop, map}
use Rattle.iv_tests_levels.specs.Statements.{tuple_of}
use Rattle.iv_tests_levels.proofs.statements.tuples.Given as goal

abbrev pub invariant-loop-row : goal.invariant-loop-row
invariant-loop-row g l = l.tuples ++ map tuple_of (drop l.row-index l.rows) ≡ map tuple_of l.rows
