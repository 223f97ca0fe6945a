use Rattle.std.proofs.Common.{◌≡◌, ◌++◌, drop, filter}
use Rattle.iv_dump.specs.Dumps.{is_other}
use Rattle.iv_dump.proofs.constraints.others.Given as goal

abbrev pub invariant-loop-constraint : goal.invariant-loop-constraint
invariant-loop-constraint l = l.rest.items ++ filter is_other (drop l.constraint-index l.constraints) ≡ filter is_other l.constraints
