use Rattle.std.proofs.Common.{◌≡◌, ◌++◌, drop, filter}
use Rattle.iv_dump.specs.Dumps.{is_own_key}
use Rattle.iv_dump.proofs.constraints.own_keys.Given as goal

abbrev pub invariant-loop-constraint : goal.invariant-loop-constraint
invariant-loop-constraint l = l.found.items ++ filter is_own_key (drop l.constraint-index l.constraints) ≡ filter is_own_key l.constraints
