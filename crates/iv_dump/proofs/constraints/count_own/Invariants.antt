use Rattle.std.proofs.Common.{◌≡◌, ◌+◌, drop}
use Rattle.iv_dump.specs.Making.{own_count}
use Rattle.iv_dump.proofs.constraints.count_own.Given as goal

abbrev pub invariant-loop-constraint : goal.invariant-loop-constraint
invariant-loop-constraint l = record {
  at : l.count ≡ l.constraint-index;
  all : l.count + own_count l.fn.place (drop l.constraint-index l.constraints) ≡ own_count l.fn.place l.constraints;
}
