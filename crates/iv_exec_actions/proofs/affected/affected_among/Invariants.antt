use Rattle.std.proofs.Common.{◌≡◌, ◌++◌, drop}
use Rattle.iv_exec_actions.specs.AffectedForeignKey.{affected_from}
use Rattle.iv_exec_actions.proofs.affected.affected_among.Given as goal

abbrev pub invariant-loop-constraint : goal.invariant-loop-constraint
invariant-loop-constraint l = record {
  place : l.id ≡ l.constraint-index;
  so_far : l.found.items ++ affected_from l.changes l.id (drop l.constraint-index l.constraints) ≡ affected_from l.changes 0 l.constraints;
}
