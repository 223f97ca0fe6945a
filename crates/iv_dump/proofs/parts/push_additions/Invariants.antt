use Rattle.std.proofs.Common.{[], drop}
use Rattle.iv_dump.specs.Making.{Makes}
use Rattle.iv_dump.proofs.parts.push_additions.Given as goal

abbrev pub invariant-loop-constraint : goal.invariant-loop-constraint
invariant-loop-constraint l = Makes l.tables l.initial.scripts l.scripts [] [] l.constraints (drop l.constraint-index l.constraints)
