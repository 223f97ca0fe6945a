use Rattle.std.proofs.Common.{drop}
use Rattle.iv_dump.specs.Making.{Triggers}
use Rattle.iv_dump.proofs.parts.push_triggers.Given as goal

abbrev pub invariant-loop-trigger : goal.invariant-loop-trigger
invariant-loop-trigger l = Triggers l.tables l.initial.scripts l.scripts l.triggers (drop l.trigger-index l.triggers)
