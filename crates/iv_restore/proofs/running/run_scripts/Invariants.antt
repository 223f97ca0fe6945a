use Rattle.std.proofs.Common.{length, map, string_bytes}
use Rattle.iv_machine.specs.Machine.{State}
use Rattle.iv_restore.specs.Restoring.{RunScripts}
use Rattle.iv_restore.proofs.running.run_scripts.Given as goal

abbrev pub invariant-loop-text : goal.invariant-loop-text
invariant-loop-text g l = (end : State) → RunScripts (g.X.Executor.state l.database) (map string_bytes l.rest) end
    → RunScripts (g.X.Executor.state l.initial.database) (map string_bytes l.scripts) end

abbrev pub decreases-loop-text : goal.decreases-loop-text
decreases-loop-text g l = length l.rest
