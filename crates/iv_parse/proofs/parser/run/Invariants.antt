use Rattle.std.proofs.Common.{◌-◌, length}
use Rattle.iv_parse.proofs.Runs.{Run}
use Rattle.iv_parse.proofs.parser.run.Given as goal

abbrev pub invariant-loop-found : goal.invariant-loop-found
invariant-loop-found l = Run l.text l.tokens l.place l.statements

abbrev pub decreases-loop-found : goal.decreases-loop-found
decreases-loop-found l = length l.tokens - l.place
