use Rattle.std.proofs.Common.{◌≡◌, length}
use Rattle.iv_restate.proofs.triggers.body_of.Given as goal

abbrev pub invariant-loop-statement : goal.invariant-loop-statement
invariant-loop-statement l = length l.actions ≡ l.statement-index
