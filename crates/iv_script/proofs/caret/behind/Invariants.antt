use Rattle.std.proofs.Common.{◌≡◌, length}
use Rattle.iv_script.specs.FaultLines.{behind}
use Rattle.iv_script.proofs.caret.behind.Given as goal

abbrev pub invariant-loop-byte : goal.invariant-loop-byte
invariant-loop-byte l = behind l.left l.rest ≡ behind l.count l.text

abbrev pub decreases-loop-byte : goal.decreases-loop-byte
decreases-loop-byte l = length l.rest
