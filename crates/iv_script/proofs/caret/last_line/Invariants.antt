use Rattle.std.proofs.Common.{◌≡◌, length}
use Rattle.iv_script.specs.FaultLines.{last_line}
use Rattle.iv_script.proofs.caret.last_line.Given as goal

abbrev pub invariant-loop-byte : goal.invariant-loop-byte
invariant-loop-byte l = last_line l.line l.rest ≡ last_line l.text l.text

abbrev pub decreases-loop-byte : goal.decreases-loop-byte
decreases-loop-byte l = length l.rest
