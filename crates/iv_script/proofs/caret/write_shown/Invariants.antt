use Rattle.std.proofs.Common.{length}
use Rattle.std.specs.List.{flat_map}
use Rattle.iv_script.specs.FaultLines.{shown}
use Rattle.iv_text.proofs.WriteLemmas.{Wrote}
use Rattle.iv_script.proofs.caret.write_shown.Given as goal

abbrev pub invariant-loop-byte : goal.invariant-loop-byte
invariant-loop-byte g l = Wrote (flat_map shown l.fn.bytes) (flat_map shown l.rest) (g.W.Sink.state l.initial.writer) (g.W.Sink.state l.writer)

abbrev pub decreases-loop-byte : goal.decreases-loop-byte
decreases-loop-byte g l = length l.rest
