use Rattle.std.proofs.Common.{length}
use Rattle.std.specs.List.{flat_map}
use Rattle.iv_text.specs.Lines.{quote_doubled}
use Rattle.iv_text.proofs.WriteLemmas.{Wrote}
use Rattle.iv_text.proofs.outcome.write_characters.Given as goal

abbrev pub invariant-loop-byte : goal.invariant-loop-byte
invariant-loop-byte g l = Wrote (flat_map quote_doubled l.fn.bytes) (flat_map quote_doubled l.rest) (g.W.Sink.state l.initial.sink) (g.W.Sink.state l.sink)

abbrev pub decreases-loop-byte : goal.decreases-loop-byte
decreases-loop-byte g l = length l.rest
