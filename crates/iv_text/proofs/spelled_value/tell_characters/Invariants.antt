use Rattle.std.proofs.Common.{length}
use Rattle.std.specs.List.{flat_map}
use Rattle.iv_text.specs.Lines.{quote_doubled}
use Rattle.iv_text.proofs.WriteLemmas.{Wrote}
use Rattle.iv_text.specs.Spelled.{spelled}
use Rattle.iv_text.proofs.spelled_value.tell_characters.Given as goal

abbrev pub invariant-loop-byte : goal.invariant-loop-byte
invariant-loop-byte g l =
    Wrote (spelled l.fn.format (flat_map quote_doubled l.fn.bytes)) (spelled l.fn.format (flat_map quote_doubled l.rest)) (g.W.Sink.state l.initial.writer) (g.W.Sink.state l.writer)

abbrev pub decreases-loop-byte : goal.decreases-loop-byte
decreases-loop-byte g l = length l.rest
