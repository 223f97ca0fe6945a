use Rattle.std.proofs.Common.{length}
use Rattle.iv_text.proofs.WriteLemmas.{Wrote}
use Rattle.iv_text.proofs.write.write_all.Given as goal

abbrev pub invariant-loop-rest : goal.invariant-loop-rest
invariant-loop-rest g l = Wrote l.bytes l.rest (g.W.Sink.state l.initial.sink) (g.W.Sink.state l.sink)

abbrev pub decreases-loop-rest : goal.decreases-loop-rest
decreases-loop-rest g l = length l.rest
