use Rattle.std.proofs.Common.{length}
use Rattle.iv_write.specs.Parts.{sequence_words}
use Rattle.iv_write.proofs.WriteLemmas.{Remains}
use Rattle.iv_write.proofs.parts.push_sequence.Given as goal

abbrev pub invariant-loop-part : goal.invariant-loop-part
invariant-loop-part g l = Remains l.initial.writer l.writer (sequence_words g.T.Written.words l.rest) (sequence_words g.T.Written.words l.fn.parts)

abbrev pub decreases-loop-part : goal.decreases-loop-part
decreases-loop-part g l = length l.rest
