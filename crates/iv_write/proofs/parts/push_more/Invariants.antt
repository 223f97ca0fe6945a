use Rattle.std.proofs.Common.{length}
use Rattle.iv_write.specs.Parts.{more_words}
use Rattle.iv_write.proofs.WriteLemmas.{Remains}
use Rattle.iv_write.proofs.parts.push_more.Given as goal

abbrev pub invariant-loop-part : goal.invariant-loop-part
invariant-loop-part g l = Remains l.initial.writer l.writer (more_words g.T.Written.words l.rest) (more_words g.T.Written.words l.fn.parts)

abbrev pub decreases-loop-part : goal.decreases-loop-part
decreases-loop-part g l = length l.rest
