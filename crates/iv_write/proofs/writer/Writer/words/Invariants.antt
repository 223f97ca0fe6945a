use Rattle.std.proofs.Common.{map, length}
use Rattle.iv_lex.specs.Words.{plain}
use Rattle.iv_write.proofs.WriteLemmas.{Remains}
use Rattle.iv_write.proofs.writer.Writer.words.Given as goal

abbrev pub invariant-loop-kind : goal.invariant-loop-kind
invariant-loop-kind l = Remains l.initial.self l.self (map plain l.rest) (map plain l.fn.kinds)

abbrev pub decreases-loop-kind : goal.decreases-loop-kind
decreases-loop-kind l = length l.rest
