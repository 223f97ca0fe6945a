use Rattle.iv_print.specs.AccountLines.{spaces}
use Rattle.iv_text.proofs.WriteLemmas.{Wrote}
use Rattle.iv_print.proofs.account.write_spaces.Given as goal

abbrev pub invariant-loop-left : goal.invariant-loop-left
invariant-loop-left g l = Wrote (spaces l.fn.depth) (spaces l.left) (g.W.Sink.state l.initial.sink) (g.W.Sink.state l.sink)

abbrev pub decreases-loop-left : goal.decreases-loop-left
decreases-loop-left g l = l.left
