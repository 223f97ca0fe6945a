use Rattle.iv_print.specs.JsonAccounts.{ends}
use Rattle.iv_text.proofs.WriteLemmas.{Wrote}
use Rattle.iv_print.proofs.json_account.write_ends.Given as goal

abbrev pub invariant-loop-left : goal.invariant-loop-left
invariant-loop-left g l = Wrote (ends l.fn.depth) (ends l.left) (g.W.Sink.state l.initial.sink) (g.W.Sink.state l.sink)

abbrev pub decreases-loop-left : goal.decreases-loop-left
decreases-loop-left g l = l.left
