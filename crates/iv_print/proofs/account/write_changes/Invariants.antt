use Rattle.std.proofs.Common.{length}
use Rattle.iv_print.specs.AccountLines.{change_lines}
use Rattle.iv_text.proofs.WriteLemmas.{Wrote}
use Rattle.iv_print.proofs.account.write_changes.Given as goal

abbrev pub invariant-loop-change : goal.invariant-loop-change
invariant-loop-change g l =
    Wrote (change_lines l.fn.catalogue l.fn.depth l.fn.words l.fn.changes) (change_lines l.fn.catalogue l.fn.depth l.fn.words l.rest)
    (g.W.Sink.state l.initial.sink) (g.W.Sink.state l.sink)

abbrev pub decreases-loop-change : goal.decreases-loop-change
decreases-loop-change g l = length l.rest
