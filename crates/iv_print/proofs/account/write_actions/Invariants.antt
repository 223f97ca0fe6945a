use Rattle.std.proofs.Common.{length}
use Rattle.iv_print.specs.AccountLines.{action_lines}
use Rattle.iv_text.proofs.WriteLemmas.{Wrote}
use Rattle.iv_print.proofs.account.write_actions.Given as goal

abbrev pub invariant-loop-acted : goal.invariant-loop-acted
invariant-loop-acted g l =
    Wrote (action_lines l.fn.catalogue l.fn.depth l.fn.actions) (action_lines l.fn.catalogue l.fn.depth l.rest)
    (g.W.Sink.state l.initial.sink) (g.W.Sink.state l.sink)

abbrev pub decreases-loop-acted : goal.decreases-loop-acted
decreases-loop-acted g l = length l.rest
