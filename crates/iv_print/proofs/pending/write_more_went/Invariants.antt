use Rattle.std.proofs.Common.{length}
use Rattle.std.specs.List.{flat_map}
use Rattle.iv_print.specs.PendingLines.{further_went}
use Rattle.iv_text.proofs.WriteLemmas.{Wrote}
use Rattle.iv_print.proofs.pending.write_more_went.Given as goal

abbrev pub invariant-loop-fault : goal.invariant-loop-fault
invariant-loop-fault g l =
    Wrote (flat_map (further_went l.fn.catalogue) l.fn.faults) (flat_map (further_went l.fn.catalogue) l.rest) (g.W.Sink.state l.initial.sink) (g.W.Sink.state l.sink)

abbrev pub decreases-loop-fault : goal.decreases-loop-fault
decreases-loop-fault g l = length l.rest
