use Rattle.std.proofs.Common.{length}
use Rattle.std.specs.List.{flat_map}
use Rattle.iv_script.specs.FaultLines.{further_kind}
use Rattle.iv_text.proofs.WriteLemmas.{Wrote}
use Rattle.iv_script.proofs.fault_line.write_more.Given as goal

abbrev pub invariant-loop-kind : goal.invariant-loop-kind
invariant-loop-kind g l = Wrote (flat_map further_kind l.fn.kinds) (flat_map further_kind l.rest) (g.W.Sink.state l.initial.writer) (g.W.Sink.state l.writer)

abbrev pub decreases-loop-kind : goal.decreases-loop-kind
decreases-loop-kind g l = length l.rest
