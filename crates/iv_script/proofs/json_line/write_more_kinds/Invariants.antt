use Rattle.std.proofs.Common.{length}
use Rattle.std.specs.List.{flat_map}
use Rattle.iv_script.specs.JsonLines.{further_text}
use Rattle.iv_text.proofs.WriteLemmas.{Wrote}
use Rattle.iv_script.proofs.json_line.write_more_kinds.Given as goal

abbrev pub invariant-loop-kind : goal.invariant-loop-kind
invariant-loop-kind g l = Wrote (flat_map further_text l.fn.kinds) (flat_map further_text l.rest) (g.W.Sink.state l.initial.writer) (g.W.Sink.state l.writer)

abbrev pub decreases-loop-kind : goal.decreases-loop-kind
decreases-loop-kind g l = length l.rest
