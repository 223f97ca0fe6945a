use Rattle.std.proofs.Common.{length}
use Rattle.std.specs.List.{flat_map}
use Rattle.iv_text.specs.Json.{further_value}
use Rattle.iv_text.proofs.WriteLemmas.{Wrote}
use Rattle.iv_text.proofs.json.write_more.Given as goal

abbrev pub invariant-loop-value : goal.invariant-loop-value
invariant-loop-value g l = Wrote (flat_map further_value l.fn.values) (flat_map further_value l.rest) (g.W.Sink.state l.initial.sink) (g.W.Sink.state l.sink)

abbrev pub decreases-loop-value : goal.decreases-loop-value
decreases-loop-value g l = length l.rest
