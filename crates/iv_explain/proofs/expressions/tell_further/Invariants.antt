use Rattle.std.proofs.Common.{length}
use Rattle.std.specs.List.{flat_map}
use Rattle.iv_explain.specs.Expressions.{further_name}
use Rattle.iv_text.proofs.WriteLemmas.{Wrote}
use Rattle.iv_text.specs.Spelled.{spelled}
use Rattle.iv_explain.proofs.expressions.tell_further.Given as goal

abbrev pub invariant-loop-name : goal.invariant-loop-name
invariant-loop-name g l =
    Wrote (spelled l.fn.format (flat_map further_name l.fn.names)) (spelled l.fn.format (flat_map further_name l.rest)) (g.W.Sink.state l.initial.writer) (g.W.Sink.state l.writer)

abbrev pub decreases-loop-name : goal.decreases-loop-name
decreases-loop-name g l = length l.rest
