use Rattle.std.proofs.Common.{length}
use Rattle.std.specs.List.{flat_map}
use Rattle.iv_text.specs.Rules.{further_name}
use Rattle.iv_text.proofs.WriteLemmas.{Wrote}
use Rattle.iv_text.specs.Spelled.{spelled}
use Rattle.iv_text.proofs.rule.tell_more_names.Given as goal

abbrev pub invariant-loop-place : goal.invariant-loop-place
invariant-loop-place g l =
    Wrote (spelled l.fn.format (flat_map (further_name l.fn.columns) l.fn.places)) (spelled l.fn.format (flat_map (further_name l.fn.columns) l.rest))
    (g.W.Sink.state l.initial.writer) (g.W.Sink.state l.writer)

abbrev pub decreases-loop-place : goal.decreases-loop-place
decreases-loop-place g l = length l.rest
