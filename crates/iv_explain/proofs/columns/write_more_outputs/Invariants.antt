use Rattle.std.proofs.Common.{length, map}
use Rattle.std.specs.List.{flat_map}
use Rattle.iv_syntax.specs.declared.tree.Expression.{Expression}
use Rattle.iv_explain.specs.Columns.{further_in, output_text}
use Rattle.iv_text.proofs.WriteLemmas.{Wrote}
use Rattle.iv_explain.proofs.columns.write_more_outputs.Given as goal

abbrev pub invariant-loop-expression : goal.invariant-loop-expression
invariant-loop-expression g l =
    Wrote (flat_map (further_in l.fn.format) (map {A = Expression} output_text l.fn.expressions)) (flat_map (further_in l.fn.format) (map {A = Expression} output_text l.rest)) (g.W.Sink.state l.initial.writer) (g.W.Sink.state l.writer)

abbrev pub decreases-loop-expression : goal.decreases-loop-expression
decreases-loop-expression g l = length l.rest
