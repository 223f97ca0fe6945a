use Rattle.std.proofs.Common.{◌≡◌, ◌∷◌, List, map, rules, ap}
use Rattle.std.specs.List.{flat_map}
use Rattle.iv_syntax.specs.declared.tree.Expression.{Expression}
use Rattle.iv_explain.specs.Columns.{further_in, output_text}
use Rattle.iv_text.proofs.WriteLemmas.{wrote_step}
use Rattle.iv_explain.proofs.columns.write_more_outputs.Goals as goal

pub loop-expression-preserved : goal.loop-expression-preserved
loop-expression-preserved g c =
    let e : c.loop-expression.rest.now ≡ c.in-Some.expression.now ∷ c.in-Some.others.now = search rules in
    let f = c.args.format in
    wrote_step (flat_map (further_in f) (map {A = Expression} output_text c.args.expressions.now)) (further_in f (output_text c.in-Some.expression.now)) (flat_map (further_in f) (map {A = Expression} output_text c.in-Some.others.now)) (flat_map (further_in f) (map {A = Expression} output_text c.loop-expression.rest.now))
    (g.W.Sink.state c.args.writer.now) (g.W.Sink.state c.loop-expression.writer) (g.W.Sink.state c.write_further_output.new.writer)
    c.loop-expression.invariant (ap (λ (l : List Expression). flat_map (further_in f) (map {A = Expression} output_text l)) e) c.in_ok-write_further_output.ensures
