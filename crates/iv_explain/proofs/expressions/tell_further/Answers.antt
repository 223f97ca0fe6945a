use Rattle.std.proofs.Common.{◌≡◌, [], ◌∷◌, ◌∙◌, ℕ, List, rules, arith, ap}
use Rattle.std.proofs.lemmas.Grind.{common_steps}
use Rattle.std.specs.List.{flat_map}
use Rattle.iv_explain.specs.Expressions.{further_name}
use Rattle.iv_text.proofs.WriteLemmas.{wrote_all, wrote_step}
use Rattle.iv_text.specs.Spelled.{spelled}
use Rattle.iv_text.proofs.SpelledLemmas.{spelled_append, spelled_none}
use Rattle.iv_explain.proofs.expressions.tell_further.Goals as goal

pub loop-name-preserved : goal.loop-name-preserved
loop-name-preserved g c =
    let e : c.loop-name.rest.now ≡ c.in-Some.name.now ∷ c.in-Some.others.now = search rules in
    let f = c.args.format in
    wrote_step (spelled f (flat_map further_name c.args.names.now)) (spelled f (further_name c.in-Some.name.now)) (spelled f (flat_map further_name c.in-Some.others.now))
    (spelled f (flat_map further_name c.loop-name.rest.now))
    (g.W.Sink.state c.args.writer.now) (g.W.Sink.state c.loop-name.writer) (g.W.Sink.state c.tell_further_name.new.writer)
    c.loop-name.invariant
    (ap (λ (l : List (List ℕ)). spelled f (flat_map further_name l)) e ∙ spelled_append f (further_name c.in-Some.name.now) (flat_map further_name c.in-Some.others.now))
    c.in_ok-tell_further_name.ensures

pub returns : goal.returns
returns g c =
    let e : c.loop-name.rest.now ≡ [] = grind (arith, common_steps, c.in_default.ensures.cases) in
    let f = c.args.format in
    wrote_all (spelled f (flat_map further_name c.args.names.now)) (spelled f (flat_map further_name c.loop-name.rest.now)) (g.W.Sink.state c.args.writer.now) (g.W.Sink.state c.loop-name.writer)
    c.loop-name.invariant (ap (λ (l : List (List ℕ)). spelled f (flat_map further_name l)) e ∙ spelled_none f)
