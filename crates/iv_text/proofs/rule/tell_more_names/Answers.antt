use Rattle.std.proofs.Common.{◌≡◌, [], ◌∷◌, ◌∙◌, ℕ, List, rules, arith, ap}
use Rattle.std.proofs.lemmas.Grind.{common_steps}
use Rattle.std.specs.List.{flat_map}
use Rattle.iv_text.specs.Rules.{further_name}
use Rattle.iv_text.proofs.WriteLemmas.{wrote_all, wrote_step}
use Rattle.iv_text.specs.Spelled.{spelled}
use Rattle.iv_text.proofs.SpelledLemmas.{spelled_append, spelled_none}
use Rattle.iv_text.proofs.rule.tell_more_names.Goals as goal

pub loop-place-preserved : goal.loop-place-preserved
loop-place-preserved g c =
    let e : c.loop-place.rest.now ≡ c.in-Some.place.now ∷ c.in-Some.others.now = search rules in
    let f = c.args.format in
    let name = further_name c.args.columns.now in
    wrote_step (spelled f (flat_map name c.args.places.now)) (spelled f (name c.in-Some.place.now)) (spelled f (flat_map name c.in-Some.others.now))
    (spelled f (flat_map name c.loop-place.rest.now))
    (g.W.Sink.state c.args.writer.now) (g.W.Sink.state c.loop-place.writer) (g.W.Sink.state c.tell_further_name.new.writer)
    c.loop-place.invariant
    (ap (λ (l : List ℕ). spelled f (flat_map name l)) e ∙ spelled_append f (name c.in-Some.place.now) (flat_map name c.in-Some.others.now))
    c.in_ok-tell_further_name.ensures

pub returns : goal.returns
returns g c =
    let e : c.loop-place.rest.now ≡ [] = grind (arith, common_steps, c.in_default.ensures.cases) in
    let f = c.args.format in
    let name = further_name c.args.columns.now in
    wrote_all (spelled f (flat_map name c.args.places.now)) (spelled f (flat_map name c.loop-place.rest.now)) (g.W.Sink.state c.args.writer.now) (g.W.Sink.state c.loop-place.writer)
    c.loop-place.invariant (ap (λ (l : List ℕ). spelled f (flat_map name l)) e ∙ spelled_none f)
