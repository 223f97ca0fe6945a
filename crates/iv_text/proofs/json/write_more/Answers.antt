use Rattle.std.proofs.Common.{◌≡◌, ◌∷◌, rules, ap}
use Rattle.std.specs.List.{flat_map}
use Rattle.iv_text.specs.Json.{further_value}
use Rattle.iv_text.proofs.WriteLemmas.{wrote_step}
use Rattle.iv_text.proofs.json.write_more.Goals as goal

pub loop-value-preserved : goal.loop-value-preserved
loop-value-preserved g c =
    let e : c.loop-value.rest.now ≡ c.in-Some.value.now ∷ c.in-Some.others.now = search rules in
    wrote_step (flat_map further_value c.args.values.now) (further_value c.in-Some.value.now) (flat_map further_value c.in-Some.others.now) (flat_map further_value c.loop-value.rest.now)
    (g.W.Sink.state c.args.sink.now) (g.W.Sink.state c.loop-value.sink) (g.W.Sink.state c.write_further.new.sink)
    c.loop-value.invariant (ap (flat_map further_value) e) c.in_ok-write_further.ensures
