use Rattle.std.proofs.Common.{◌≡◌, ◌∷◌, rules, ap}
use Rattle.std.specs.List.{flat_map}
use Rattle.iv_print.specs.JsonAccounts.{further_action}
use Rattle.iv_text.proofs.WriteLemmas.{wrote_step}
use Rattle.iv_print.proofs.json_action.write_more_actions.Goals as goal

pub loop-acted-preserved : goal.loop-acted-preserved
loop-acted-preserved g c =
    let step = further_action c.args.catalogue.now in
    let e : c.loop-acted.rest.now ≡ c.in-Some.acted.now ∷ c.in-Some.others.now = search rules in
    wrote_step (flat_map step c.args.actions.now) (step c.in-Some.acted.now) (flat_map step c.in-Some.others.now) (flat_map step c.loop-acted.rest.now)
    (g.W.Sink.state c.args.sink.now) (g.W.Sink.state c.loop-acted.sink) (g.W.Sink.state c.write_further_action.new.sink)
    c.loop-acted.invariant (ap (flat_map step) e) c.in_ok-write_further_action.ensures
