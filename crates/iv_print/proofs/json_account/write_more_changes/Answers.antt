use Rattle.std.proofs.Common.{◌≡◌, ◌∷◌, rules, ap}
use Rattle.std.specs.List.{flat_map}
use Rattle.iv_print.specs.JsonAccounts.{further_change}
use Rattle.iv_text.proofs.WriteLemmas.{wrote_step}
use Rattle.iv_print.proofs.json_account.write_more_changes.Goals as goal

pub loop-change-preserved : goal.loop-change-preserved
loop-change-preserved g c =
    let step = further_change c.args.catalogue.now in
    let e : c.loop-change.rest.now ≡ c.in-Some.change.now ∷ c.in-Some.others.now = search rules in
    wrote_step (flat_map step c.args.changes.now) (step c.in-Some.change.now) (flat_map step c.in-Some.others.now) (flat_map step c.loop-change.rest.now)
    (g.W.Sink.state c.args.sink.now) (g.W.Sink.state c.loop-change.sink) (g.W.Sink.state c.write_further_change.new.sink)
    c.loop-change.invariant (ap (flat_map step) e) c.in_ok-write_further_change.ensures
