use Rattle.std.proofs.Common.{◌≡◌, ◌∷◌, rules, ap}
use Rattle.std.specs.List.{flat_map}
use Rattle.iv_print.specs.AccountLines.{further_savepoint}
use Rattle.iv_text.proofs.WriteLemmas.{wrote_step}
use Rattle.iv_print.proofs.standing.write_more.Goals as goal

pub loop-name-preserved : goal.loop-name-preserved
loop-name-preserved g c =
    let e : c.loop-name.rest.now ≡ c.in-Some.name.now ∷ c.in-Some.others.now = search rules in
    wrote_step (flat_map further_savepoint c.args.names.now) (further_savepoint c.in-Some.name.now) (flat_map further_savepoint c.in-Some.others.now) (flat_map further_savepoint c.loop-name.rest.now)
    (g.W.Sink.state c.args.sink.now) (g.W.Sink.state c.loop-name.sink) (g.W.Sink.state c.write_further.new.sink)
    c.loop-name.invariant (ap (flat_map further_savepoint) e) c.in_ok-write_further.ensures
