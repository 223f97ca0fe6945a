use Rattle.std.proofs.Common.{◌≡◌, ◌∷◌, rules, ap}
use Rattle.std.specs.List.{flat_map}
use Rattle.iv_script.specs.FaultLines.{further_kind}
use Rattle.iv_text.proofs.WriteLemmas.{wrote_step}
use Rattle.iv_script.proofs.fault_line.write_more.Goals as goal

pub loop-kind-preserved : goal.loop-kind-preserved
loop-kind-preserved g c =
    let e : c.loop-kind.rest.now ≡ c.in-Some.kind.now ∷ c.in-Some.others.now = search rules in
    wrote_step (flat_map further_kind c.args.kinds.now) (further_kind c.in-Some.kind.now) (flat_map further_kind c.in-Some.others.now) (flat_map further_kind c.loop-kind.rest.now)
    (g.W.Sink.state c.args.writer.now) (g.W.Sink.state c.loop-kind.writer) (g.W.Sink.state c.write_further.new.writer)
    c.loop-kind.invariant (ap (flat_map further_kind) e) c.in_ok-write_further.ensures
