use Rattle.std.proofs.Common.{◌≡◌, ◌∷◌, rules, ap}
use Rattle.std.specs.List.{flat_map}
use Rattle.iv_print.specs.PendingLines.{went_line}
use Rattle.iv_text.proofs.WriteLemmas.{wrote_step}
use Rattle.iv_print.proofs.pending.write_all_went.Goals as goal

pub loop-fault-preserved : goal.loop-fault-preserved
loop-fault-preserved g c =
    let step = went_line c.args.catalogue.now in
    let e : c.loop-fault.rest.now ≡ c.in-Some.fault.now ∷ c.in-Some.others.now = search rules in
    wrote_step (flat_map step c.args.faults.now) (step c.in-Some.fault.now) (flat_map step c.in-Some.others.now) (flat_map step c.loop-fault.rest.now)
    (g.W.Sink.state c.args.sink.now) (g.W.Sink.state c.loop-fault.sink) (g.W.Sink.state c.write_went.new.sink)
    c.loop-fault.invariant (ap (flat_map step) e) c.in_ok-write_went.ensures
