use Rattle.std.proofs.Common.{◌≡◌, ◌∷◌, rules, ap}
use Rattle.std.specs.List.{flat_map}
use Rattle.iv_print.specs.PendingLines.{came_line}
use Rattle.iv_text.proofs.WriteLemmas.{wrote_step}
use Rattle.iv_print.proofs.pending.write_all_came.Goals as goal

pub loop-entry-preserved : goal.loop-entry-preserved
loop-entry-preserved g c =
    let step = came_line c.args.catalogue.now in
    let e : c.loop-entry.rest.now ≡ c.in-Some.entry.now ∷ c.in-Some.others.now = search rules in
    wrote_step (flat_map step c.args.entries.now) (step c.in-Some.entry.now) (flat_map step c.in-Some.others.now) (flat_map step c.loop-entry.rest.now)
    (g.W.Sink.state c.args.sink.now) (g.W.Sink.state c.loop-entry.sink) (g.W.Sink.state c.write_came.new.sink)
    c.loop-entry.invariant (ap (flat_map step) e) c.in_ok-write_came.ensures
