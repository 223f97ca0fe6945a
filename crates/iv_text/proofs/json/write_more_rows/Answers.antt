use Rattle.std.proofs.Common.{◌≡◌, ◌∷◌, rules, ap}
use Rattle.std.specs.List.{flat_map}
use Rattle.iv_text.specs.Json.{further_row}
use Rattle.iv_text.proofs.WriteLemmas.{wrote_step}
use Rattle.iv_text.proofs.json.write_more_rows.Goals as goal

pub loop-row-preserved : goal.loop-row-preserved
loop-row-preserved g c =
    let e : c.loop-row.rest.now ≡ c.in-Some.row.now ∷ c.in-Some.others.now = search rules in
    wrote_step (flat_map further_row c.args.rows.now) (further_row c.in-Some.row.now) (flat_map further_row c.in-Some.others.now) (flat_map further_row c.loop-row.rest.now)
    (g.W.Sink.state c.args.sink.now) (g.W.Sink.state c.loop-row.sink) (g.W.Sink.state c.write_further_row.new.sink)
    c.loop-row.invariant (ap (flat_map further_row) e) c.in_ok-write_further_row.ensures
