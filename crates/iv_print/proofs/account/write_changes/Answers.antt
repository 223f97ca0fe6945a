use Rattle.std.proofs.Common.{◌≡◌, ◌∷◌, rules, ap}
use Rattle.iv_print.specs.AccountLines.{change_line, change_lines}
use Rattle.iv_text.proofs.WriteLemmas.{wrote_step}
use Rattle.iv_print.proofs.account.write_changes.Goals as goal

pub loop-change-preserved : goal.loop-change-preserved
loop-change-preserved g c =
    let lines = change_lines c.args.catalogue.now c.args.depth c.args.words.now in
    let e : c.loop-change.rest.now ≡ c.in-Some.change.now ∷ c.in-Some.others.now = search rules in
    wrote_step (lines c.args.changes.now) (change_line c.args.catalogue.now c.args.depth c.args.words.now c.in-Some.change.now)
    (lines c.in-Some.others.now) (lines c.loop-change.rest.now)
    (g.W.Sink.state c.args.sink.now) (g.W.Sink.state c.loop-change.sink) (g.W.Sink.state c.write_change_line.new.sink)
    c.loop-change.invariant (ap lines e) c.in_ok-write_change_line.ensures
