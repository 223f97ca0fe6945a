use Rattle.std.proofs.Common.{◌≡◌, ◌∷◌, rules, ap}
use Rattle.iv_print.specs.AccountLines.{action_line, action_lines}
use Rattle.iv_text.proofs.WriteLemmas.{wrote_step}
use Rattle.iv_print.proofs.account.write_actions.Goals as goal

pub loop-acted-preserved : goal.loop-acted-preserved
loop-acted-preserved g c =
    let lines = action_lines c.args.catalogue.now c.args.depth in
    let e : c.loop-acted.rest.now ≡ c.in-Some.acted.now ∷ c.in-Some.others.now = search rules in
    wrote_step (lines c.args.actions.now) (action_line c.args.catalogue.now c.args.depth c.in-Some.acted.now)
    (lines c.in-Some.others.now) (lines c.loop-acted.rest.now)
    (g.W.Sink.state c.args.sink.now) (g.W.Sink.state c.loop-acted.sink) (g.W.Sink.state c.write_action.new.sink)
    c.loop-acted.invariant (ap lines e) c.in_ok-write_action.ensures
