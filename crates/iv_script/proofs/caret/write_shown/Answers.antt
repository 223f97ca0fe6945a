use Rattle.std.proofs.Common.{◌≡◌, ◌∷◌, rules, ap}
use Rattle.std.specs.List.{flat_map}
use Rattle.iv_script.specs.FaultLines.{shown}
use Rattle.iv_text.proofs.WriteLemmas.{wrote_step}
use Rattle.iv_script.proofs.caret.write_shown.Goals as goal

pub loop-byte-preserved : goal.loop-byte-preserved
loop-byte-preserved g c =
    let e : c.loop-byte.rest.now ≡ c.in-Some.byte.now ∷ c.in-Some.others.now = search rules in
    wrote_step (flat_map shown c.args.bytes.now) (shown c.in-Some.byte.now) (flat_map shown c.in-Some.others.now) (flat_map shown c.loop-byte.rest.now)
    (g.W.Sink.state c.args.writer.now) (g.W.Sink.state c.loop-byte.writer) (g.W.Sink.state c.write_shown_byte.new.writer)
    c.loop-byte.invariant (ap (flat_map shown) e) c.in_ok-write_shown_byte.ensures
