use Rattle.std.proofs.Common.{◌≡◌, ◌∷◌, rules, ap}
use Rattle.std.specs.List.{flat_map}
use Rattle.iv_text.specs.Lines.{quote_doubled}
use Rattle.iv_text.proofs.WriteLemmas.{wrote_step}
use Rattle.iv_text.proofs.outcome.write_characters.Goals as goal

pub loop-byte-preserved : goal.loop-byte-preserved
loop-byte-preserved g c =
    let e : c.loop-byte.rest.now ≡ c.in-Some.byte.now ∷ c.in-Some.others.now = search rules in
    wrote_step (flat_map quote_doubled c.args.bytes.now) (quote_doubled c.in-Some.byte.now) (flat_map quote_doubled c.in-Some.others.now) (flat_map quote_doubled c.loop-byte.rest.now)
    (g.W.Sink.state c.args.sink.now) (g.W.Sink.state c.loop-byte.sink) (g.W.Sink.state c.write_byte.new.sink)
    c.loop-byte.invariant (ap (flat_map quote_doubled) e) c.in_ok-write_byte.ensures
