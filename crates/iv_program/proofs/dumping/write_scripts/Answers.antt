use Rattle.std.proofs.Common.{◌≡◌, ◌∷◌, ℕ, List, Ok, rules, ap, subst, string_bytes}
use Rattle.std.specs.List.{flat_map}
use Rattle.iv_text.specs.Writing.{Writes}
use Rattle.iv_text.proofs.WriteLemmas.{wrote_step}
use Rattle.iv_program.proofs.dumping.write_scripts.Goals as goal

pub loop-script-preserved : goal.loop-script-preserved
loop-script-preserved g c =
    let e : c.loop-script.rest.now ≡ c.in-Some.script.now ∷ c.in-Some.others.now = search rules in
    wrote_step (flat_map string_bytes c.args.scripts.now) (string_bytes c.in-Some.script.now) (flat_map string_bytes c.in-Some.others.now) (flat_map string_bytes c.loop-script.rest.now)
    (g.W.Sink.state c.args.writer.now) (g.W.Sink.state c.loop-script.writer) (g.W.Sink.state c.write_all.new.sink)
    c.loop-script.invariant (ap (flat_map string_bytes) e)
    (subst (λ (bs : List ℕ). Writes (g.W.Sink.state c.loop-script.writer) (g.W.Sink.state c.write_all.new.sink) (Ok tt) bs) c.as_bytes.ensures.value c.in_ok-write_all.ensures)
