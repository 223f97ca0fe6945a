use Rattle.std.proofs.Common.{◌≡◌, [], ◌∷◌, ◌∙◌, ℕ, List, rules, arith, ap}
use Rattle.std.proofs.lemmas.Grind.{common_steps}
use Rattle.std.specs.List.{flat_map}
use Rattle.iv_text.specs.Lines.{quote_doubled}
use Rattle.iv_text.proofs.WriteLemmas.{wrote_all, wrote_step}
use Rattle.iv_text.specs.Spelled.{spelled}
use Rattle.iv_text.proofs.SpelledLemmas.{spelled_append, spelled_none}
use Rattle.iv_text.proofs.spelled_value.tell_characters.Goals as goal

pub loop-byte-preserved : goal.loop-byte-preserved
loop-byte-preserved g c =
    let e : c.loop-byte.rest.now ≡ c.in-Some.byte.now ∷ c.in-Some.others.now = search rules in
    let f = c.args.format in
    wrote_step (spelled f (flat_map quote_doubled c.args.bytes.now)) (spelled f (quote_doubled c.in-Some.byte.now)) (spelled f (flat_map quote_doubled c.in-Some.others.now))
    (spelled f (flat_map quote_doubled c.loop-byte.rest.now))
    (g.W.Sink.state c.args.writer.now) (g.W.Sink.state c.loop-byte.writer) (g.W.Sink.state c.tell_byte.new.writer)
    c.loop-byte.invariant
    (ap (λ (l : List ℕ). spelled f (flat_map quote_doubled l)) e ∙ spelled_append f (quote_doubled c.in-Some.byte.now) (flat_map quote_doubled c.in-Some.others.now))
    c.in_ok-tell_byte.ensures

pub returns : goal.returns
returns g c =
    let e : c.loop-byte.rest.now ≡ [] = grind (arith, common_steps, c.in_default.ensures.cases) in
    let f = c.args.format in
    wrote_all (spelled f (flat_map quote_doubled c.args.bytes.now)) (spelled f (flat_map quote_doubled c.loop-byte.rest.now)) (g.W.Sink.state c.args.writer.now) (g.W.Sink.state c.loop-byte.writer)
    c.loop-byte.invariant (ap (λ (l : List ℕ). spelled f (flat_map quote_doubled l)) e ∙ spelled_none f)
