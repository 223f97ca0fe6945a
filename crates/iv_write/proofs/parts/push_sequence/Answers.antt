use Rattle.std.proofs.Common.{◌≡◌, ◌∷◌, rules, ap}
use Rattle.iv_write.specs.Parts.{sequence_words}
use Rattle.iv_write.proofs.WriteLemmas.{remains_step}
use Rattle.iv_write.proofs.parts.push_sequence.Goals as goal

pub loop-part-preserved : goal.loop-part-preserved
loop-part-preserved g c =
    let e : c.loop-part.rest.now ≡ c.in-Some.part.now ∷ c.in-Some.others.now = search rules in
    remains_step c.args.writer.now c.loop-part.writer c.write.new.writer (g.T.Written.words c.in-Some.part.now)
    (sequence_words g.T.Written.words c.in-Some.others.now) (sequence_words g.T.Written.words c.loop-part.rest.now) (sequence_words g.T.Written.words c.args.parts.now)
    (ap (sequence_words g.T.Written.words) e) c.loop-part.invariant c.in_ok-write.ensures
