use Rattle.std.proofs.Common.{◌≡◌, ◌∷◌, rules, ap}
use Rattle.iv_write.specs.Parts.{more_words, series_words}
use Rattle.iv_write.proofs.Steps.{two}
use Rattle.iv_write.proofs.parts.push_series.Goals as goal

pub returns : goal.returns
returns g c =
    let e : c.args.parts.now ≡ c.in-Some.part.now ∷ c.in-Some.others.now = search rules in
    two c.args.writer.now c.write.new.writer c.push_more.new.writer c.push_more.result (g.T.Written.words c.in-Some.part.now)
    (more_words g.T.Written.words c.in-Some.others.now) (series_words g.T.Written.words c.args.parts.now)
    (ap (series_words g.T.Written.words) e) c.in_ok-write.ensures c.push_more.ensures
