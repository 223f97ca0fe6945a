use Rattle.std.proofs.Common.{◌≡◌, [], ◌∷◌, Ok, rules, ap}
use Rattle.iv_lex.specs.declared.kind.TokenKind.TheVariants as kind
use Rattle.iv_lex.specs.Words.{plain}
use Rattle.iv_write.specs.Parts.{more_words}
use Rattle.iv_write.proofs.WriteLemmas.{writes_then, remains_step}
use Rattle.iv_write.proofs.parts.push_more.Goals as goal

pub loop-part-preserved : goal.loop-part-preserved
loop-part-preserved g c =
    let e : c.loop-part.rest.now ≡ c.in-Some.part.now ∷ c.in-Some.others.now = search rules in
    remains_step c.args.writer.now c.loop-part.writer c.write.new.writer (plain kind.Comma ∷ g.T.Written.words c.in-Some.part.now)
    (more_words g.T.Written.words c.in-Some.others.now) (more_words g.T.Written.words c.loop-part.rest.now) (more_words g.T.Written.words c.args.parts.now)
    (ap (more_words g.T.Written.words) e) c.loop-part.invariant
    (writes_then c.loop-part.writer c.word.new.self c.write.new.writer (Ok tt) (plain kind.Comma ∷ []) (g.T.Written.words c.in-Some.part.now) c.in_ok-word.ensures c.in_ok-write.ensures)
