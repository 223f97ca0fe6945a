use Rattle.std.proofs.Common.{[], ◌∷◌}
use Rattle.iv_lex.specs.declared.kind.TokenKind.TheVariants as kind
use Rattle.iv_lex.specs.Words.{plain}
use Rattle.iv_write.specs.Parts.{series_words, enclosed_words}
use Rattle.iv_write.proofs.Steps.{three}
use Rattle.iv_write.proofs.parts.push_enclosed.Goals as goal
use Rattle.std.proofs.Common.{refl}

pub returns : goal.returns
returns g c =
    three c.args.writer.now c.word.new.self c.push_series.new.writer c.word-2.new.self c.word-2.result
    (plain kind.LeftParenthesis ∷ []) (series_words g.T.Written.words c.args.parts.now) (plain kind.RightParenthesis ∷ [])
    (enclosed_words (series_words g.T.Written.words c.args.parts.now)) refl c.in_ok-word.ensures c.in_ok-push_series.ensures c.word-2.ensures
