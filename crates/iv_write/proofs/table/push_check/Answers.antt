use Rattle.std.proofs.Common.{[], ◌∷◌, refl}
use Rattle.iv_lex.specs.declared.kind.TokenKind.TheVariants as kind
use Rattle.iv_lex.specs.Words.{plain}
use Rattle.iv_write.specs.Parts.{enclosed_words}
use Rattle.iv_write.specs.Terms.{condition_words}
use Rattle.iv_write.proofs.Steps.{three}
use Rattle.iv_write.proofs.table.push_check.Goals as goal

pub returns : goal.returns
returns c =
    three c.args.writer.now c.words.new.self c.push_condition.new.writer c.word.new.self c.word.result
    (plain kind.Check ∷ plain kind.LeftParenthesis ∷ []) (condition_words c.args.condition.now) (plain kind.RightParenthesis ∷ [])
    (plain kind.Check ∷ enclosed_words (condition_words c.args.condition.now)) refl c.in_ok-words.ensures c.in_ok-push_condition.ensures c.word.ensures
