use Rattle.std.proofs.Common.{[], ◌∷◌, ap}
use Rattle.iv_lex.specs.declared.kind.TokenKind.TheVariants as kind
use Rattle.iv_lex.specs.Words.{plain}
use Rattle.iv_write.specs.Terms.{condition_words}
use Rattle.iv_write.specs.Triggers.{when_words}
use Rattle.iv_write.proofs.Steps.{three}
use Rattle.iv_write.proofs.trigger.push_when.Goals as goal

pub returns-in_ok-push_condition-in-Some : goal.returns-in_ok-push_condition-in-Some
returns-in_ok-push_condition-in-Some c =
    three c.args.writer.now c.words.new.self c.push_condition.new.writer c.word.new.self c.word.result
    (plain kind.When ∷ plain kind.LeftParenthesis ∷ []) (condition_words c.in-Some.condition) (plain kind.RightParenthesis ∷ [])
    (when_words c.args.when.now) (ap when_words c.in-Some.is) c.in_ok-words-in-Some.ensures c.in_ok-push_condition-in-Some.ensures c.word.ensures
