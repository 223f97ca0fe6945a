use Rattle.std.proofs.Common.{[], ◌∷◌, ap}
use Rattle.iv_lex.specs.declared.kind.TokenKind.TheVariants as kind
use Rattle.iv_lex.specs.Words.{plain}
use Rattle.iv_write.specs.Data.{select_words}
use Rattle.iv_write.specs.Terms.{from_words}
use Rattle.iv_write.proofs.Steps.{two}
use Rattle.iv_write.proofs.data.push_select.Goals as goal

pub returns-in_ok-words-in-Count : goal.returns-in_ok-words-in-Count
returns-in_ok-words-in-Count c =
    two c.args.writer.now c.words.new.self c.push_from.new.writer c.push_from.result
    (plain kind.Select ∷ plain kind.Count ∷ plain kind.LeftParenthesis ∷ plain kind.Asterisk ∷ plain kind.RightParenthesis ∷ []) (from_words c.in-Count.range c.in-Count.filter)
    (select_words c.args.select.now) (ap select_words c.in-Count.is) c.in_ok-words-in-Count.ensures c.push_from.ensures
