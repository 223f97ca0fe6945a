use Rattle.std.proofs.Common.{[], ◌∷◌, ap}
use Rattle.iv_lex.specs.declared.kind.TokenKind.TheVariants as kind
use Rattle.iv_lex.specs.Words.{number, plain}
use Rattle.iv_write.specs.Tables.{type_words}
use Rattle.iv_write.proofs.Steps.{three}
use Rattle.iv_write.proofs.table.push_type.Goals as goal

pub returns-in_ok-number-in-Varchar : goal.returns-in_ok-number-in-Varchar
returns-in_ok-number-in-Varchar c =
    three c.args.writer.now c.words.new.self c.number.new.self c.word-in-Varchar.new.self c.word-in-Varchar.result
    (plain kind.Varchar ∷ plain kind.LeftParenthesis ∷ []) (number c.in-Varchar.length ∷ []) (plain kind.RightParenthesis ∷ [])
    (type_words c.args.kind) (ap type_words c.in-Varchar.is) c.in_ok-words-in-Varchar.ensures c.in_ok-number-in-Varchar.ensures c.word-in-Varchar.ensures
