use Rattle.std.proofs.Common.{[], ◌∷◌, ap}
use Rattle.iv_lex.specs.declared.kind.TokenKind.TheVariants as kind
use Rattle.iv_lex.specs.Words.{name, plain}
use Rattle.iv_write.specs.Tables.{constraint_name_words}
use Rattle.iv_write.proofs.Steps.{two}
use Rattle.iv_write.proofs.table.push_constraint_name.Goals as goal

pub returns-in_ok-word-in-Some : goal.returns-in_ok-word-in-Some
returns-in_ok-word-in-Some c =
    two c.args.writer.now c.word.new.self c.name.new.self c.name.result
    (plain kind.Constraint ∷ []) (name c.in-Some.called ∷ [])
    (constraint_name_words c.args.called.now) (ap constraint_name_words c.in-Some.is) c.in_ok-word-in-Some.ensures c.name.ensures
