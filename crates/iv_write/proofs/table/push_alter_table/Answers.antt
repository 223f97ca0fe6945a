use Rattle.std.proofs.Common.{[], ◌∷◌, refl}
use Rattle.iv_lex.specs.declared.kind.TokenKind.TheVariants as kind
use Rattle.iv_lex.specs.Words.{name, plain}
use Rattle.iv_write.specs.Tables.{alter_table_words, table_constraint_words}
use Rattle.iv_write.proofs.Steps.{four}
use Rattle.iv_write.proofs.table.push_alter_table.Goals as goal

pub returns : goal.returns
returns c =
    four c.args.writer.now c.words.new.self c.name.new.self c.word.new.self c.push_table_constraint.new.writer c.push_table_constraint.result
    (plain kind.Alter ∷ plain kind.Table ∷ []) (name c.args.called.now ∷ []) (plain kind.Add ∷ []) (table_constraint_words c.args.constraint.now)
    (alter_table_words c.args.called.now c.args.constraint.now) refl c.in_ok-words.ensures c.in_ok-name.ensures c.in_ok-word.ensures c.push_table_constraint.ensures
