use Rattle.std.proofs.Common.{[], ◌∷◌, ◌++◌, ap, sym}
use Rattle.iv_lex.specs.Words.{name}
use Rattle.iv_write.specs.Parts.{sequence_words}
use Rattle.iv_write.specs.Tables.{column_constraint_words, column_words, default_words, type_words}
use Rattle.iv_write.proofs.Steps.{four}
use Rattle.iv_write.proofs.table.ColumnDefinitionWritten.write.Goals as goal

pub returns : goal.returns
returns c =
    four c.args.writer.now c.name.new.self c.push_type.new.writer c.push_default.new.writer c.push_sequence.new.writer c.push_sequence.result
    (name c.args.self.now.name ∷ []) (type_words c.args.self.now.kind) (default_words c.args.self.now.default) (sequence_words column_constraint_words c.as_slice.result.now)
    (column_words c.args.self.now) (ap (λ z. name c.args.self.now.name ∷ (type_words c.args.self.now.kind ++ (default_words c.args.self.now.default ++ sequence_words column_constraint_words z))) (sym c.as_slice.ensures)) c.in_ok-name.ensures c.in_ok-push_type.ensures c.in_ok-push_default.ensures c.push_sequence.ensures
