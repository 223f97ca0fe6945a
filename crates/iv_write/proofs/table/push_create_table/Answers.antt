use Rattle.std.proofs.Common.{[], ◌∷◌, ap, sym}
use Rattle.iv_lex.specs.declared.kind.TokenKind.TheVariants as kind
use Rattle.iv_lex.specs.Words.{name, plain}
use Rattle.iv_write.specs.Parts.{enclosed_words, series_words}
use Rattle.iv_write.specs.Tables.{create_table_words, element_words}
use Rattle.iv_write.proofs.Steps.{three}
use Rattle.iv_write.proofs.table.push_create_table.Goals as goal

pub returns : goal.returns
returns c =
    three c.args.writer.now c.words.new.self c.name.new.self c.push_enclosed.new.writer c.push_enclosed.result
    (plain kind.Create ∷ plain kind.Table ∷ []) (name c.args.called.now ∷ []) (enclosed_words (series_words element_words c.as_slice.result.now))
    (create_table_words c.args.called.now c.args.elements.now) (ap (create_table_words c.args.called.now) (sym c.as_slice.ensures)) c.in_ok-words.ensures c.in_ok-name.ensures c.push_enclosed.ensures
