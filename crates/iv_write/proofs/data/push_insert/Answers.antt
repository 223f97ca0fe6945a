use Rattle.std.proofs.Common.{[], ◌∷◌, ap}
use Rattle.iv_lex.specs.declared.kind.TokenKind.TheVariants as kind
use Rattle.iv_lex.specs.Words.{name, plain}
use Rattle.iv_write.specs.Data.{column_list_words, insert_words, source_words}
use Rattle.iv_write.proofs.Steps.{four, three}
use Rattle.iv_write.proofs.data.push_insert.Goals as goal

pub returns-in_ok-name-in-DefaultValues : goal.returns-in_ok-name-in-DefaultValues
returns-in_ok-name-in-DefaultValues c =
    three c.args.writer.now c.words.new.self c.name.new.self c.words-in-DefaultValues.new.self c.words-in-DefaultValues.result
    (plain kind.Insert ∷ plain kind.Into ∷ []) (name c.in-DefaultValues.table ∷ []) (plain kind.Default ∷ plain kind.Values ∷ [])
    (insert_words c.args.insert.now) (ap insert_words c.in-DefaultValues.is) c.in_ok-words.ensures c.in_ok-name-in-DefaultValues.ensures c.words-in-DefaultValues.ensures

pub returns-in_ok-push_column_list-in-Rows : goal.returns-in_ok-push_column_list-in-Rows
returns-in_ok-push_column_list-in-Rows c =
    four c.args.writer.now c.words.new.self c.name-in-Rows.new.self c.push_column_list.new.writer c.push_source.new.writer c.push_source.result
    (plain kind.Insert ∷ plain kind.Into ∷ []) (name c.in-Rows.table ∷ []) (column_list_words c.in-Rows.columns) (source_words c.in-Rows.source)
    (insert_words c.args.insert.now) (ap insert_words c.in-Rows.is) c.in_ok-words.ensures c.in_ok-name-in-Rows.ensures c.in_ok-push_column_list-in-Rows.ensures c.push_source.ensures
