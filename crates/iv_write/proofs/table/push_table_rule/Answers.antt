use Rattle.std.proofs.Common.{[], ◌∷◌, ◌++◌, ap, sym, ◌∙◌}
use Rattle.iv_lex.specs.declared.kind.TokenKind.TheVariants as kind
use Rattle.iv_lex.specs.Words.{plain}
use Rattle.iv_parse_data.specs.Tables.{null_words}
use Rattle.iv_write.specs.Data.{names_words}
use Rattle.iv_write.specs.Parts.{enclosed_words}
use Rattle.iv_write.specs.Tables.{table_rule_words}
use Rattle.iv_write.proofs.Steps.{three, two}
use Rattle.iv_write.proofs.table.push_table_rule.Goals as goal

pub returns-in_ok-push_nulls-in-Unique : goal.returns-in_ok-push_nulls-in-Unique
returns-in_ok-push_nulls-in-Unique c =
    three c.args.writer.now c.word.new.self c.push_nulls.new.writer c.push_enclosed.new.writer c.push_enclosed.result
    (plain kind.Unique ∷ []) (null_words c.in-Unique.nulls) (enclosed_words (names_words c.as_slice.result.now))
    (table_rule_words c.args.rule.now) (ap table_rule_words c.in-Unique.is ∙ ap (λ z. plain kind.Unique ∷ (null_words c.in-Unique.nulls ++ enclosed_words (names_words z))) (sym c.as_slice.ensures)) c.in_ok-word-in-Unique.ensures c.in_ok-push_nulls-in-Unique.ensures c.push_enclosed.ensures

pub returns-in_ok-words-in-PrimaryKey : goal.returns-in_ok-words-in-PrimaryKey
returns-in_ok-words-in-PrimaryKey c =
    two c.args.writer.now c.words.new.self c.push_enclosed-in-PrimaryKey.new.writer c.push_enclosed-in-PrimaryKey.result
    (plain kind.Primary ∷ plain kind.Key ∷ []) (enclosed_words (names_words c.as_slice-in-PrimaryKey.result.now))
    (table_rule_words c.args.rule.now) (ap table_rule_words c.in-PrimaryKey.is ∙ ap (λ z. plain kind.Primary ∷ plain kind.Key ∷ enclosed_words (names_words z)) (sym c.as_slice-in-PrimaryKey.ensures)) c.in_ok-words-in-PrimaryKey.ensures c.push_enclosed-in-PrimaryKey.ensures
