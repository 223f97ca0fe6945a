use Rattle.std.proofs.Common.{[], ◌∷◌, refl}
use Rattle.iv_lex.specs.declared.kind.TokenKind.TheVariants as kind
use Rattle.iv_lex.specs.Words.{name, plain}
use Rattle.iv_write.specs.Data.{column_list_words}
use Rattle.iv_write.specs.Tables.{actions_words, match_words, references_words}
use Rattle.iv_write.proofs.Steps.{five}
use Rattle.iv_write.proofs.referencing.push_references.Goals as goal

pub returns : goal.returns
returns c =
    five c.args.writer.now c.word.new.self c.name.new.self c.push_column_list.new.writer c.push_match.new.writer c.push_actions.new.writer c.push_actions.result
    (plain kind.References ∷ []) (name c.args.references.now.table ∷ []) (column_list_words c.args.references.now.columns) (match_words c.args.references.now.matching) (actions_words c.args.references.now.on_delete c.args.references.now.on_update)
    (references_words c.args.references.now) refl c.in_ok-word.ensures c.in_ok-name.ensures c.in_ok-push_column_list.ensures c.in_ok-push_match.ensures c.push_actions.ensures
