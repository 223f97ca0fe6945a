use Rattle.std.proofs.Common.{[], ◌∷◌, ◌++◌, ap, sym}
use Rattle.iv_lex.specs.declared.kind.TokenKind.TheVariants as kind
use Rattle.iv_lex.specs.Words.{plain}
use Rattle.iv_write.specs.Data.{names_words}
use Rattle.iv_write.specs.Parts.{enclosed_words}
use Rattle.iv_write.specs.Tables.{references_words}
use Rattle.iv_write.proofs.Steps.{three}
use Rattle.iv_write.proofs.table.push_foreign_key.Goals as goal

pub returns : goal.returns
returns c =
    three c.args.writer.now c.words.new.self c.push_enclosed.new.writer c.push_references.new.writer c.push_references.result
    (plain kind.Foreign ∷ plain kind.Key ∷ []) (enclosed_words (names_words c.as_slice.result.now)) (references_words c.args.references.now)
    (plain kind.Foreign ∷ plain kind.Key ∷ (enclosed_words (names_words c.args.columns.now) ++ references_words c.args.references.now)) (ap (λ z. plain kind.Foreign ∷ plain kind.Key ∷ (enclosed_words (names_words z) ++ references_words c.args.references.now)) (sym c.as_slice.ensures)) c.in_ok-words.ensures c.in_ok-push_enclosed.ensures c.push_references.ensures
