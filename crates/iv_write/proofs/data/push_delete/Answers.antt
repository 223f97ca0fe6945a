use Rattle.std.proofs.Common.{[], ◌∷◌, refl}
use Rattle.iv_lex.specs.declared.kind.TokenKind.TheVariants as kind
use Rattle.iv_lex.specs.Words.{name, plain}
use Rattle.iv_write.specs.Data.{delete_words}
use Rattle.iv_write.specs.Terms.{where_words}
use Rattle.iv_write.proofs.Steps.{three}
use Rattle.iv_write.proofs.data.push_delete.Goals as goal

pub returns : goal.returns
returns c =
    three c.args.writer.now c.words.new.self c.name.new.self c.push_where.new.writer c.push_where.result
    (plain kind.Delete ∷ plain kind.From ∷ []) (name c.args.delete.now.table ∷ []) (where_words c.args.delete.now.filter)
    (delete_words c.args.delete.now) refl c.in_ok-words.ensures c.in_ok-name.ensures c.push_where.ensures
