use Rattle.std.proofs.Common.{[], ◌∷◌, refl}
use Rattle.iv_lex.specs.declared.kind.TokenKind.TheVariants as kind
use Rattle.iv_lex.specs.Words.{plain}
use Rattle.iv_write.specs.Data.{list_words, query_words}
use Rattle.iv_write.specs.Terms.{from_words}
use Rattle.iv_write.proofs.Steps.{three}
use Rattle.iv_write.proofs.data.push_query.Goals as goal

pub returns : goal.returns
returns c =
    three c.args.writer.now c.word.new.self c.push_list.new.writer c.push_from.new.writer c.push_from.result
    (plain kind.Select ∷ []) (list_words c.args.list.now) (from_words c.args.range.now c.args.filter.now)
    (query_words c.args.list.now c.args.range.now c.args.filter.now) refl c.in_ok-word.ensures c.in_ok-push_list.ensures c.push_from.ensures
