use Rattle.std.proofs.Common.{[], ◌∷◌, ◌++◌, ap, sym}
use Rattle.iv_lex.specs.declared.kind.TokenKind.TheVariants as kind
use Rattle.iv_lex.specs.Words.{name, plain}
use Rattle.iv_write.specs.Data.{assignment_words, update_words}
use Rattle.iv_write.specs.Parts.{series_words}
use Rattle.iv_write.specs.Terms.{where_words}
use Rattle.iv_write.proofs.Steps.{five}
use Rattle.iv_write.proofs.data.push_update.Goals as goal

pub returns : goal.returns
returns c =
    five c.args.writer.now c.word.new.self c.name.new.self c.word-2.new.self c.push_series.new.writer c.push_where.new.writer c.push_where.result
    (plain kind.Update ∷ []) (name c.args.update.now.table ∷ []) (plain kind.Set ∷ []) (series_words assignment_words c.as_slice.result.now) (where_words c.args.update.now.filter)
    (update_words c.args.update.now) (ap (λ z. plain kind.Update ∷ name c.args.update.now.table ∷ plain kind.Set ∷ (series_words assignment_words z ++ where_words c.args.update.now.filter)) (sym c.as_slice.ensures)) c.in_ok-word.ensures c.in_ok-name.ensures c.in_ok-word-2.ensures c.in_ok-push_series.ensures c.push_where.ensures
