use Rattle.std.proofs.Common.{[], ◌∷◌}
use Rattle.iv_lex.specs.declared.kind.TokenKind.TheVariants as kind
use Rattle.iv_lex.specs.Words.{plain}
use Rattle.iv_write.specs.Parts.{sequence_words}
use Rattle.iv_write.specs.Triggers.{item_words, referencing_words}
use Rattle.iv_write.proofs.Steps.{two, referencing_is}
use Rattle.iv_write.proofs.trigger.push_referencing.Goals as goal

pub returns : goal.returns
returns c =
    two c.args.writer.now c.word.new.self c.push_sequence.new.writer c.push_sequence.result
    (plain kind.Referencing ∷ []) (sequence_words item_words c.args.items.now)
    (referencing_words c.args.items.now) (referencing_is c.args.items.now c.is_empty.result c.is_empty.ensures c.if-is_empty.false) c.in_ok-word.ensures c.push_sequence.ensures
