use Rattle.std.proofs.Common.{[], ◌∷◌, ◌++◌, refl}
use Rattle.iv_lex.specs.declared.kind.TokenKind.TheVariants as kind
use Rattle.iv_lex.specs.Words.{plain}
use Rattle.iv_write.specs.Parts.{sequence_words}
use Rattle.iv_write.specs.Triggers.{ended_words}
use Rattle.iv_write.proofs.Steps.{three}
use Rattle.iv_write.proofs.trigger.push_block.Goals as goal

pub returns : goal.returns
returns c =
    three c.args.writer.now c.words.new.self c.push_sequence.new.writer c.word.new.self c.word.result
    (plain kind.Begin ∷ plain kind.Atomic ∷ []) (sequence_words ended_words c.args.body.now) (plain kind.End ∷ [])
    (plain kind.Begin ∷ plain kind.Atomic ∷ (sequence_words ended_words c.args.body.now ++ plain kind.End ∷ [])) refl c.in_ok-words.ensures c.in_ok-push_sequence.ensures c.word.ensures
