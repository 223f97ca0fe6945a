use Rattle.std.proofs.Common.{[], ◌∷◌, refl}
use Rattle.iv_lex.specs.declared.kind.TokenKind.TheVariants as kind
use Rattle.iv_lex.specs.Words.{name, plain}
use Rattle.iv_parse.specs.Triggers.{side_kind}
use Rattle.iv_write.specs.Triggers.{item_words, transition_words}
use Rattle.iv_write.proofs.Steps.{four}
use Rattle.iv_write.proofs.trigger.ReferencingWritten.write.Goals as goal

pub returns : goal.returns
returns c =
    four c.args.writer.now c.push_side.new.writer c.push_transition.new.writer c.word.new.self c.name.new.self c.name.result
    (plain (side_kind c.args.self.now.side) ∷ []) (transition_words c.args.self.now.what) (plain kind.As ∷ []) (name c.args.self.now.name ∷ [])
    (item_words c.args.self.now) refl c.in_ok-push_side.ensures c.in_ok-push_transition.ensures c.in_ok-word.ensures c.name.ensures
