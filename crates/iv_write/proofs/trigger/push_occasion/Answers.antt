use Rattle.std.proofs.Common.{[], ◌∷◌, ◌++◌, refl}
use Rattle.iv_lex.specs.declared.kind.TokenKind.TheVariants as kind
use Rattle.iv_lex.specs.Words.{name, plain}
use Rattle.iv_parse.specs.Triggers.{time_kind}
use Rattle.iv_write.specs.Triggers.{event_words}
use Rattle.iv_write.proofs.Steps.{four}
use Rattle.iv_write.proofs.trigger.push_occasion.Goals as goal

pub returns : goal.returns
returns c =
    four c.args.writer.now c.push_time.new.writer c.push_event.new.writer c.word.new.self c.name.new.self c.name.result
    (plain (time_kind c.args.trigger.now.time) ∷ []) (event_words c.args.trigger.now.event c.args.trigger.now.columns) (plain kind.On ∷ []) (name c.args.trigger.now.table ∷ [])
    (plain (time_kind c.args.trigger.now.time) ∷ (event_words c.args.trigger.now.event c.args.trigger.now.columns ++ plain kind.On ∷ name c.args.trigger.now.table ∷ [])) refl c.in_ok-push_time.ensures c.in_ok-push_event.ensures c.in_ok-word.ensures c.name.ensures
