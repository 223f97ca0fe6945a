use Rattle.std.proofs.Common.{[], ◌∷◌, ◌++◌, ap, sym, append_assoc}
use Rattle.iv_lex.specs.declared.kind.TokenKind.TheVariants as kind
use Rattle.iv_lex.specs.Words.{name, plain}
use Rattle.iv_parse.specs.Triggers.{time_kind}
use Rattle.iv_write.specs.Triggers.{body_words, event_words, granularity_words, referencing_words, trigger_words, when_words}
use Rattle.iv_write.proofs.Steps.{four}
use Rattle.iv_write.proofs.trigger.push_trigger.Goals as goal

pub returns : goal.returns
returns c =
    four c.args.writer.now c.words.new.self c.name.new.self c.push_occasion.new.writer c.push_rest.new.writer c.push_rest.result
    (plain kind.Create ∷ plain kind.Trigger ∷ []) (name c.args.trigger.now.name ∷ []) (plain (time_kind c.args.trigger.now.time) ∷ (event_words c.args.trigger.now.event c.args.trigger.now.columns ++ plain kind.On ∷ name c.args.trigger.now.table ∷ [])) (referencing_words c.args.trigger.now.referencing ++ (granularity_words c.args.trigger.now.granularity ++ (when_words c.args.trigger.now.when ++ body_words c.args.trigger.now.body)))
    (trigger_words c.args.trigger.now) (ap (λ z. plain kind.Create ∷ plain kind.Trigger ∷ name c.args.trigger.now.name ∷ plain (time_kind c.args.trigger.now.time) ∷ z) (sym (append_assoc (event_words c.args.trigger.now.event c.args.trigger.now.columns) (plain kind.On ∷ name c.args.trigger.now.table ∷ []) (referencing_words c.args.trigger.now.referencing ++ (granularity_words c.args.trigger.now.granularity ++ (when_words c.args.trigger.now.when ++ body_words c.args.trigger.now.body)))))) c.in_ok-words.ensures c.in_ok-name.ensures c.in_ok-push_occasion.ensures c.push_rest.ensures
