use Rattle.std.proofs.Common.{◌++◌, ap, sym, ◌∙◌}
use Rattle.iv_write.specs.Triggers.{body_words, granularity_words, referencing_words, when_words}
use Rattle.iv_write.proofs.Steps.{four}
use Rattle.iv_write.proofs.trigger.push_rest.Goals as goal

pub returns : goal.returns
returns c =
    four c.args.writer.now c.push_referencing.new.writer c.push_granularity.new.writer c.push_when.new.writer c.push_body.new.writer c.push_body.result
    (referencing_words c.as_slice.result.now) (granularity_words c.args.trigger.now.granularity) (when_words c.args.trigger.now.when) (body_words c.as_slice-2.result.now)
    (referencing_words c.args.trigger.now.referencing ++ (granularity_words c.args.trigger.now.granularity ++ (when_words c.args.trigger.now.when ++ body_words c.args.trigger.now.body))) (ap (λ z. referencing_words z ++ (granularity_words c.args.trigger.now.granularity ++ (when_words c.args.trigger.now.when ++ body_words c.args.trigger.now.body))) (sym c.as_slice.ensures) ∙ ap (λ z. referencing_words c.as_slice.result.now ++ (granularity_words c.args.trigger.now.granularity ++ (when_words c.args.trigger.now.when ++ body_words z))) (sym c.as_slice-2.ensures)) c.in_ok-push_referencing.ensures c.in_ok-push_granularity.ensures c.in_ok-push_when.ensures c.push_body.ensures
