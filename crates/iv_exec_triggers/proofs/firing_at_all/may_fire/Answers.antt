use Rattle.std.proofs.Common.{◌∙◌, ◌||◌, ap, sym}
use Rattle.std.specs.List.{list_any}
use Rattle.iv_exec_context.specs.Triggered.{has_trigger, some_have_triggers}
use Rattle.iv_exec_triggers.proofs.NoneFires.{nothing_fires}
use Rattle.iv_exec_triggers.proofs.firing_at_all.may_fire.Goals as goal

pub returns-else-has_trigger-clause-quiet : goal.returns-else-has_trigger-clause-quiet
returns-else-has_trigger-clause-quiet c e columns =
    let triggers = c.args.context.now.schema.triggers in
    let own = ap (has_trigger triggers) (sym c.table_of.ensures) ∙ sym c.if-has_trigger.ensures in
    nothing_fires c.args.context.now c.args.statement.now c.args.waves.now
    (ap (λ b. b || list_any (λ w. some_have_triggers triggers w.changes) c.args.waves.now) own ∙ sym c.some_have_triggers.ensures ∙ e) columns
