use Rattle.iv_catalogue.specs.Refusals.{is_memory_cause}
use Rattle.iv_exec_waves.specs.Steps.{wave_with}
use Rattle.iv_exec_waves.proofs.Entered.{enters}
use Rattle.iv_exec_waves.proofs.ToldOn.{told_unless}
use Rattle.iv_exec_waves.proofs.WavesTold.{entered_and_told, not_entered_told}
use Rattle.iv_exec_waves.proofs.settling.one_wave.Goals as goal

pub follow-requires-clause-applicable : goal.follow-requires-clause-applicable
follow-requires-clause-applicable g c =
    (enters c.args.context.now (g.K.ReferencingRows.view c.args.store.now) c.args.budget (wave_with c.args.columns.items c.args.changes.items) c.in_ok-wave.wave c.requires c.in_ok-wave.ensures.answer).applicable

pub returns-in_err-wave-clause-told : goal.returns-in_err-wave-clause-told
returns-in_err-wave-clause-told g c =
    told_unless c.from_residual.result c.in_err-wave.field-0.0 _ c.from_residual.ensures.1
    (not_entered_told c.args.context.now (g.K.ReferencingRows.view c.args.store.now).base c.args.budget (wave_with c.args.columns.items c.args.changes.items)
    (is_memory_cause c.in_err-wave.field-0.0.cause) _ c.args.account.now c.enter.new.account c.in_err-wave.ensures.answer c.in_err-wave.ensures.told)

pub returns-clause-told : goal.returns-clause-told
returns-clause-told g c =
    entered_and_told c.args.context.now (g.K.ReferencingRows.view c.args.store.now).base c.args.budget (wave_with c.args.columns.items c.args.changes.items)
    c.in_ok-wave.wave c.follow.result c.args.account.now c.enter.new.account c.follow.new.account c.in_ok-wave.ensures.answer c.in_ok-wave.ensures.told c.follow.ensures.told
