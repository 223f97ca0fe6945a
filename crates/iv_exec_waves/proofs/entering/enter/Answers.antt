use Rattle.std.proofs.Common.{◌≡◌, ◌∙◌, List, Ok, length, ap, sym, subst}
use Rattle.iv_expr.specs.declared.wave.TableColumn.{TableColumn}
use Rattle.iv_expr.specs.Changes.{RisingChanges}
use Rattle.iv_machine.specs.Waves.{wave_as_applied}
use Rattle.iv_exec_waves.specs.Steps.{wave_with}
use Rattle.iv_exec_waves.proofs.Entered.{enters, written}
use Rattle.iv_exec_waves.proofs.entering.enter.Goals as goal

pub from_parts-requires : goal.from_parts-requires
from_parts-requires g c =
    let view = g.K.ReferencingRows.view c.args.store.now in
    let same = c.as_mut_slice.ensures.value in
    let said = subst
    (λ (columns : List TableColumn). wave_as_applied c.args.context.now view.base c.args.budget (wave_with columns c.args.changes.items) ≡ Ok (wave_with columns c.prepare.new.changes))
    c.deref.ensures.value
    (ap (λ l. wave_as_applied c.args.context.now view.base c.args.budget (wave_with c.deref.result.now l)) (sym same) ∙ c.in_ok-prepare.ensures.answer) in
    let long : length c.prepare.new.changes ≡ length c.args.changes.items = c.in_ok-prepare.ensures.length ∙ ap length same in
    subst RisingChanges (sym (written c.prepare.new.changes c.args.changes.items c.args.changes.len long c.args.changes.ok.0))
    (enters c.args.context.now view c.args.budget (wave_with c.args.columns.items c.args.changes.items) (wave_with c.args.columns.items c.prepare.new.changes) c.requires said).applicable.rising
