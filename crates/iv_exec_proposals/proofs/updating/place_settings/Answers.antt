use Rattle.iv_exec_proposals.specs.Placements.{setting_placed}
use Rattle.iv_exec_proposals.proofs.Steps.{told_on}
use Rattle.iv_exec_proposals.proofs.Turning.{next_left, turned_on, turn_refused, all_turned}
use Rattle.iv_exec_proposals.proofs.updating.place_settings.Goals as goal

pub loop-setting-preserved : goal.loop-setting-preserved
loop-setting-preserved g c =
    turned_on (setting_placed c.args.context.now c.args.table c.args.scope.now) c.args.settings.now c.loop-setting.setting-index _ _ c.loop-setting.invariant
    c.setting-item.result _ (next_left _ _ c.setting-item.result c.loop-setting-test.true c.setting-item.is) c.in_ok-place_setting.ensures

pub returns-in_err-place_setting : goal.returns-in_err-place_setting
returns-in_err-place_setting g c =
    told_on _ c.from_residual.result c.in_err-place_setting.field-0.0 _ c.from_residual.ensures.1
    (turn_refused (setting_placed c.args.context.now c.args.table c.args.scope.now) c.args.settings.now c.loop-setting.setting-index _ _ c.loop-setting.invariant
    c.setting-item.result _ (next_left _ _ c.setting-item.result c.loop-setting-test.true c.setting-item.is) c.in_err-place_setting.ensures)

pub returns : goal.returns
returns g c =
    all_turned (setting_placed c.args.context.now c.args.table c.args.scope.now) c.args.settings.now c.loop-setting.setting-index _ _ c.loop-setting.invariant c.loop-setting-test.false
