use Rattle.std.proofs.Common.{◌≡◌, drop}
use Rattle.iv_machine.specs.Context.{in_turn}
use Rattle.iv_exec_proposals.specs.Placements.{setting_placed}
use Rattle.iv_exec_proposals.proofs.updating.place_settings.Given as goal

abbrev pub invariant-loop-setting : goal.invariant-loop-setting
invariant-loop-setting g l =
    in_turn (setting_placed l.context l.table l.scope) (drop l.setting-index l.settings) l.row.items
    ≡ in_turn (setting_placed l.context l.table l.scope) l.settings l.initial.row.items
