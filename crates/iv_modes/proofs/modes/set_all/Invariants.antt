use Rattle.std.proofs.Common.{◌≡◌, drop}
use Rattle.iv_machine.specs.Machine.{with_modes}
use Rattle.iv_modes.proofs.modes.set_all.Given as goal

abbrev pub invariant-loop-id : goal.invariant-loop-id
invariant-loop-id l = with_modes l.modes.items (drop l.id-index l.ids) l.mode ≡ with_modes l.initial.modes.items l.ids l.mode
