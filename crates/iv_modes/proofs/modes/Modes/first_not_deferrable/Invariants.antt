use Rattle.std.proofs.Common.{◌≡◌, drop}
use Rattle.iv_modes.specs.ModeMaps.{first_not_deferrable}
use Rattle.iv_modes.proofs.modes.Modes.first_not_deferrable.Given as goal

abbrev pub invariant-loop-id : goal.invariant-loop-id
invariant-loop-id l = first_not_deferrable l.self (drop l.id-index l.ids) ≡ first_not_deferrable l.self l.ids
