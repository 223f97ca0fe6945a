use Rattle.std.proofs.Common.{◌≡◌, ◌+◌, ◌-◌, ℕ, false, length, get_or}
use Rattle.iv_exec_actions.proofs.setting.widen.Given as goal

abbrev pub invariant-loop-flags : goal.invariant-loop-flags
invariant-loop-flags l = (id : ℕ) → get_or l.flags.items id false ≡ get_or l.initial.flags.items id false

abbrev pub decreases-loop-flags : goal.decreases-loop-flags
decreases-loop-flags l = l.place + 1 - length l.flags.items
