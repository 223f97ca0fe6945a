use Rattle.std.proofs.Common.{◌≡◌, ◌+◌, ◌-◌, ℕ, [], length, get_or}
use Rattle.iv_exec_actions.proofs.by_table.widen.Given as goal

abbrev pub invariant-loop-alloc : goal.invariant-loop-alloc
invariant-loop-alloc l = (t : ℕ) → get_or l.lists.items t [] ≡ get_or l.initial.lists.items t []

abbrev pub decreases-loop-alloc : goal.decreases-loop-alloc
decreases-loop-alloc l = l.table + 1 - length l.lists.items
