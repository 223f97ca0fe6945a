use Rattle.std.proofs.Common.{◌≡◌, ◌+◌, ◌-◌, ℕ, length}
use Rattle.iv_store_faults.specs.Watch.{numbers_at}
use Rattle.iv_store_faults.proofs.table_constraints.widen.Given as goal

abbrev pub invariant-loop-alloc : goal.invariant-loop-alloc
invariant-loop-alloc l = (t : ℕ) → numbers_at l.tables.items t ≡ numbers_at l.initial.tables.items t

abbrev pub decreases-loop-alloc : goal.decreases-loop-alloc
decreases-loop-alloc l = l.table + 1 - length l.tables.items
