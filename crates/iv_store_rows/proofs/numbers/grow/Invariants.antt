use Rattle.std.proofs.Common.{◌≡◌, ℕ, ◌-◌, length}
use Rattle.iv_store_rows.specs.Filing.{held_for}
use Rattle.iv_store_rows.proofs.numbers.grow.Given as goal

abbrev pub invariant-loop-numbers : goal.invariant-loop-numbers
invariant-loop-numbers l = (t : ℕ) → held_for l.numbers.items t ≡ held_for l.initial.numbers.items t

abbrev pub decreases-loop-numbers : goal.decreases-loop-numbers
decreases-loop-numbers l = l.tables - length l.numbers.items
