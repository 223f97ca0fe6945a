use Rattle.std.proofs.Common.{◌≡◌, ℕ, length}
use Rattle.iv_store_rows.specs.Filing.{held_for}
use Rattle.iv_store_rows.proofs.numbers.give_rooms_back.Given as goal

abbrev pub invariant-loop-place : goal.invariant-loop-place
invariant-loop-place l = record {
  count : length l.numbers.items ≡ length l.fn.numbers.items;
  rows : (t : ℕ) → (held_for l.numbers.items t).rows ≡ (held_for l.fn.numbers.items t).rows;
}
