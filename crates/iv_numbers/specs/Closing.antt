-- What closing the gap leaves: all is as it was.
use Rattle.std.specs.Prelude.{◌≡◌, ⊤}
use Rattle.std.specs.Borrow.{follows_so, MutBor, Fml}
use mathlib.Core.Option.{none}
use Rattle.iv_numbers.specs.declared.row_numbers.RowNumbers.{RowNumbers}
use Rattle.iv_numbers.specs.contracts.row_numbers.RowNumbers.{the_row}

-- The numbers end as they were.
abbrev pub NumbersStay : MutBor RowNumbers → Fml
NumbersStay s = follows_so the_row the_row s.ghost_name none (λ _ _. ⊤) (λ v. v ≡ s.now)
