-- What holds of row numbers in their places.
use Rattle.std.specs.Prelude.{ℕ, ◌+◌, ◌≤◌, List, length}
use Rattle.iv_numbers.specs.declared.gap_layout.GapLayout.{GapLayout}
use Rattle.iv_numbers.specs.Rows.{IsRising}
use Rattle.iv_numbers.specs.GapLayout.{AreWithin, held, size}

-- The parts are within the places, their numbers rise, and there are places for so many more.
pub record IsKept (places : List ℕ) (live : GapLayout) (spare : ℕ) : Type 0 where
  pub within : AreWithin live (length places)
  pub room : size live + spare ≤ length places
  pub rising : IsRising (held places live)
