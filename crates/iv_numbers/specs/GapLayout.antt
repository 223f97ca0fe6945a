-- A list in two parts of a list of places.
use Rattle.std.specs.Prelude.{ℕ, ◌+◌, ◌-◌, ◌≤◌, List, ◌++◌, slice_range}
use Rattle.iv_numbers.specs.declared.gap_layout.GapLayout.{GapLayout}

-- What stands in the two parts, one behind the other.
abbrev pub held : List ℕ → GapLayout → List ℕ
held places p = slice_range places p.start p.gap_start ++ slice_range places p.gap_end p.end

-- How many places the two parts are.
abbrev pub size : GapLayout → ℕ
size p = (p.gap_start - p.start) + (p.end - p.gap_end)

-- The front is before the back, and both are within so many places.
pub record AreWithin (p : GapLayout) (count : ℕ) : Type 0 where
  pub front : p.start ≤ p.gap_start
  pub gap : p.gap_start ≤ p.gap_end
  pub back : p.gap_end ≤ p.end
  pub within : p.end ≤ count
