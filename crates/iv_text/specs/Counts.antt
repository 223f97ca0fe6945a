-- Counts that a 64-bit number holds.
use Rattle.std.specs.Prelude.{ℕ, ◌+◌, ◌-◌, ◌^◌, min, ◌==◌, ◌&&◌, nat_lt, if◌then◌else◌}

-- so many more; the count stays at its greatest value once it is there
abbrev pub counted : ℕ → ℕ → ℕ
counted count more = min (count + more) (2 ^ 64 - 1)

-- how many reads have reported the end, after one into this much room that gave so many bytes: none
-- into some room is the end
abbrev pub ends_after : ℕ → ℕ → ℕ → ℕ
ends_after ends room given = if (given == 0) && nat_lt 0 room then counted ends 1 else ends
