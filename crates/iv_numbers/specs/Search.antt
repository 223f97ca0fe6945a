-- A search in two parts of a list.
use Rattle.std.specs.Prelude.{ℕ, ◌+◌, Result, Ok, Err}

-- What a search in the second part tells, if the first has so many numbers.
abbrev pub further : ℕ → Result ℕ ℕ → Result ℕ ℕ
further count (Ok at) = Ok (count + at)
further count (Err at) = Err (count + at)
