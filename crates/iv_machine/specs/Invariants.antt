-- Rows by their numbers and tables.
use Rattle.std.specs.Prelude.{ℕ, ◌<◌, List, [], ◌∷◌}
use Rattle.iv_machine.specs.Types.{StoredRow}

-- the numbers rise from above the one, and stay below the other
abbrev pub Rising : ℕ → List StoredRow → ℕ → Type 0
Rising low [] next = low < next
Rising low (r ∷ rows) next = (low < r.number) × Rising r.number rows next

-- the rows are of tables below this number
abbrev pub Below : ℕ → List StoredRow → Type 0
Below n [] = Unit {0}
Below n (r ∷ rows) = (r.table < n) × Below n rows
