-- Rows in rising number.
use Rattle.std.specs.Prelude.{ℕ, ◌<◌, List, [], ◌∷◌}
use Rattle.iv_laws_levels.specs.Types.{StoredRow}

-- each of these rows is so
abbrev pub Every : (StoredRow → Type 0) → List StoredRow → Type 0
Every P [] = Unit {0}
Every P (r ∷ rows) = P r × Every P rows

-- all numbers are above this one
abbrev pub Above : ℕ → List StoredRow → Type 0
Above n rows = Every (λ r. n < r.number) rows

-- each row's number is below those of the rows after it
abbrev pub InOrder : List StoredRow → Type 0
InOrder [] = Unit {0}
InOrder (r ∷ rows) = Above r.number rows × InOrder rows
