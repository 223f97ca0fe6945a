-- The numbers of rows in rising number.
use Rattle.std.proofs.Common.{◌≡◌, refl, ℕ, Bool, true, false, ◌||◌, if◌then◌else◌, List, [], ◌∷◌, filter, Option, Some, None, ap, ◌∙◌}
use Rattle.std.specs.Bool.{◌==◌}
use Rattle.iv_laws_kept.specs.Types.{StoredRow}
use Rattle.iv_machine.specs.Databases.{row_at}
use Rattle.iv_store.specs.Stores.{numbers_of}
use Rattle.iv_laws_levels.specs.RisingRows.{Above, InOrder}
use Rattle.iv_laws_kept.specs.Numbers.{has, AllAbove, Rise}
use Rattle.iv_laws_levels.proofs.RowNumbers.{passing, in_order_filter, row_at_filter_in_order}

numbers_above : (low : ℕ) (rows : List StoredRow) → Above low rows → AllAbove low (numbers_of rows)
numbers_above low [] a = tt
numbers_above low (r ∷ rows) a = (a.0, numbers_above low rows a.1)

pub numbers_rise : (rows : List StoredRow) → InOrder rows → Rise (numbers_of rows)
numbers_rise [] h = tt
numbers_rise (r ∷ rows) h = (numbers_above r.number rows h.0, numbers_rise rows h.1)

abbrev pub is_some : {A : Type 0} → Option A → Bool
is_some None = false
is_some (Some x) = true

has_number : (rows : List StoredRow) (n : ℕ) → has n (numbers_of rows) ≡ is_some (row_at rows n)
has_number [] n = refl
has_number (r ∷ rows) n = elim (r.number == n) as (λ b. (b || has n (numbers_of rows)) ≡ is_some (if b then Some r else row_at rows n)) [ true ↦ refl | false ↦ has_number rows n ]

-- a row that is there and passes
abbrev pub passes : (StoredRow → Bool) → Option StoredRow → Bool
passes p None = false
passes p (Some r) = p r

is_passing : (p : StoredRow → Bool) (o : Option StoredRow) → is_some (passing p o) ≡ passes p o
is_passing p None = refl
is_passing p (Some r) = elim (p r) as (λ b. is_some (if b then Some r else None) ≡ b) [ true ↦ refl | false ↦ refl ]

-- the numbers of the rows that pass a test
pub has_filtered : (p : StoredRow → Bool) (rows : List StoredRow) (n : ℕ) → InOrder rows → has n (numbers_of (filter p rows)) ≡ passes p (row_at rows n)
has_filtered p rows n h = has_number (filter p rows) n ∙ ap is_some (row_at_filter_in_order p rows n h) ∙ is_passing p (row_at rows n)

pub filtered_rise : (p : StoredRow → Bool) (rows : List StoredRow) → InOrder rows → Rise (numbers_of (filter p rows))
filtered_rise p rows h = numbers_rise (filter p rows) (in_order_filter p rows h)
