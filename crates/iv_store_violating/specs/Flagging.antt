-- Places of which some are flagged.
use Rattle.std.specs.Prelude.{◌≡◌, ℕ, ◌<◌, ◌≤◌, Bool, false, nat_lt, List, [], ◌∷◌, length, map, slice_index, slice_set, get_or}
use Rattle.std.specs.List.{list_any}
use Rattle.iv_laws_kept.specs.Numbers.{has}
use Rattle.iv_laws_kept.specs.GroupFlags.{GroupFlags, violating_of}

-- whether the place is flagged; no place past the end is
abbrev pub flag : List Bool → ℕ → Bool
flag violating place = get_or violating place false

abbrev pub with_flag : List Bool → ℕ → Bool → List Bool
with_flag violating place raised = slice_set violating place raised

-- some place is flagged
abbrev pub is_any : List Bool → Bool
is_any violating = list_any (λ raised. raised) violating

-- no number comes twice
abbrev pub NoRepeats : List ℕ → Type 0
NoRepeats [] = Unit {0}
NoRepeats (n ∷ numbers) = (has n numbers ≡ false) × NoRepeats numbers

-- The places in an order, and the position of each in it; those at the first positions are flagged.
pub record Paired (order position : List ℕ) (flagged : ℕ) : Type 0 where
  pub lengths : length order ≡ length position
  pub within : flagged ≤ length order
  pub order_in : (i : ℕ) → i < length order → slice_index order i < length order
  pub position_in : (p : ℕ) → p < length order → slice_index position p < length order
  pub there : (i : ℕ) → i < length order → slice_index position (slice_index order i) ≡ i
  pub back : (p : ℕ) → p < length order → slice_index order (slice_index position p) ≡ p

-- which places are flagged
abbrev pub flags : ℕ → List ℕ → List Bool
flags flagged position = map (λ p. nat_lt p flagged) position

-- ---- the flags of all constraints

-- with these flags for a constraint
abbrev pub with_violating : GroupFlags → ℕ → List Bool → GroupFlags
with_violating violating id own = slice_set violating id own

-- some place of some constraint is flagged
abbrev pub has_any : GroupFlags → Bool
has_any violating = list_any (λ own. is_any own) violating

-- A set of numbers of constraints: it has a flag for each, and those are set whose constraint has a flagged place.
pub record AreViolated (violating : GroupFlags) (violated : List Bool) : Type 0 where
  pub known : length violating ≤ length violated
  pub each : (id : ℕ) → flag violated id ≡ is_any (violating_of violating id)
