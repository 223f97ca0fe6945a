-- How two foreign keys disagree about a row: the first column that they set to different values, in the order in which the machine
-- compares their effects ("Referential constraint definition").
use Rattle.std.specs.Prelude.{ℕ, Bool, ◌&&◌, not, if◌then◌else◌, ◌==◌, nat_lt, List, filter_map, find, Option, None}
use Rattle.std.specs.Option.{option_map}
use Rattle.iv_value.specs.declared.value.Value.{Value}
use Rattle.iv_machine.specs.declared.effect.Effect.{Effect}
use Rattle.iv_value.specs.Values.{is_same}
use Rattle.iv_machine.specs.Databases.{first}
use Rattle.iv_machine.specs.ReferentialActions.{columns_set}
use Rattle.iv_account.specs.declared.entry.Disagreement.{Disagreement}

-- the first that comes of these
abbrev pub first_of : {A B : Type 0} → (A → Option B) → List A → Option B
first_of f xs = first (filter_map f xs)

-- a pair sets the column of another to another value
abbrev pub sets_otherwise : ℕ × Value → ℕ × Value → Bool
sets_otherwise own pair = (pair.0 == own.0) && not (is_same pair.1 own.1)

-- the other value to which the first of these pairs sets the column of another, if one does
abbrev pub other_value : List (ℕ × Value) → ℕ × Value → Option Value
other_value pairs own = option_map (λ p. p.1) (find (sets_otherwise own) pairs)

-- how an earlier effect sets the column of a pair otherwise, if it does
abbrev pub at_column : ℕ × Effect → ℕ × Value → Option Disagreement
at_column earlier own =
    option_map (λ other. record { earlier = earlier.0; column = own.0; earlier_value = other; value = own.1 })
    (other_value (columns_set earlier.1) own)

-- how the effect of a foreign key disagrees with that of an earlier one
abbrev pub with_earlier : ℕ × Effect → ℕ × Effect → Option Disagreement
with_earlier own earlier = if nat_lt earlier.0 own.0 then first_of (at_column earlier) (columns_set own.1) else None

-- how the effect of this foreign key disagrees with those of earlier ones
abbrev pub with_others : ℕ → List (ℕ × Effect) → ℕ × Effect → Option Disagreement
with_others id effects own = if own.0 == id then first_of (with_earlier own) effects else None

-- How this foreign key disagrees with an earlier one about a row, by the effects of all foreign keys on it.
abbrev pub disagreement : ℕ → List (ℕ × Effect) → Option Disagreement
disagreement id effects = first_of (with_others id effects) effects
