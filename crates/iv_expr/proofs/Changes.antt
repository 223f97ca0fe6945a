-- One change more at the end of rising ones.
use Rattle.std.proofs.Common.{◌≡◌, refl, ℕ, ◌<◌, List, [], ◌∷◌, ◌++◌}
use Rattle.iv_expr.specs.Types.{Change}
use Rattle.iv_expr.specs.Changes.{RisingChangesFrom, RisingChanges, last_above, last_row}

rising_from_push : (low : ℕ) (changes : List Change) (change : Change) → RisingChangesFrom low changes → last_above low changes < change.row → RisingChangesFrom low (changes ++ change ∷ [])
rising_from_push low [] change rising above = (above, tt)
rising_from_push low (first ∷ more) change rising above = (rising.0, rising_from_push first.row more change rising.1 above)

last_above_push : (low : ℕ) (changes : List Change) (change : Change) → last_above low (changes ++ change ∷ []) ≡ change.row
last_above_push low [] change = refl
last_above_push low (first ∷ more) change = last_above_push first.row more change

pub rising_push : (changes : List Change) (change : Change) → RisingChanges changes → last_row changes < change.row → RisingChanges (changes ++ change ∷ [])
rising_push = rising_from_push 0

pub last_row_push : (changes : List Change) (change : Change) → last_row (changes ++ change ∷ []) ≡ change.row
last_row_push = last_above_push 0
