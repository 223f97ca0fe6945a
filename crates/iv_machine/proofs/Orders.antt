-- Rows in rising number.
use Rattle.std.proofs.Common.{◌≡◌, ℕ, ◌<◌, true, if◌then◌else◌, ◌==◌, nat_lt, List, [], ◌∷◌, ◌∙◌, refl, ap, arith}
use Rattle.std.proofs.lemmas.Bool.Decides.{nat_tests}
use Rattle.iv_machine.specs.Types.{StoredRow}
use Rattle.iv_machine.specs.Databases.{rows_with, in_order}
use Rattle.iv_machine.specs.Invariants.{Rising}

pub low_below : (low : ℕ) (rows : List StoredRow) (next : ℕ) → Rising low rows next → low < next
low_below low [] next h = h
low_below low (r ∷ rows) next h = let more : r.number < next = low_below r.number rows next h.1 in omega (arith, h.0, more)

put_first : (r s : StoredRow) (rows : List StoredRow) → r.number < s.number → rows_with r (s ∷ rows) ≡ r ∷ s ∷ rows
put_first r s rows h = ap (λ b. if b then r ∷ s ∷ rows else (if r.number == s.number then r ∷ rows else s ∷ rows_with r rows)) (lemma h) where
  lemma : r.number < s.number → nat_lt r.number s.number ≡ true
  lemma h = grind (arith, nat_tests)

rising_put : (low : ℕ) (r : StoredRow) (rows : List StoredRow) (next : ℕ) → Rising low (r ∷ rows) next → rows_with r rows ≡ r ∷ rows
rising_put low r [] next h = refl
rising_put low r (s ∷ rows) next h = put_first r s rows h.1.0

-- rows in rising number are in order
pub rising_in_order : (low : ℕ) (rows : List StoredRow) (next : ℕ) → Rising low rows next → in_order rows ≡ rows
rising_in_order low [] next h = refl
rising_in_order low (r ∷ rows) next h = ap (rows_with r) (rising_in_order r.number rows next h.1) ∙ rising_put low r rows next h
