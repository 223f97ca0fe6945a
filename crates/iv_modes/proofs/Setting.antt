-- What the modes are after some are set.
use Rattle.std.proofs.Common.{◌≡◌, ℕ, zero, suc, ◌<◌, Bool, true, false, ◌||◌, not, if◌then◌else◌, ◌==◌, Option, Some, None, List, [], ◌∷◌, length, arith, refl, ap, sym, ◌∙◌}
use Rattle.std.specs.Prelude.{slice_get, slice_set}
use Rattle.std.specs.List.{list_any}
use Rattle.std.proofs.lemmas.Bool.Decides.{nat_tests}
use Rattle.std.proofs.lemmas.List.{length-set}
use Rattle.std.proofs.lemmas.Option.{slice_get_within}
use Rattle.iv_syntax.specs.declared.statement.ConstraintMode.{ConstraintMode}
use Rattle.iv_machine.specs.Databases.{defers, is_deferred}
use Rattle.iv_machine.specs.Machine.{with_modes}
use Rattle.iv_modes.specs.ModeMaps.{ModeMap, is_deferrable, first_not_deferrable, with_mode, OnlyTheseAreSet}

next_same : (i j : ℕ) → (suc i == suc j) ≡ (i == j)
next_same i j = grind (arith, nat_tests)

after_one : (modes : List ConstraintMode) (i j : ℕ) (mode : ConstraintMode) → i < length modes
    → is_deferred (slice_set modes i mode) j ≡ (if i == j then defers mode else is_deferred modes j)
after_one [] i j mode h = absurd (omega (arith, h))
after_one (x ∷ modes) zero zero mode h = refl
after_one (x ∷ modes) zero (suc j) mode h = ap (λ b. if b then defers mode else is_deferred modes j) (sym other)
  where
    other : (0 == suc j) ≡ false
    other = grind (arith, nat_tests)
after_one (x ∷ modes) (suc i) zero mode h = ap (λ b. if b then defers mode else defers x) (sym other)
  where
    other : (suc i == 0) ≡ false
    other = grind (arith, nat_tests)
after_one (x ∷ modes) (suc i) (suc j) mode h =
    after_one modes i j mode (omega (arith, h)) ∙ ap (λ b. if b then defers mode else is_deferred modes j) (sym (next_same i j))

-- each of these numbers is a constraint's
abbrev AllWithin : ℕ → List ℕ → Type 0
AllWithin n [] = Unit {0}
AllWithin n (id ∷ ids) = (id < n) × AllWithin n ids

after_all : (modes : List ConstraintMode) (ids : List ℕ) (mode : ConstraintMode) → AllWithin (length modes) ids
    → (j : ℕ) → is_deferred (with_modes modes ids mode) j ≡ (if list_any (λ n. n == j) ids then defers mode else is_deferred modes j)
after_all modes [] mode h j = refl
after_all modes (id ∷ ids) mode h j =
    after_all (slice_set modes id mode) ids mode (rw (length-set modes id mode) h.1) j
    ∙ ap (λ b. if list_any (λ n. n == j) ids then defers mode else b) (after_one modes id j mode h.0)
    ∙ by (list_any (λ n. n == j) ids) (id == j) where
      by : (any one : Bool) → (if any then defers mode else (if one then defers mode else is_deferred modes j)) ≡ (if one || any then defers mode else is_deferred modes j)
      by true true = refl
      by true false = refl
      by false true = refl
      by false false = refl

one_within : (m : ModeMap) (id : ℕ) → is_deferrable m id ≡ true → id < length m.deferrable
one_within m id h = by (slice_get m.deferrable id) refl h where
  by : (o : Option Bool) → slice_get m.deferrable id ≡ o → (elim o [ Some deferrable ↦ deferrable | None ↦ false ]) ≡ true → id < length m.deferrable
  by None e t = cc
  by (Some d) e t = slice_get_within m.deferrable id d e

within : (m : ModeMap) (ids : List ℕ) → first_not_deferrable m ids ≡ None → AllWithin (length m.deferrable) ids
within m [] h = tt
within m (id ∷ ids) h = by (is_deferrable m id) refl h (within m ids) where
  by : (b : Bool) → is_deferrable m id ≡ b → (if not b then Some id else first_not_deferrable m ids) ≡ None
      → (first_not_deferrable m ids ≡ None → AllWithin (length m.deferrable) ids) → (id < length m.deferrable) × AllWithin (length m.deferrable) ids
  by true e h more = (one_within m id e, more h)
  by false e h more = cc

pub only_these : (m : ModeMap) (ids : List ℕ) (mode : ConstraintMode) → length m.deferrable ≡ length m.modes → first_not_deferrable m ids ≡ None
    → OnlyTheseAreSet m ids mode (with_mode m ids mode)
only_these m ids mode same h = after_all m.modes ids mode (rw (← same) (within m ids h))

pub length_with_modes : (modes : List ConstraintMode) (ids : List ℕ) (mode : ConstraintMode) → length (with_modes modes ids mode) ≡ length modes
length_with_modes modes [] mode = refl
length_with_modes modes (id ∷ ids) mode = length_with_modes (slice_set modes id mode) ids mode ∙ length-set modes id mode
