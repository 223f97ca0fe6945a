-- Flags by their places.
use Rattle.std.proofs.Common.{◌≡◌, refl, ℕ, suc, ◌<◌, ◌≤◌, Bool, true, false, List, [], ◌∷◌, length, get_or, sym, ◌∙◌, ⊎_elim}
use Rattle.std.specs.Bool.{◌==◌}
use Rattle.std.proofs.Math.ListN.{get_or-eq_default}
use Rattle.std.proofs.lemmas.Bool.{cases_lt, eqb-true, eq-eqb, true≢false}
use Rattle.std.proofs.lemmas.List.Folds.{Any-from_list_any, list_any_at}
use Rattle.std.proofs.lemmas.Grind.{get_or_default_zero}
use Rattle.iv_laws_levels.proofs.Keys.{same_test}
use Rattle.iv_laws_kept.specs.Numbers.{has}
use Rattle.iv_store_violating.specs.Flagging.{flag, is_any}

-- ---- numbers by their places

pub record At (xs : List ℕ) (n : ℕ) : Type 0 where
  pub place : ℕ
  pub within : place < length xs
  pub is : get_or xs place 0 ≡ n

pub has_at : (xs : List ℕ) (i : ℕ) → i < length xs → has (get_or xs i 0) xs ≡ true
has_at xs i l = list_any_at (λ m. m == get_or xs i 0) xs i 0 l (eq-eqb (get_or xs i 0) (get_or xs i 0) refl)

pub at_has : (xs : List ℕ) (n : ℕ) → has n xs ≡ true → At xs n
at_has xs n e =
    let found = Any-from_list_any (λ m. m == n) xs e in
    record { place = found.0; within = found.2; is = sym (get_or_default_zero xs found.0 found.1 found.2) ∙ found.3 ∙ eqb-true found.1 n found.4 }

-- ---- flags

-- a flag that is set is in the list
pub flag_within : (violating : List Bool) (place : ℕ) → flag violating place ≡ true → place < length violating
flag_within violating place e = ⊎_elim
    (λ (l : place < length violating). l)
    (λ (l : length violating ≤ place). absurd (true≢false (sym e ∙ get_or-eq_default violating false l)))
    (cases_lt place (length violating))

pub any_flag : (violating : List Bool) (place : ℕ) → flag violating place ≡ true → is_any violating ≡ true
any_flag violating place e = list_any_at (λ raised. raised) violating place false (flag_within violating place e) e

pub record SetFlag (violating : List Bool) : Type 0 where
  pub place : ℕ
  pub is : flag violating place ≡ true

pub flag_of_any : (violating : List Bool) → is_any violating ≡ true → SetFlag violating
flag_of_any [] e = absurd (true≢false (sym e))
flag_of_any (true ∷ violating) e = record { place = 0; is = refl }
flag_of_any (false ∷ violating) e = let rest = flag_of_any violating e in record { place = suc rest.place; is = rest.is }

-- some flag is set if the same flags are
pub any_same : (violating others : List Bool) → ((place : ℕ) → flag others place ≡ flag violating place) → is_any others ≡ is_any violating
any_same violating others same =
    same_test (is_any others) (is_any violating)
    (λ e. let set = flag_of_any others e in any_flag violating set.place (sym (same set.place) ∙ set.is))
    (λ e. let set = flag_of_any violating e in any_flag others set.place (same set.place ∙ set.is))
