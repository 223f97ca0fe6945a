-- The set of the constraints with a flagged place.
use Rattle.std.proofs.Common.{◌≡◌, refl, ℕ, zero, suc, ◌<◌, ◌≤◌, Bool, true, false, ◌||◌, List, [], ◌∷◌, length, take, ap, subst, sym, ◌∙◌, arith, ⊎_elim}
use Rattle.std.proofs.lemmas.Bool.{true≢false, or_right, cases_lt}
use Rattle.iv_laws_levels.proofs.Keys.{same_test}
use Rattle.iv_laws_kept.specs.GroupFlags.{GroupFlags, violating_of}
use Rattle.iv_store_violating.specs.Flagging.{AreViolated, flag, has_any, is_any}
use Rattle.iv_store_violating.proofs.Flags.{any_same, any_flag, flag_of_any}

-- flags with the same flags
pub violated_like : (violating others : GroupFlags) (violated : List Bool) → AreViolated violating violated → length others ≡ length violating
    → ((id place : ℕ) → flag (violating_of others id) place ≡ flag (violating_of violating id) place) → AreViolated others violated
violated_like violating others violated are count same = record {
  known = subst (λ n. n ≤ length violated) (sym count) are.known;
  each = λ id. are.each id ∙ sym (any_same (violating_of violating id) (violating_of others id) (same id));
}

-- a constraint with a flagged place
record Violated (violating : GroupFlags) : Type 0 where
  id : ℕ
  is : is_any (violating_of violating id) ≡ true

any_of : (violating : GroupFlags) (id : ℕ) → is_any (violating_of violating id) ≡ true → has_any violating ≡ true
any_of [] id e = absurd (true≢false (sym e))
any_of (own ∷ violating) zero e = λ i. e i || has_any violating
any_of (own ∷ violating) (suc id) e = or_right (is_any own) (has_any violating) (any_of violating id e)

of_any : (violating : GroupFlags) → has_any violating ≡ true → Violated violating
of_any [] e = absurd (true≢false (sym e))
of_any (own ∷ violating) e =
    elim (is_any own) as (λ b. is_any own ≡ b → (b || has_any violating) ≡ true → Violated (own ∷ violating)) [
      | true ↦ λ f _. record { id = 0; is = f }
      | false ↦ λ f h. let rest = of_any violating h in record { id = suc rest.id; is = rest.is }
    ] refl e

-- the set is empty if nothing is flagged
pub any_violated : (violating : GroupFlags) (violated : List Bool) → AreViolated violating violated → is_any violated ≡ has_any violating
any_violated violating violated are = same_test (is_any violated) (has_any violating)
    (λ e. let set = flag_of_any violated e in any_of violating set.place (sym (are.each set.place) ∙ set.is))
    (λ e. let one = of_any violating e in any_flag violated one.id (are.each one.id ∙ one.is))

-- ---- fewer constraints

pub violating_before : (violating : GroupFlags) (count id : ℕ) → id < count → violating_of (take count violating) id ≡ violating_of violating id
violating_before [] zero id h = refl
violating_before [] (suc count) id h = refl
violating_before (own ∷ violating) zero id h = absurd (none h)
  where
    none : id < 0 → ⊥
    none h = omega (arith, h)
violating_before (own ∷ violating) (suc count) zero h = refl
violating_before (own ∷ violating) (suc count) (suc id) h = violating_before violating count id (omega (arith, h))

pub violating_from : (violating : GroupFlags) (count id : ℕ) → count ≤ id → violating_of (take count violating) id ≡ []
violating_from [] zero id h = refl
violating_from [] (suc count) id h = refl
violating_from (own ∷ violating) zero id h = refl
violating_from (own ∷ violating) (suc count) zero h = absurd (none h)
  where
    none : suc count ≤ 0 → ⊥
    none h = omega (arith, h)
violating_from (own ∷ violating) (suc count) (suc id) h = violating_from violating count id (omega (arith, h))

shorter : (violating : GroupFlags) (count : ℕ) → length (take count violating) ≤ length violating
shorter [] zero = omega arith
shorter [] (suc count) = omega arith
shorter (own ∷ violating) zero = omega arith
shorter (own ∷ violating) (suc count) = omega (arith, shorter violating count)

-- the first constraints, if the others have no flagged place
pub violated_before : (violating : GroupFlags) (violated : List Bool) (count : ℕ) → AreViolated violating violated → ((id : ℕ) → count ≤ id → is_any (violating_of violating id) ≡ false) → AreViolated (take count violating) violated
violated_before violating violated count are none = record {
  known = omega (arith, shorter violating count, are.known);
  each = λ id. ⊎_elim
      (λ (less : id < count). are.each id ∙ ap is_any (sym (violating_before violating count id less)))
      (λ (from_on : count ≤ id). are.each id ∙ none id from_on ∙ ap is_any (sym (violating_from violating count id from_on)))
      (cases_lt id count);
}
