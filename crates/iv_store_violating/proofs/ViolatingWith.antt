-- Flags after those of one constraint were changed.
use Rattle.std.proofs.Common.{◌≡◌, ◌≢◌, refl, ℕ, zero, suc, ◌<◌, Bool, List, [], ◌∷◌, length, slice_index_or, ap, subst, sym, ◌∙◌, arith, ⊎_elim}
use Rattle.std.proofs.lemmas.Bool.{cases_eq}
use Rattle.std.proofs.lemmas.List.{length-set, get_or-set_same, get_or-set_other}
use Rattle.iv_laws_kept.specs.GroupFlags.{GroupFlags, violating_of}
use Rattle.iv_store_violating.specs.Flagging.{AreViolated, flag, is_any, with_flag, with_violating}

pub its_violating : (violating : GroupFlags) (id : ℕ) (own : List Bool) → id < length violating → own ≡ slice_index_or violating id own → own ≡ violating_of violating id
its_violating [] id own h e = absurd (none h)
  where
    none : id < 0 → ⊥
    none h = omega (arith, h)
its_violating (first ∷ violating) zero own h e = e
its_violating (first ∷ violating) (suc id) own h e = its_violating violating id own (omega (arith, h)) e

pub violating_with : (violating : GroupFlags) (id : ℕ) (own : List Bool) → id < length violating → violating_of (with_violating violating id own) id ≡ own
violating_with [] id own h = absurd (none h)
  where
    none : id < 0 → ⊥
    none h = omega (arith, h)
violating_with (first ∷ violating) zero own h = refl
violating_with (first ∷ violating) (suc id) own h = violating_with violating id own (omega (arith, h))

pub violating_beside : (violating : GroupFlags) (id other : ℕ) (own : List Bool) → other ≢ id → violating_of (with_violating violating id own) other ≡ violating_of violating other
violating_beside [] zero other own n = refl
violating_beside [] (suc id) other own n = refl
violating_beside (first ∷ violating) zero zero own n = absurd (n refl)
violating_beside (first ∷ violating) zero (suc other) own n = refl
violating_beside (first ∷ violating) (suc id) zero own n = refl
violating_beside (first ∷ violating) (suc id) (suc other) own n = violating_beside violating id other own (λ e. n (ap suc e))

-- what holds of the old flags and the new ones, and of all flags and themselves, holds of each constraint
pub each_with : (P : List Bool → List Bool → Type 0) (violating : GroupFlags) (id : ℕ) (old new : List Bool) → id < length violating → old ≡ violating_of violating id
    → P old new → ((own : List Bool) → P own own) → (other : ℕ) → P (violating_of violating other) (violating_of (with_violating violating id new) other)
each_with P violating id old new known was changed same other = ⊎_elim
    (λ (e : other ≡ id). subst (λ o. P (violating_of violating o) (violating_of (with_violating violating id new) o)) (sym e)
    (subst (λ own. P (violating_of violating id) own) (sym (violating_with violating id new known)) (subst (λ own. P own new) was changed)))
    (λ (n : other ≢ id). subst (λ own. P (violating_of violating other) own) (sym (violating_beside violating id other new n)) (same (violating_of violating other)))
    (cases_eq other id)

-- the set of the constraints with a flagged place, after the flag of the changed one was set anew
pub violated_with : (violating : GroupFlags) (violated now : List Bool) (id : ℕ) (own : List Bool) (any : Bool) → AreViolated violating violated → id < length violating
    → any ≡ is_any own → now ≡ with_flag violated id any → AreViolated (with_violating violating id own) now
violated_with violating violated now id own any are known is_it e = record {
  known = omega (arith, are.known, length-set violating id own, ap length e, length-set violated id any);
  each = λ other. ap (λ flags. flag flags other) e ∙ ⊎_elim
      (λ (at : other ≡ id). ap (λ o. flag (with_flag violated id any) o) at
      ∙ get_or-set_same violated id any _ (omega (arith, are.known, known)) ∙ is_it
      ∙ ap is_any (sym (violating_with violating id own known)) ∙ ap (λ o. is_any (violating_of (with_violating violating id own) o)) (sym at))
      (λ (n : other ≢ id). get_or-set_other violated id other any _ n ∙ are.each other ∙ ap is_any (sym (violating_beside violating id other own n)))
      (cases_eq other id);
}
