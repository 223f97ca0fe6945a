-- Flags of constraints that are taken up.
use Rattle.std.proofs.Common.{◌≡◌, refl, ℕ, zero, suc, ◌<◌, ◌≤◌, false, [], ◌∷◌, length, take, sym, ap, subst, ◌∙◌, arith, ⊎_elim}
use Rattle.std.proofs.lemmas.Bool.{cases_lt}
use Rattle.std.proofs.lemmas.List.{length-take-le}
use Rattle.iv_laws_kept.specs.GroupFlags.{GroupFlags, violating_of}
use Rattle.iv_store_violating.specs.Flagging.{flag, is_any}
use Rattle.iv_store_violating.proofs.Flags.{any_same}
use Rattle.iv_store_violating.proofs.Violated.{violating_before, violating_from}
use Rattle.iv_store_faults.specs.Watching.{ViolatingStay}

pub stay_itself : (violating : GroupFlags) → ViolatingStay violating violating
stay_itself violating = record { count = omega arith; flags = λ id place. refl; places = λ id less. omega arith }

-- a number that no constraint has flags no place
pub no_violating : (violating : GroupFlags) (id : ℕ) → length violating ≤ id → violating_of violating id ≡ []
no_violating [] id h = refl
no_violating (own ∷ violating) zero h = absurd (none h)
  where
    none : suc (length violating) ≤ 0 → ⊥
    none h = omega (arith, h)
no_violating (own ∷ violating) (suc id) h = no_violating violating id (omega (arith, h))

-- constraints behind those that were there aren't flagged
pub unflagged : (violating later : GroupFlags) (first : ℕ) → first ≡ length violating → ViolatingStay violating later → (id : ℕ) → first ≤ id → is_any (violating_of later id) ≡ false
unflagged violating later first is s id less =
    any_same (violating_of violating id) (violating_of later id) (λ place. s.flags id place) ∙ ap is_any (no_violating violating id (omega (arith, is, less)))

pub dropped_length : (violating later : GroupFlags) (first : ℕ) → first ≡ length violating → length violating ≤ length later → length (take first later) ≡ length violating
dropped_length violating later first is less = length-take-le first later (omega (arith, is, less)) ∙ is

-- without them all is as it was
pub stay_dropped : (violating later : GroupFlags) (first : ℕ) → first ≡ length violating → ViolatingStay violating later → ViolatingStay violating (take first later)
stay_dropped violating later first is s = record {
  count = omega (arith, dropped_length violating later first is s.count);
  flags = λ id place. ⊎_elim
      (λ (less : id < first). ap (λ own. flag own place) (violating_before later first id less) ∙ s.flags id place)
      (λ (from : first ≤ id). ap (λ own. flag own place) (violating_from later first id from ∙ sym (no_violating violating id (omega (arith, is, from)))))
      (cases_lt id first);
  places = λ id less. subst (λ own. length (violating_of violating id) ≤ length own) (sym (violating_before later first id (omega (arith, is, less)))) (s.places id less);
}
