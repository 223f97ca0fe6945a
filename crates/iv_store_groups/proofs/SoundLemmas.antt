-- What holds of the groups of every constraint, after a change of one.
use Rattle.std.proofs.Common.{◌≡◌, ◌≢◌, ℕ, ◌<◌, ◌≤◌, List, [], ◌∷◌, ◌++◌, ◌+◌, length, get_or, set, arith, ap, sym, ◌∙◌, subst, ⊎_elim, length-append}
use Rattle.std.proofs.lemmas.Bool.{cases_lt, cases_eq}
use Rattle.std.proofs.lemmas.List.{get_or-set_same, get_or-set_other, get_or_append_left, get_or_past, get_or_push}
use Rattle.iv_store_groups.specs.Groups.{AreSound, GroupOf, IsSound, groups_of}

pub sound_set : (groups : List (List GroupOf)) (constraint : ℕ) (new : List GroupOf) → AreSound groups → IsSound new → constraint < length groups → AreSound (set groups constraint new)
sound_set groups constraint new sound is known = record {
  each = λ other. ⊎_elim
      (λ (e : other ≡ constraint). subst IsSound (sym (ap (λ (n : ℕ). get_or (set groups constraint new) n []) e ∙ get_or-set_same groups constraint new [] known)) is)
      (λ (n : other ≢ constraint). subst IsSound (sym (get_or-set_other groups constraint other new [] n)) (sound.each other))
      (cases_eq other constraint);
}

pub sound_none : IsSound []
sound_none = record { found = λ place d l. absurd (omega arith); apart = λ i k d lt l. absurd (omega arith); rising = λ key i j lt l. absurd (omega arith) }

pub sound_cleared : (groups : List (List GroupOf)) (constraint : ℕ) → AreSound groups → constraint < length groups → AreSound (set groups constraint [])
sound_cleared groups constraint sound known = sound_set groups constraint [] sound sound_none known

-- lists that tell the same groups of each constraint
pub sound_like : (groups other : List (List GroupOf)) → AreSound groups → ((constraint : ℕ) → groups_of other constraint ≡ groups_of groups constraint) → AreSound other
sound_like groups other sound same = record { each = λ constraint. subst IsSound (sym (same constraint)) (sound.each constraint) }

-- a constraint of no group behind the others
pub groups_of_more : (groups : List (List GroupOf)) (constraint : ℕ) → groups_of (groups ++ [] ∷ []) constraint ≡ groups_of groups constraint
groups_of_more groups constraint = ⊎_elim
    (λ (l : constraint < length groups). get_or_append_left groups ([] ∷ []) [] constraint l)
    (λ (le : length groups ≤ constraint). ⊎_elim
    (λ (e : constraint ≡ length groups). get_or_push groups [] [] constraint (sym e) ∙ sym (get_or_past groups constraint [] le))
    (λ (n : constraint ≢ length groups).
    let m : length (groups ++ [] ∷ []) ≡ length groups + 1 = length-append groups ([] ∷ []) in
    get_or_past (groups ++ [] ∷ []) constraint [] (omega arith) ∙ sym (get_or_past groups constraint [] le))
    (cases_eq constraint (length groups)))
    (cases_lt constraint (length groups))
