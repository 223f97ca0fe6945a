-- The rows of the violating groups of a constraint, from its flags.
use Rattle.std.proofs.Common.{◌≡◌, refl, ℕ, zero, suc, ◌<◌, ◌≤◌, Bool, true, false, ◌&&◌, ◌||◌, not, List, [], ◌∷◌, length, map, flat_map, slice_get, get_or, Option, Some, None, sym, ap, subst, ◌∙◌, arith}
use Rattle.std.specs.List.{list_any}
use Rattle.std.proofs.lemmas.Bool.{true≢false, false_from_ne_true, or_left, or_right, and_from}
use Rattle.iv_catalogue.specs.declared.constraint.Constraint.{Constraint}
use Rattle.iv_laws_levels.proofs.Keys.{false_true, and_first}
use Rattle.iv_laws_levels.proofs.RowNumbers.{some_none, some_same}
use Rattle.iv_laws_kept.specs.Numbers.{has, in_rising_order}
use Rattle.iv_laws_kept.specs.Kept.{Group, Groups, groups_of, break_rule, violates_alone, fault_of, is_empty, is_violating, kept_rows}
use Rattle.iv_laws_kept.specs.GroupFlags.{GroupFlags, violating_of, AreFlagged, rows_at}
use Rattle.iv_laws_kept.proofs.RisingNumbers.{has_head, has_in_rising_order}
use Rattle.iv_laws_kept.proofs.Groups.{has_chosen}
use Rattle.iv_laws_kept.proofs.FlaggedRows.{flagged_rows_are_kept}
use Rattle.std.proofs.lemmas.List.{length-map}
use Rattle.iv_store_violating.specs.Flagging.{flag, is_any, NoRepeats}
use Rattle.iv_store_violating.specs.Answers.{HaveGroups, faults_kept, rows_kept}
use Rattle.iv_store_violating.specs.Apart.{AreApart}
use Rattle.iv_store_violating.proofs.Once.{length_in_order, once_rows}
use Rattle.iv_store_violating.proofs.Flags.{any_flag, flag_of_any}

-- ---- past the end

past_constraints : (constraints : List Constraint) (id : ℕ) → slice_get constraints id ≡ None → length constraints ≤ id
past_constraints [] id e = omega arith
past_constraints (c ∷ constraints) zero e = absurd (some_none c e)
past_constraints (c ∷ constraints) (suc id) e = let l = past_constraints constraints id e in omega (arith, l)

past_violating : (violating : GroupFlags) (id : ℕ) → length violating ≤ id → violating_of violating id ≡ []
past_violating [] id l = refl
past_violating (own ∷ violating) zero l = absurd (omega (arith, l))
past_violating (own ∷ violating) (suc id) l = past_violating violating id (omega (arith, l))

no_members : (numbers : List ℕ) → ((n : ℕ) → has n numbers ≡ false) → numbers ≡ []
no_members [] h = refl
no_members (n ∷ numbers) h = absurd (true≢false (sym (has_head n numbers) ∙ h n))

no_flag : (violating : List Bool) (place : ℕ) → is_any violating ≡ false → flag violating place ≡ false
no_flag violating place e = false_from_ne_true (flag violating place) (λ f. true≢false (sym (any_flag violating place f) ∙ e))

-- a constraint with a flagged place is known
pub known : (violating : GroupFlags) (id : ℕ) → is_any (violating_of violating id) ≡ true → id < length violating
known [] id e = absurd (false_true e)
known (own ∷ violating) zero e = omega arith
known (own ∷ violating) (suc id) e = let l = known violating id e in omega (arith, l)

-- the constraint of a number, if there is one
pub record There (constraints : List Constraint) (id : ℕ) : Type 0 where
  pub constraint : Constraint
  pub at : slice_get constraints id ≡ Some constraint

pub there : (constraints : List Constraint) (id : ℕ) → id < length constraints → There constraints id
there [] id l = absurd (omega (arith, l))
there (c ∷ constraints) zero l = record { constraint = c; at = refl }
there (c ∷ constraints) (suc id) l = let rest = there constraints id (omega (arith, l)) in record { constraint = rest.constraint; at = rest.at }

-- ---- a group that passes a test

record Passing (v : Group → Bool) (own : List Group) (place : ℕ) : Type 0 where
  group : Group
  at : slice_get own place ≡ Some group
  passes : v group ≡ true

passing : (v : Group → Bool) (own : List Group) (place : ℕ) → get_or (map v own) place false ≡ true → Passing v own place
passing v [] place e = absurd (false_true e)
passing v (g ∷ own) zero e = record { group = g; at = refl; passes = e }
passing v (g ∷ own) (suc place) e = let rest = passing v own place e in record { group = rest.group; at = rest.at; passes = rest.passes }

any_group : (v : Group → Bool) (own : List Group) (place : ℕ) (g : Group) → slice_get own place ≡ Some g → v g ≡ true → list_any v own ≡ true
any_group v [] place g e h = absurd (some_none g (sym e))
any_group v (o ∷ own) zero g e h = or_left (v o) (list_any v own) (ap v (some_same o g e) ∙ h)
any_group v (o ∷ own) (suc place) g e h = or_right (v o) (list_any v own) (any_group v own place g e h)

group_within : (own : List Group) (place : ℕ) (g : Group) → slice_get own place ≡ Some g → place < length own
group_within [] place g e = absurd (some_none g (sym e))
group_within (o ∷ own) zero g e = omega arith
group_within (o ∷ own) (suc place) g e = let l = group_within own place g e in omega (arith, l)

-- a number of a list that isn't empty
record Member (numbers : List ℕ) : Type 0 where
  number : ℕ
  is_in : has number numbers ≡ true

member_of : (numbers : List ℕ) → not (is_empty numbers) ≡ true → Member numbers
member_of [] e = absurd (false_true e)
member_of (n ∷ numbers) e = record { number = n; is_in = has_head n numbers }

-- ---- the rows of a constraint

module _ (constraints : List Constraint) (groups : Groups) (violating : GroupFlags) (few : length violating ≤ length constraints) (are : AreFlagged constraints groups violating) where
  -- they are those of the groups at the flagged places, in whatever order the places are
  pub rows_are_kept : (id : ℕ) (places : List ℕ) → ((place : ℕ) → has place places ≡ flag (violating_of violating id) place)
      → in_rising_order (flat_map (rows_at (groups_of groups id)) places) ≡ rows_kept constraints groups id
  rows_are_kept id places members = by_constraint (slice_get constraints id) refl
    where
      by_constraint : (o : Option Constraint) → slice_get constraints id ≡ o
          → in_rising_order (flat_map (rows_at (groups_of groups id)) places) ≡ elim o [ Some c ↦ kept_rows constraints groups id c | None ↦ [] ]
      by_constraint (Some c) e = flagged_rows_are_kept constraints groups violating id c places are e members
      by_constraint None e =
          let past = past_constraints constraints id e in
          let none : violating_of violating id ≡ [] = past_violating violating id (omega (arith, past, few)) in
          ap (λ xs. in_rising_order (flat_map (rows_at (groups_of groups id)) xs)) (no_members places (λ place. members place ∙ ap (λ own. flag own place) none))

  -- there are none if nothing is flagged
  pub none_kept : (id : ℕ) → is_any (violating_of violating id) ≡ false → rows_kept constraints groups id ≡ []
  none_kept id e = sym (rows_are_kept id [] (λ place. sym (no_flag (violating_of violating id) place e)))

  -- and some if something is
  pub some_kept : (id : ℕ) → is_any (violating_of violating id) ≡ true → rows_kept constraints groups id ≡ [] → ⊥
  some_kept id e none = true≢false (sym is_in ∙ ap (has row.number) (sym (ap (λ o. elim o [ Some c ↦ kept_rows constraints groups id c | None ↦ [] ]) c.at) ∙ none))
    where
      c : There constraints id
      c = let l = known violating id e in there constraints id (omega (arith, l, few))

      v : Group → Bool
      v = is_violating constraints groups c.constraint

      set : Passing (is_violating constraints groups c.constraint) (groups_of groups id) (flag_of_any (violating_of violating id) e).place
      set = let found = flag_of_any (violating_of violating id) e in
          passing (is_violating constraints groups c.constraint) (groups_of groups id) found.place (sym (are id c.constraint found.place c.at) ∙ found.is)

      row : Member set.group.rows
      row = member_of set.group.rows (and_first (not (is_empty set.group.rows)) (violates_alone c.constraint.rule set.group.key || break_rule constraints groups c.constraint.rule set.group.key set.group.rows) set.passes)

      is_in : has row.number (kept_rows constraints groups id c.constraint) ≡ true
      is_in = has_in_rising_order row.number _
          ∙ has_chosen (is_violating constraints groups c.constraint) (groups_of groups id) row.number
          ∙ any_group (λ g. is_violating constraints groups c.constraint g && has row.number g.rows) (groups_of groups id) (flag_of_any (violating_of violating id) e).place set.group set.at
          (and_from (is_violating constraints groups c.constraint set.group) (has row.number set.group.rows) set.passes row.is_in)

  -- how many there are
  pub count_kept : AreApart constraints groups → (id : ℕ) (places : List ℕ) → ((place : ℕ) → has place places ≡ flag (violating_of violating id) place) → NoRepeats places
      → length (faults_kept constraints groups id) ≡ length (flat_map (rows_at (groups_of groups id)) places)
  count_kept apart id places members once =
      length-map (rows_kept constraints groups id) (fault_of id) ∙ ap length (sym (rows_are_kept id places members))
      ∙ length_in_order (flat_map (rows_at (groups_of groups id)) places) (by_constraint (slice_get constraints id) refl)
    where
      by_constraint : (o : Option Constraint) → slice_get constraints id ≡ o → NoRepeats (flat_map (rows_at (groups_of groups id)) places)
      by_constraint (Some c) e = once_rows (groups_of groups id) places (apart id c e) once
      by_constraint None e =
          let past = past_constraints constraints id e in
          let none : violating_of violating id ≡ [] = past_violating violating id (omega (arith, past, few)) in
          subst (λ xs. NoRepeats (flat_map (rows_at (groups_of groups id)) xs)) (sym (no_members places (λ place. members place ∙ ap (λ own. flag own place) none))) tt

  -- each flagged place has a group
  pub have_groups : HaveGroups violating groups
  have_groups id place e =
      let l = known violating id (any_flag (violating_of violating id) place e) in
      let c = there constraints id (omega (arith, l, few)) in
      let found = passing (is_violating constraints groups c.constraint) (groups_of groups id) place (sym (are id c.constraint place c.at) ∙ e) in
      group_within (groups_of groups id) place found.group found.at
