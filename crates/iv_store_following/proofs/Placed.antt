-- The group at a key's place.
use Rattle.std.proofs.Common.{◌≡◌, refl, ℕ, zero, suc, ◌<◌, Bool, true, false, if◌then◌else◌, List, [], ◌∷◌, length, map, find, set, get_or, option_map, Option, Some, None, sym, ap, subst, ◌∙◌, arith}
use Rattle.iv_store_following.specs.Types.{Value, Rule}
use Rattle.iv_value.specs.Values.{all_same}
use Rattle.iv_laws_levels.proofs.Keys.{all_same_is, all_same_itself, all_same_swap}
use Rattle.iv_laws_levels.proofs.RowNumbers.{some_none, some_same}
use Rattle.iv_laws_kept.specs.Kept.{Group, rows_in}
use Rattle.iv_laws_kept.specs.GroupFlags.{rows_at}
use Rattle.iv_store_following.specs.KeyGroups.{place_of, with_rows, violate_by, group_violates}

-- ---- by place

-- a place behind the first group
pub behind : (o : Option ℕ) (place : ℕ) → option_map (λ p. suc p) o ≡ Some place → (p : ℕ) × (o ≡ Some p) × (place ≡ suc p)
behind None place e = absurd (some_none place (sym e))
behind (Some p) place e = (p, refl, sym (some_same (suc p) place e))

-- What holds if a key's place is, by cases: it is the first group's, or it is one behind.
at_place : (P : List Group → ℕ → Type 0) (key : List Value)
    → ((g : Group) (groups : List Group) → g.key ≡ key → P (g ∷ groups) 0)
    → ((g : Group) (groups : List Group) (p : ℕ) → all_same g.key key ≡ false → P groups p → P (g ∷ groups) (suc p))
    → (groups : List Group) (place : ℕ) → place_of groups key ≡ Some place → P groups place
at_place P key here there [] place e = absurd (some_none place (sym e))
at_place P key here there (g ∷ groups) place e =
    elim (all_same g.key key) as (λ b. all_same g.key key ≡ b → (if b then Some 0 else option_map (λ p. suc p) (place_of groups key)) ≡ Some place → P (g ∷ groups) place) [
      | true ↦ λ f h. subst (P (g ∷ groups)) (some_same 0 place h) (here g groups (all_same_is g.key key f))
      | false ↦ λ f h.
          let next = behind (place_of groups key) place h in
          subst (P (g ∷ groups)) (sym next.2) (there g groups next.0 f (at_place P key here there groups next.0 next.1))
    ] refl e

pub within : (groups : List Group) (key : List Value) (place : ℕ) → place_of groups key ≡ Some place → place < length groups
within groups key place e = at_place (λ groups place. place < length groups) key (λ g groups is. omega arith) (λ g groups p f h. omega (arith, h)) groups place e

pub rows_at_key : (groups : List Group) (key : List Value) (place : ℕ) → place_of groups key ≡ Some place → rows_at groups place ≡ rows_in groups key
rows_at_key groups key place e =
    at_place (λ groups place. rows_at groups place ≡ rows_in groups key) key
    (λ g groups is. sym (ap (λ b. elim (if b then Some g else find (λ o. all_same o.key key) groups) [ Some o ↦ o.rows | None ↦ [] ]) (ap (all_same g.key) (sym is) ∙ all_same_itself g.key)))
    (λ g groups p f h. h ∙ sym (ap (λ b. elim (if b then Some g else find (λ o. all_same o.key key) groups) [ Some o ↦ o.rows | None ↦ [] ]) f)) groups place e

pub rows_at_set : (groups : List Group) (key : List Value) (place : ℕ) (rows : List ℕ) → place_of groups key ≡ Some place → rows_at (with_rows groups place rows) place ≡ rows
rows_at_set groups key place rows e = at_place (λ groups place. rows_at (with_rows groups place rows) place ≡ rows) key (λ g groups is. refl) (λ g groups p f h. h) groups place e

pub same_length : (groups : List Group) (place : ℕ) (rows : List ℕ) → length (with_rows groups place rows) ≡ length groups
same_length [] place rows = refl
same_length (g ∷ groups) zero rows = refl
same_length (g ∷ groups) (suc place) rows = ap suc (same_length groups place rows)

pub same_keys : (groups : List Group) (place : ℕ) (rows : List ℕ) → map (λ g. g.key) (with_rows groups place rows) ≡ map (λ g. g.key) groups
same_keys [] place rows = refl
same_keys (g ∷ groups) zero rows = refl
same_keys (g ∷ groups) (suc place) rows = λ i. g.key ∷ same_keys groups place rows i

-- the rows under each key, if those at a key's place are others
pub rows_in_set : (groups : List Group) (key : List Value) (place : ℕ) (rows : List ℕ) (other : List Value) → place_of groups key ≡ Some place
    → rows_in (with_rows groups place rows) other ≡ (if all_same key other then rows else rows_in groups other)
rows_in_set groups key place rows other e =
    at_place (λ groups place. rows_in (with_rows groups place rows) other ≡ (if all_same key other then rows else rows_in groups other)) key here there groups place e
  where
    abbrev_rows : Bool → Group → List Group → List ℕ
    abbrev_rows b g groups = elim (if b then Some g else find (λ o. all_same o.key other) groups) [ Some o ↦ o.rows | None ↦ [] ]

    here : (g : Group) (groups : List Group) → g.key ≡ key → rows_in (with_rows (g ∷ groups) 0 rows) other ≡ (if all_same key other then rows else rows_in (g ∷ groups) other)
    here g groups is = (elim (all_same g.key other) as (λ b. abbrev_rows b (record g { rows = rows }) groups ≡ (if b then rows else abbrev_rows b g groups)) [ true ↦ refl | false ↦ refl ])
        ∙ ap (λ k. if all_same k other then rows else rows_in (g ∷ groups) other) is

    there : (g : Group) (groups : List Group) (p : ℕ) → all_same g.key key ≡ false → rows_in (with_rows groups p rows) other ≡ (if all_same key other then rows else rows_in groups other)
        → rows_in (with_rows (g ∷ groups) (suc p) rows) other ≡ (if all_same key other then rows else rows_in (g ∷ groups) other)
    there g groups p f h = elim (all_same g.key other) as (λ b. all_same g.key other ≡ b
        → abbrev_rows b g (with_rows groups p rows) ≡ (if all_same key other then rows else abbrev_rows b g groups)) [
          | true ↦ λ i. ap (λ b. if b then rows else g.rows) (sym (differs i))
          | false ↦ λ i. h
        ] refl
      where
        differs : all_same g.key other ≡ true → all_same key other ≡ false
        differs i = all_same_swap key other ∙ ap (λ k. all_same k key) (sym (all_same_is g.key other i)) ∙ f

-- ---- flags

-- the flags of groups of which one has other rows
pub flagged_set : (referenced : List Value → Bool) (rule : Rule) (groups : List Group) (key : List Value) (place : ℕ) (rows : List ℕ) → place_of groups key ≡ Some place
    → map (group_violates referenced rule) (with_rows groups place rows) ≡ set (map (group_violates referenced rule) groups) place (violate_by referenced rule key (length rows))
flagged_set referenced rule groups key place rows e =
    at_place (λ groups place. map (group_violates referenced rule) (with_rows groups place rows) ≡ set (map (group_violates referenced rule) groups) place (violate_by referenced rule key (length rows))) key
    (λ g groups is. λ i. violate_by referenced rule (is i) (length rows) ∷ map (group_violates referenced rule) groups)
    (λ g groups p f h. λ i. group_violates referenced rule g ∷ h i) groups place e

-- the flag at a key's place
pub flag_of : (referenced : List Value → Bool) (rule : Rule) (groups : List Group) (key : List Value) (place : ℕ) → place_of groups key ≡ Some place
    → get_or (map (group_violates referenced rule) groups) place false ≡ violate_by referenced rule key (length (rows_in groups key))
flag_of referenced rule groups key place e =
    at_place (λ groups place. get_or (map (group_violates referenced rule) groups) place false ≡ violate_by referenced rule key (length (rows_in groups key))) key
    (λ g groups is.
    (λ i. violate_by referenced rule (is i) (length g.rows))
    ∙ ap (λ rows. violate_by referenced rule key (length rows)) (sym (ap (λ b. elim (if b then Some g else find (λ o. all_same o.key key) groups) [ Some o ↦ o.rows | None ↦ [] ]) (ap (all_same g.key) (sym is) ∙ all_same_itself g.key))))
    (λ g groups p f h. h ∙ ap (λ rows. violate_by referenced rule key (length rows)) (sym (ap (λ b. elim (if b then Some g else find (λ o. all_same o.key key) groups) [ Some o ↦ o.rows | None ↦ [] ]) f))) groups place e
