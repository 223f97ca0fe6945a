-- The rows of flagged groups.
use Rattle.std.proofs.Common.{◌≡◌, refl, ℕ, zero, suc, Bool, true, false, ◌&&◌, ◌||◌, List, [], ◌∷◌, map, filter, flat_map, slice_get, get_or, Option, Some, None, sym, ap, ◌∙◌}
use Rattle.std.specs.Bool.{◌==◌}
use Rattle.std.specs.List.{list_any}
use Rattle.std.proofs.lemmas.Bool.{eqb-true, eq-eqb}
use Rattle.iv_laws_kept.specs.Types.{Constraint}
use Rattle.iv_laws_kept.specs.Numbers.{has, in_rising_order}
use Rattle.iv_laws_kept.specs.Kept.{Group, Groups, groups_of, is_violating, kept_rows}
use Rattle.iv_laws_kept.specs.GroupFlags.{GroupFlags, violating_of, AreFlagged, rows_at}
use Rattle.iv_laws_levels.proofs.Keys.{false_true, and_first, and_second, same_test}
use Rattle.iv_laws_levels.proofs.RowNumbers.{some_none, some_same}
use Rattle.iv_laws_kept.proofs.RisingNumbers.{has_append, same_numbers, rise_in_rising_order, has_in_rising_order}
use Rattle.iv_laws_kept.proofs.Groups.{has_chosen}

-- a group at a place
record Found (own : List Group) (p : Group → Bool) : Type 0 where
  place : ℕ
  group : Group
  at : slice_get own place ≡ Some group
  passes : p group ≡ true

found : (p : Group → Bool) (own : List Group) → list_any p own ≡ true → Found own p
found p [] e = absurd (false_true e)
found p (g ∷ own) e =
    elim (p g) as (λ b. p g ≡ b → (b || list_any p own) ≡ true → Found (g ∷ own) p) [
      | true ↦ λ f _. record { place = 0; group = g; at = refl; passes = f }
      | false ↦ λ f h. let rest = found p own h in record { place = suc rest.place; group = rest.group; at = rest.at; passes = rest.passes }
    ] refl e

any_at : (p : Group → Bool) (own : List Group) (place : ℕ) (g : Group) → slice_get own place ≡ Some g → p g ≡ true → list_any p own ≡ true
any_at p [] place g e h = absurd (some_none g (sym e))
any_at p (o ∷ own) zero g e h = ap (λ b. b || list_any p own) (ap p (some_same o g e) ∙ h)
any_at p (o ∷ own) (suc place) g e h = right (p o) (any_at p own place g e h)
  where
    right : (b : Bool) → list_any p own ≡ true → (b || list_any p own) ≡ true
    right true e = refl
    right false e = e

-- the flag at a place is that of its group
flag_at : (v : Group → Bool) (own : List Group) (place : ℕ) → get_or (map v own) place false ≡ elim (slice_get own place) [ Some g ↦ v g | None ↦ false ]
flag_at v [] place = refl
flag_at v (g ∷ own) zero = refl
flag_at v (g ∷ own) (suc place) = flag_at v own place

has_all : (f : ℕ → List ℕ) (n : ℕ) (places : List ℕ) → has n (flat_map f places) ≡ list_any (λ p. has n (f p)) places
has_all f n [] = refl
has_all f n (p ∷ places) = has_append n (f p) (flat_map f places) ∙ ap (λ b. has n (f p) || b) (has_all f n places)

-- a place among places
record Among (places : List ℕ) (q : ℕ → Bool) : Type 0 where
  place : ℕ
  is_in : has place places ≡ true
  passes : q place ≡ true

among : (q : ℕ → Bool) (places : List ℕ) → list_any q places ≡ true → Among places q
among q [] e = absurd (false_true e)
among q (p ∷ places) e =
    elim (q p) as (λ b. q p ≡ b → (b || list_any q places) ≡ true → Among (p ∷ places) q) [
      | true ↦ λ f _. record { place = p; is_in = ap (λ b. b || has p places) (eq-eqb p p refl); passes = f }
      | false ↦ λ f h. let rest = among q places h in record { place = rest.place; is_in = right (p == rest.place) rest.is_in; passes = rest.passes }
    ] refl e
  where
    right : (b : Bool) {c : Bool} → c ≡ true → (b || c) ≡ true
    right true e = refl
    right false e = e

of_among : (q : ℕ → Bool) (places : List ℕ) (place : ℕ) → has place places ≡ true → q place ≡ true → list_any q places ≡ true
of_among q [] place e h = absurd (false_true e)
of_among q (p ∷ places) place e h =
    elim (p == place) as (λ b. (p == place) ≡ b → (b || has place places) ≡ true → (q p || list_any q places) ≡ true) [
      | true ↦ λ f _. ap (λ b. b || list_any q places) (ap q (eqb-true p place f) ∙ h)
      | false ↦ λ f i. right (q p) (of_among q places place i h)
    ] refl e
  where
    right : (b : Bool) {c : Bool} → c ≡ true → (b || c) ≡ true
    right true e = refl
    right false e = e

-- the rows at flagged places
rows_flagged : (v : Group → Bool) (own : List Group) (places : List ℕ) (n : ℕ) → ((place : ℕ) → has place places ≡ get_or (map v own) place false)
    → list_any (λ p. has n (rows_at own p)) places ≡ list_any (λ g. v g && has n g.rows) own
rows_flagged v own places n h =
    same_test (list_any (λ p. has n (rows_at own p)) places) (list_any (λ g. v g && has n g.rows) own)
    (λ e. let a = among (λ p. has n (rows_at own p)) places e in forward a.place (slice_get own a.place) refl (sym (h a.place ∙ flag_at v own a.place) ∙ a.is_in) a.passes)
    (λ e.
    let f = found (λ g. v g && has n g.rows) own e in
    of_among (λ p. has n (rows_at own p)) places f.place
    (h f.place ∙ flag_at v own f.place ∙ ap (λ o. elim o [ Some g ↦ v g | None ↦ false ]) f.at ∙ and_first (v f.group) (has n f.group.rows) f.passes)
    (ap (λ o. has n (elim o [ Some g ↦ g.rows | None ↦ [] ])) f.at ∙ and_second (v f.group) (has n f.group.rows) f.passes))
  where
    forward : (p : ℕ) (o : Option Group) → slice_get own p ≡ o → elim (slice_get own p) [ Some g ↦ v g | None ↦ false ] ≡ true → has n (rows_at own p) ≡ true
        → list_any (λ g. v g && has n g.rows) own ≡ true
    forward p None e m r = absurd (false_true (sym (ap (λ o. elim o [ Some g ↦ v g | None ↦ false ]) e) ∙ m))
    forward p (Some g) e m r =
        any_at (λ g. v g && has n g.rows) own p g e
        ((λ i. (sym (ap (λ o. elim o [ Some g ↦ v g | None ↦ false ]) e) ∙ m) i && has n g.rows) ∙ sym (ap (λ o. has n (elim o [ Some g ↦ g.rows | None ↦ [] ])) e) ∙ r)

-- the rows at the places of the groups that pass a test, in whatever order the places are
pub rows_of_places : (v : Group → Bool) (own : List Group) (places : List ℕ) → ((place : ℕ) → has place places ≡ get_or (map v own) place false)
    → in_rising_order (flat_map (rows_at own) places) ≡ in_rising_order (flat_map (λ g. g.rows) (filter v own))
rows_of_places v own places h =
    same_numbers (in_rising_order (flat_map (rows_at own) places)) (in_rising_order (flat_map (λ g. g.rows) (filter v own)))
    (rise_in_rising_order (flat_map (rows_at own) places)) (rise_in_rising_order (flat_map (λ g. g.rows) (filter v own))) (λ n.
    has_in_rising_order n (flat_map (rows_at own) places) ∙ has_all (rows_at own) n places ∙ rows_flagged v own places n h
    ∙ sym (has_in_rising_order n (flat_map (λ g. g.rows) (filter v own)) ∙ has_chosen v own n))

pub flagged_rows_are_kept : (constraints : List Constraint) (groups : Groups) (violating : GroupFlags) (id : ℕ) (c : Constraint) (places : List ℕ)
    → AreFlagged constraints groups violating → slice_get constraints id ≡ Some c → ((place : ℕ) → has place places ≡ get_or (violating_of violating id) place false)
    → in_rising_order (flat_map (rows_at (groups_of groups id)) places) ≡ kept_rows constraints groups id c
flagged_rows_are_kept constraints groups violating id c places right at h =
    rows_of_places (is_violating constraints groups c) (groups_of groups id) places (λ place. h place ∙ right id c place at)
