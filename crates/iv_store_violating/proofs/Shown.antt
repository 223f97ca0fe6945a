-- The groups of the index, as kept violations see them.
use Rattle.std.proofs.Common.{◌≡◌, refl, ℕ, zero, suc, ◌+◌, ◌<◌, true, false, if◌then◌else◌, List, [], ◌∷◌, length, map, find, get_or, slice_get, option_map, Option, Some, None, sym, ap, subst, ◌∙◌, arith}
use Rattle.std.specs.List.{list_any}
use Rattle.std.proofs.lemmas.Bool.{or_from}
use Rattle.iv_value.specs.declared.value.Value.{Value}
use Rattle.iv_value.specs.Values.{all_same}
use Rattle.std.proofs.lemmas.List.{length-map}
use Rattle.iv_laws_levels.proofs.Keys.{all_same_is, all_same_swap}
use Rattle.iv_laws_levels.proofs.RowNumbers.{some_none, some_same}
use Rattle.iv_numbers.specs.Rows.{IsRising}
use Rattle.iv_store_groups.specs.Groups.{GroupOf, EachIsApart, EachIsFound, EachRises, held_at, place_in, rows_of}
use Rattle.iv_store_groups.specs.Groups as index
use Rattle.iv_laws_kept.specs.Numbers.{Rise}
use Rattle.iv_laws_kept.specs.Kept.{Group, OneEach, KeysOnce, groups_of, rows_in, rows_under}
use Rattle.iv_laws_kept.specs.GroupFlags.{rows_at}
use Rattle.iv_store_violating.specs.Shown.{shown, shown_group, shown_of}
use Rattle.iv_store_violating.proofs.Sorted.{rise_by_places}

-- ---- by number and place

pub groups_shown : (groups : List (List GroupOf)) (id : ℕ) → groups_of (shown groups) id ≡ shown_of groups id
groups_shown [] id = refl
groups_shown (own ∷ groups) zero = refl
groups_shown (own ∷ groups) (suc id) = groups_shown groups id

pub own_rows_at_shown : (own : List GroupOf) (place : ℕ) → rows_at (map shown_group own) place ≡ index.rows_at own place
own_rows_at_shown [] place = refl
own_rows_at_shown (g ∷ own) zero = refl
own_rows_at_shown (g ∷ own) (suc place) = own_rows_at_shown own place

pub rows_at_shown : (groups : List (List GroupOf)) (id place : ℕ) → rows_at (groups_of (shown groups) id) place ≡ index.rows_at (index.groups_of groups id) place
rows_at_shown groups id place = ap (λ own. rows_at own place) (groups_shown groups id) ∙ own_rows_at_shown (index.groups_of groups id) place

pub count_shown : (groups : List (List GroupOf)) (id : ℕ) → length (groups_of (shown groups) id) ≡ length (index.groups_of groups id)
count_shown groups id = ap length (groups_shown groups id) ∙ length-map (index.groups_of groups id) shown_group

-- ---- by key

pub rows_in_shown : (own : List GroupOf) (key : List Value) → rows_in (map shown_group own) key ≡ rows_of own key
rows_in_shown [] key = refl
rows_in_shown (g ∷ own) key =
    elim (all_same g.key key) as (λ b. elim (if b then Some (shown_group g) else find (λ o. all_same o.key key) (map shown_group own)) [ Some o ↦ o.rows | None ↦ [] ] ≡ (if b then g.held else held_at own key).rows) [
      | true ↦ refl
      | false ↦ rows_in_shown own key
    ]

pub rows_under_shown : (groups : List (List GroupOf)) (id : ℕ) (key : List Value) → rows_under (shown groups) id key ≡ rows_of (index.groups_of groups id) key
rows_under_shown groups id key = ap (λ own. rows_in own key) (groups_shown groups id) ∙ rows_in_shown (index.groups_of groups id) key

-- the place of a key: one behind the first group, or the first
behind : (o : Option ℕ) (place : ℕ) → option_map (λ p. p + 1) o ≡ Some place → (p : ℕ) × (o ≡ Some p) × (place ≡ suc p)
behind None place e = absurd (some_none place (sym e))
behind (Some p) place e = (p, refl, let is : p + 1 ≡ place = some_same (p + 1) place e in omega (arith, is))

own_group_at : (own : List GroupOf) (key : List Value) (place : ℕ) → place_in own key ≡ Some place → slice_get (map shown_group own) place ≡ Some (record { key = key; rows = rows_of own key })
own_group_at [] key place e = absurd (some_none place (sym e))
own_group_at (g ∷ own) key place e =
    elim (all_same g.key key) as (λ b. all_same g.key key ≡ b → (if b then Some 0 else option_map (λ p. p + 1) (place_in own key)) ≡ Some place
    → slice_get (shown_group g ∷ map shown_group own) place ≡ Some (record { key = key; rows = (if b then g.held else held_at own key).rows })) [
      | true ↦ λ f h. ap (λ (p : ℕ). slice_get (shown_group g ∷ map shown_group own) p) (sym (some_same 0 place h)) ∙ ap (λ (k : List Value). Some (record { key = k; rows = g.held.rows })) (all_same_is g.key key f)
      | false ↦ λ f h.
          let next = behind (place_in own key) place h in
          ap (λ (p : ℕ). slice_get (shown_group g ∷ map shown_group own) p) next.2 ∙ own_group_at own key next.0 next.1
    ] refl e

-- the group at a key's place has the key and its rows
pub group_at : (groups : List (List GroupOf)) (id : ℕ) (key : List Value) (place : ℕ) → place_in (index.groups_of groups id) key ≡ Some place
    → slice_get (groups_of (shown groups) id) place ≡ Some (record { key = key; rows = rows_under (shown groups) id key })
group_at groups id key place e =
    ap (λ own. slice_get own place) (groups_shown groups id) ∙ own_group_at (index.groups_of groups id) key place e
    ∙ ap (λ (rows : List ℕ). Some (record { key = key; rows = rows })) (sym (rows_under_shown groups id key))

pub place_within : (own : List GroupOf) (key : List Value) (place : ℕ) → place_in own key ≡ Some place → place < length own
place_within [] key place e = absurd (some_none place (sym e))
place_within (g ∷ own) key place e =
    elim (all_same g.key key) as (λ b. (if b then Some 0 else option_map (λ p. p + 1) (place_in own key)) ≡ Some place → place < length (g ∷ own)) [
      | true ↦ λ h. let is : 0 ≡ place = some_same 0 place h in omega (arith, is)
      | false ↦ λ h.
          let next = behind (place_in own key) place h in
          let l = place_within own key next.0 next.1 in
          let is = next.2 in
          omega (arith, l, is)
    ] e

-- ---- no two groups have one key

no_key : (key : List Value) (own : List GroupOf) → ((k : ℕ) (d : GroupOf) → k < length own → all_same (get_or own k d).key key ≡ false)
    → list_any (λ (other : Group). all_same other.key key) (map shown_group own) ≡ false
no_key key [] h = refl
no_key key (g ∷ own) h =
    or_from (all_same g.key key) (list_any (λ (other : Group). all_same other.key key) (map shown_group own)) (h zero g (omega arith))
    (no_key key own (λ k d l. h (suc k) d (omega (arith, l))))

pub one_each : (own : List GroupOf) → EachIsApart own → OneEach (map shown_group own)
one_each [] h = tt
one_each (g ∷ own) h = (
  no_key g.key own (λ k d l. all_same_swap (get_or own k d).key g.key ∙ h zero (suc k) d (omega arith) (omega (arith, l))),
  one_each own (λ i k d lt l. h (suc i) (suc k) d (omega (arith, lt)) (omega (arith, l))),
)

pub keys_once : (groups : List (List GroupOf)) → ((id : ℕ) → EachIsApart (index.groups_of groups id)) → KeysOnce (shown groups)
keys_once groups apart id = subst OneEach (sym (groups_shown groups id)) (one_each (index.groups_of groups id) (apart id))

-- ---- rows rise

pub rise : (rows : List ℕ) → IsRising rows → Rise rows
rise rows h = rise_by_places rows h

pub rows_under_rise : (groups : List (List GroupOf)) (id : ℕ) (key : List Value) → EachRises (index.groups_of groups id) → Rise (rows_under (shown groups) id key)
rows_under_rise groups id key rises = subst Rise (sym (rows_under_shown groups id key)) (rise (rows_of (index.groups_of groups id) key) (rises key))

-- the rows of the group at each place rise
pub rows_at_rise : (groups : List (List GroupOf)) (id place : ℕ) → EachIsFound (index.groups_of groups id) → EachRises (index.groups_of groups id) → Rise (rows_at (groups_of (shown groups) id) place)
rows_at_rise groups id place found rises = by_group (slice_get (index.groups_of groups id) place) refl
  where
    rises_at : (own : List GroupOf) (place : ℕ) (g : GroupOf) → slice_get own place ≡ Some g → (place < length own) × (get_or own place g ≡ g)
    rises_at [] place g e = absurd (some_none g (sym e))
    rises_at (o ∷ own) zero g e = (omega arith, some_same o g e)
    rises_at (o ∷ own) (suc place) g e = let rest = rises_at own place g e in let l = rest.0 in (omega (arith, l), rest.1)

    by_group : (o : Option GroupOf) → slice_get (index.groups_of groups id) place ≡ o → Rise (rows_at (groups_of (shown groups) id) place)
    by_group None e = subst Rise (sym (rows_at_shown groups id place ∙ ap (λ o. elim o [ Some g ↦ g.held.rows | None ↦ [] ]) e)) tt
    by_group (Some g) e =
        let at = rises_at (index.groups_of groups id) place g e in
        let in_place : place_in (index.groups_of groups id) g.key ≡ Some place = ap (λ (o : GroupOf). place_in (index.groups_of groups id) o.key) (sym at.1) ∙ found place g at.0 in
        subst Rise (sym (ap (λ o. elim o [ Some g ↦ g.rows | None ↦ [] ]) (group_at groups id g.key place in_place))) (rows_under_rise groups id g.key rises)
