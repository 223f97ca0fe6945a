-- Groups, told without the room that their keys have.
use Rattle.std.proofs.Common.{◌≡◌, ◌≢◌, refl, ℕ, zero, suc, ◌+◌, ◌<◌, ◌≤◌, Bool, true, false, ◌||◌, not, if◌then◌else◌, List, [], ◌∷◌, length, find, get_or, map, option_map, Option, Some, None, sym, ap, subst, ◌∙◌, arith}
use Rattle.std.specs.Bool.{nat_lt, ◌==◌}
use Rattle.std.specs.List.{list_any}
use Rattle.std.proofs.lemmas.Bool.{true≢false, eqb-true, eq-eqb}
use Rattle.iv_store_following.specs.Types.{Value}
use Rattle.iv_value.specs.Values.{all_same}
use Rattle.iv_laws_levels.proofs.RowNumbers.{some_none, some_same}
use Rattle.iv_laws_levels.proofs.Keys.{all_same_is, all_same_itself, all_same_swap}
use Rattle.iv_numbers.specs.Rows.{Rows, IsRising, added, has_row, put, removed, roomy, with_row, without_row}
use Rattle.iv_store_groups.specs.Groups.{GroupOf, EachIsApart, EachRises, held_at, rows_of, room_of, place_in, with_held, with_row_put, with_room_under, without_row_under, with_groups, groups_of, counted}
use Rattle.iv_store_groups.specs.Laws.{size_of}
use Rattle.iv_store_groups.specs.Groups as index
use Rattle.iv_laws_kept.specs.Numbers.{has, with_number, without, AllAbove, Rise}
use Rattle.iv_laws_kept.specs.Kept.{Group, OneEach, rows_in}
use Rattle.iv_laws_kept.specs.GroupFlags.{rows_at}
use Rattle.iv_store_violating.specs.Shown.{shown_group, shown_of}
use Rattle.iv_store_following.specs.KeyGroups.{place_of, with_rows, with_group}
use Rattle.iv_store_following.proofs.Placed.{behind, rows_at_key}
use Rattle.iv_laws_kept.proofs.RisingNumbers.{has_with, not_above, rise_with, same_numbers}
use Rattle.iv_store_groups.proofs.GroupsLaws.{held_after, groups_after, size_grows, size_stays}

-- the groups of a constraint without room
abbrev all_shown : List GroupOf → List Group
all_shown groups = map shown_group groups

-- ---- numbers

all_above : (low : ℕ) (xs : List ℕ) → ((k : ℕ) → k < length xs → low < get_or xs k 0) → AllAbove low xs
all_above low [] h = tt
all_above low (x ∷ xs) h = (h zero (omega arith), all_above low xs (λ k l. h (suc k) (omega arith)))

pub rise : (xs : List ℕ) → IsRising xs → Rise xs
rise [] h = tt
rise (x ∷ xs) h = (all_above x xs (λ k l. h zero (suc k) (omega arith) (omega arith)), rise xs (λ i j lt l. h (suc i) (suc j) (omega arith) (omega arith)))

pub has_same : (n : ℕ) (xs : List ℕ) → has_row n xs ≡ has n xs
has_same n [] = refl
has_same n (x ∷ xs) = ap (λ b. (x == n) || b) (has_same n xs)

with_absent : (n : ℕ) (xs : List ℕ) → has_row n xs ≡ false → with_row n xs ≡ with_number n xs
with_absent n [] h = refl
with_absent n (m ∷ xs) h =
    elim (m == n) as (λ b. (b || has_row n xs) ≡ false
    → (if nat_lt n m then n ∷ m ∷ xs else m ∷ with_row n xs) ≡ (if nat_lt n m then n ∷ m ∷ xs else (if b then m ∷ xs else m ∷ with_number n xs))) [
      | true ↦ λ e. absurd (true≢false e)
      | false ↦ λ e. ap (λ rest. if nat_lt n m then n ∷ m ∷ xs else m ∷ rest) (with_absent n xs e)
    ] h

with_present : (n : ℕ) (xs : List ℕ) → Rise xs → has n xs ≡ true → with_number n xs ≡ xs
with_present n xs r h = same_numbers (with_number n xs) xs (rise_with n xs r) r (λ k. has_with k n xs ∙ one k)
  where
    one : (k : ℕ) → ((n == k) || has k xs) ≡ has k xs
    one k = elim (n == k) as (λ b. (n == k) ≡ b → (b || has k xs) ≡ has k xs) [
      | true ↦ λ e. sym (ap (λ m. has m xs) (sym (eqb-true n k e)) ∙ h)
      | false ↦ λ e. refl
    ] refl

pub put_rows : (row : ℕ) (held : Rows) → IsRising held.rows → (put row held).rows ≡ with_number row held.rows
put_rows row held h =
    elim (has_row row held.rows) as (λ b. has_row row held.rows ≡ b → (if b then held else added row held).rows ≡ with_number row held.rows) [
      | true ↦ λ e. sym (with_present row held.rows (rise held.rows h) (sym (has_same row held.rows) ∙ e))
      | false ↦ λ e. with_absent row held.rows e
    ] refl

without_absent : (n : ℕ) (xs : List ℕ) → has n xs ≡ false → without n xs ≡ xs
without_absent n [] h = refl
without_absent n (m ∷ xs) h =
    elim (m == n) as (λ b. (b || has n xs) ≡ false → (if not b then m ∷ without n xs else without n xs) ≡ m ∷ xs) [
      | true ↦ λ e. absurd (true≢false e)
      | false ↦ λ e. ap (λ rest. m ∷ rest) (without_absent n xs e)
    ] h

pub without_is : (n : ℕ) (xs : List ℕ) → Rise xs → without_row n xs ≡ without n xs
without_is n [] h = refl
without_is n (m ∷ xs) h =
    elim (m == n) as (λ b. (m == n) ≡ b → (if b then xs else m ∷ without_row n xs) ≡ (if not b then m ∷ without n xs else without n xs)) [
      | true ↦ λ e. (let is : m ≡ n = eqb-true m n e in sym (without_absent n xs (not_above m n xs (omega (arith, is)) h.0)))
      | false ↦ λ e. ap (λ rest. m ∷ rest) (without_is n xs h.1)
    ] refl

-- ---- groups

suc_is_more : (o : Option ℕ) → option_map (λ p. p + 1) o ≡ option_map (λ p. suc p) o
suc_is_more None = refl
suc_is_more (Some p) = let e : p + 1 ≡ suc p = omega arith in ap (λ (q : ℕ). Some q) e

pub place_shown : (gs : List GroupOf) (key : List Value) → place_in gs key ≡ place_of (all_shown gs) key
place_shown [] key = refl
place_shown (g ∷ gs) key =
    ap (λ o. if all_same g.key key then Some 0 else o) (suc_is_more (place_in gs key))
    ∙ ap (λ o. if all_same g.key key then Some 0 else option_map (λ p. suc p) o) (place_shown gs key)

pub rows_at_shown : (gs : List GroupOf) (place : ℕ) → index.rows_at gs place ≡ rows_at (all_shown gs) place
rows_at_shown [] place = refl
rows_at_shown (g ∷ gs) zero = refl
rows_at_shown (g ∷ gs) (suc place) = rows_at_shown gs place

pub rows_shown : (gs : List GroupOf) (key : List Value) → rows_in (all_shown gs) key ≡ rows_of gs key
rows_shown [] key = refl
rows_shown (g ∷ gs) key =
    elim (all_same g.key key) as (λ b. elim (if b then Some (shown_group g) else find (λ o. all_same o.key key) (all_shown gs)) [ Some o ↦ o.rows | None ↦ [] ] ≡ (if b then g.held else held_at gs key).rows) [
      | true ↦ refl
      | false ↦ rows_shown gs key
    ]

none_has : (key : List Value) (gs : List GroupOf) → ((k : ℕ) (d : GroupOf) → k < length gs → all_same (get_or gs k d).key key ≡ false)
    → list_any (λ (other : Group). all_same other.key key) (all_shown gs) ≡ false
none_has key [] h = refl
none_has key (g ∷ gs) h =
    ap (λ b. b || list_any (λ (other : Group). all_same other.key key) (all_shown gs)) (h zero g (omega arith))
    ∙ none_has key gs (λ k d l. h (suc k) d (omega arith))

pub once : (gs : List GroupOf) → EachIsApart gs → OneEach (all_shown gs)
once [] h = tt
once (g ∷ gs) h = (
  none_has g.key gs (λ k d l. all_same_swap (get_or gs k d).key g.key ∙ h zero (suc k) d (omega arith) (omega arith)),
  once gs (λ i k d lt l. h (suc i) (suc k) d (omega arith) (omega arith)),
)

-- other rows for a key that has a group
pub held_shown : (gs : List GroupOf) (key : List Value) (p : ℕ) (h : Rows) → place_of (all_shown gs) key ≡ Some p → all_shown (with_held gs key h) ≡ with_rows (all_shown gs) p h.rows
held_shown [] key p h e = absurd (some_none p (sym e))
held_shown (g ∷ gs) key p h e =
    elim (all_same g.key key) as (λ b. (if b then Some 0 else option_map (λ q. suc q) (place_of (all_shown gs) key)) ≡ Some p
    → all_shown (if b then record { key = g.key; held = h } ∷ gs else g ∷ with_held gs key h) ≡ with_rows (shown_group g ∷ all_shown gs) p h.rows) [
      | true ↦ λ q. subst (λ (n : ℕ). record { key = g.key; rows = h.rows } ∷ all_shown gs ≡ with_rows (shown_group g ∷ all_shown gs) n h.rows) (some_same 0 p q) refl
      | false ↦ λ q.
          let next = behind (place_of (all_shown gs) key) p q in
          subst (λ (n : ℕ). shown_group g ∷ all_shown (with_held gs key h) ≡ with_rows (shown_group g ∷ all_shown gs) n h.rows) (sym next.2)
          (ap (λ rest. shown_group g ∷ rest) (held_shown gs key next.0 h next.1))
    ] e

-- the same rows for a key
same_shown : (gs : List GroupOf) (key : List Value) (h : Rows) → h.rows ≡ rows_of gs key → all_shown (with_held gs key h) ≡ with_group key (all_shown gs)
same_shown [] key h e = ap (λ (rows : List ℕ). record { key = key; rows = rows } ∷ []) e
same_shown (g ∷ gs) key h e =
    elim (all_same g.key key) as (λ b. h.rows ≡ (if b then g.held else held_at gs key).rows
    → all_shown (if b then record { key = g.key; held = h } ∷ gs else g ∷ with_held gs key h) ≡ (if b then shown_group g ∷ all_shown gs else shown_group g ∷ with_group key (all_shown gs))) [
      | true ↦ λ q. ap (λ (rows : List ℕ). record { key = g.key; rows = rows } ∷ all_shown gs) q
      | false ↦ λ q. ap (λ rest. shown_group g ∷ rest) (same_shown gs key h q)
    ] e

roomy_rows : (held : Rows) → (roomy held).rows ≡ held.rows
roomy_rows held = elim (held.room == 0) as (λ b. (if b then record { rows = held.rows; room = 1 } else held).rows ≡ held.rows) [ true ↦ refl | false ↦ refl ]

roomy_has : (held : Rows) → 0 < (roomy held).room
roomy_has held = elim (held.room == 0) as (λ b. (held.room == 0) ≡ b → 0 < (if b then record { rows = held.rows; room = 1 } else held).room) [
  | true ↦ λ e. omega arith
  | false ↦ λ e. grind (arith, e)
] refl

roomy_more : (held : Rows) → held.room ≤ (roomy held).room
roomy_more held = elim (held.room == 0) as (λ b. (held.room == 0) ≡ b → held.room ≤ (if b then record { rows = held.rows; room = 1 } else held).room) [
  | true ↦ λ e. grind (arith, e)
  | false ↦ λ e. omega arith
] refl

pub room_shown : (gs : List GroupOf) (key : List Value) → all_shown (with_room_under key gs) ≡ with_group key (all_shown gs)
room_shown gs key = same_shown gs key (roomy (held_at gs key)) (roomy_rows (held_at gs key))

pub room_made : (gs : List GroupOf) (key : List Value) → 0 < room_of (with_room_under key gs) key
room_made gs key =
    subst (λ (h : Rows). 0 < h.room)
    (sym (held_after gs key key (roomy (held_at gs key)) ∙ ap (λ b. if b then roomy (held_at gs key) else held_at gs key) (all_same_itself key)))
    (roomy_has (held_at gs key))

-- no key's room falls if one key's doesn't
room_grows : (gs : List GroupOf) (key : List Value) (h : Rows) (other : List Value) → (held_at gs key).room ≤ h.room → room_of gs other ≤ room_of (with_held gs key h) other
room_grows gs key h other le =
    subst (λ (x : Rows). room_of gs other ≤ x.room) (sym (held_after gs key other h))
    (elim (all_same key other) as (λ b. all_same key other ≡ b → room_of gs other ≤ (if b then h else held_at gs other).room) [
      | true ↦ λ e. subst (λ (k : List Value). room_of gs k ≤ h.room) (all_same_is key other e) le
      | false ↦ λ e. omega arith
    ] refl)

pub room_made_grows : (gs : List GroupOf) (key other : List Value) → room_of gs other ≤ room_of (with_room_under key gs) other
room_made_grows gs key other = room_grows gs key (roomy (held_at gs key)) other (roomy_more (held_at gs key))

pub room_left_grows : (gs : List GroupOf) (key : List Value) (row : ℕ) (other : List Value) → room_of gs other ≤ room_of (without_row_under key row gs) other
room_left_grows gs key row other = room_grows gs key (removed row (held_at gs key)) other (omega arith)

pub row_added : (gs : List GroupOf) (key : List Value) (row p : ℕ) → EachRises gs → place_in gs key ≡ Some p
    → all_shown (with_row_put key row gs) ≡ with_rows (all_shown gs) p (with_number row (rows_at (all_shown gs) p))
row_added gs key row p r e =
    let at : place_of (all_shown gs) key ≡ Some p = sym (place_shown gs key) ∙ e in
    held_shown gs key p (put row (held_at gs key)) at
    ∙ ap (with_rows (all_shown gs) p) (put_rows row (held_at gs key) (r key) ∙ ap (with_number row) (sym (rows_at_key (all_shown gs) key p at ∙ rows_shown gs key)))

pub row_removed : (gs : List GroupOf) (key : List Value) (row p : ℕ) → EachRises gs → place_in gs key ≡ Some p
    → all_shown (without_row_under key row gs) ≡ with_rows (all_shown gs) p (without row (rows_at (all_shown gs) p))
row_removed gs key row p r e =
    let at : place_of (all_shown gs) key ≡ Some p = sym (place_shown gs key) ∙ e in
    held_shown gs key p (removed row (held_at gs key)) at
    ∙ ap (with_rows (all_shown gs) p) (without_is row (rows_of gs key) (rise (rows_of gs key) (r key)) ∙ ap (without row) (sym (rows_at_key (all_shown gs) key p at ∙ rows_shown gs key)))

pub has_shown : (gs : List GroupOf) (key : List Value) (row : ℕ) → has row (rows_in (all_shown gs) key) ≡ true → has_row row (rows_of gs key) ≡ true
has_shown gs key row h = has_same row (rows_of gs key) ∙ ap (has row) (sym (rows_shown gs key)) ∙ h

pub counted_within : (looked_up : ℕ) → counted looked_up ≤ looked_up + 1
counted_within looked_up = omega arith

-- ---- the groups of one constraint among all

-- other groups for a constraint
pub own_after : (gs : List (List GroupOf)) (id : ℕ) (new : List GroupOf) → id < length gs → groups_of (with_groups gs id new) id ≡ new
own_after gs id new known = groups_after gs id id new known ∙ ap (λ b. if b then new else groups_of gs id) (eq-eqb id id refl)

pub others_after : (gs : List (List GroupOf)) (id : ℕ) (new : List GroupOf) (k : ℕ) → id < length gs → k ≢ id → groups_of (with_groups gs id new) k ≡ groups_of gs k
others_after gs id new k known differ = groups_after gs id k new known ∙ by_test (k == id) refl
  where
    by_test : (b : Bool) → (k == id) ≡ b → (if b then new else groups_of gs k) ≡ groups_of gs k
    by_test true e = absurd (differ (eqb-true k id e))
    by_test false e = refl

-- no key of any constraint has fewer rows with its room, if those of one constraint don't
pub sizes_after : (gs : List (List GroupOf)) (id : ℕ) (new : List GroupOf) (k : ℕ) (key : List Value) → id < length gs
    → ((other : List Value) → size_of (groups_of gs id) other ≤ size_of new other) → size_of (groups_of gs k) key ≤ size_of (groups_of (with_groups gs id new) k) key
sizes_after gs id new k key known more = subst (λ (x : List GroupOf). size_of (groups_of gs k) key ≤ size_of x key) (sym (groups_after gs id k new known)) (by_test (k == id) refl)
  where
    by_test : (b : Bool) → (k == id) ≡ b → size_of (groups_of gs k) key ≤ size_of (if b then new else groups_of gs k) key
    by_test true e = subst (λ (n : ℕ). size_of (groups_of gs n) key ≤ size_of new key) (sym (eqb-true k id e)) (more key)
    by_test false e = omega arith

-- ---- what a call leaves

module _ (gs new : List (List GroupOf)) (id : ℕ) (key : List Value) (known : id < length gs) where
  -- the constraint's own groups after a call
  own : (after : List GroupOf) → new ≡ with_groups gs id after → groups_of new id ≡ after
  own after is = ap (λ x. groups_of x id) is ∙ own_after gs id after known

  sizes : (after : List GroupOf) → new ≡ with_groups gs id after → ((other : List Value) → size_of (groups_of gs id) other ≤ size_of after other)
      → (k : ℕ) (other : List Value) → size_of (groups_of gs k) other ≤ size_of (groups_of new k) other
  sizes after is more k other = subst (λ x. size_of (groups_of gs k) other ≤ size_of (groups_of x k) other) (sym is) (sizes_after gs id after k other known more)

  pub made_shown : new ≡ with_groups gs id (with_room_under key (groups_of gs id)) → shown_of new id ≡ with_group key (shown_of gs id)
  made_shown is = ap all_shown (own (with_room_under key (groups_of gs id)) is) ∙ room_shown (groups_of gs id) key

  pub made_room : new ≡ with_groups gs id (with_room_under key (groups_of gs id)) → 0 < room_of (groups_of new id) key
  made_room is = subst (λ x. 0 < room_of x key) (sym (own (with_room_under key (groups_of gs id)) is)) (room_made (groups_of gs id) key)

  pub made_sizes : new ≡ with_groups gs id (with_room_under key (groups_of gs id)) → (k : ℕ) (other : List Value) → size_of (groups_of gs k) other ≤ size_of (groups_of new k) other
  made_sizes is = sizes (with_room_under key (groups_of gs id)) is (λ other. size_grows.room (groups_of gs id) key other)

  module _ (row place : ℕ) (rises : EachRises (groups_of gs id)) (at : place_in (groups_of gs id) key ≡ Some place) where
    pub put_shown : new ≡ with_groups gs id (with_row_put key row (groups_of gs id)) → shown_of new id ≡ with_rows (shown_of gs id) place (with_number row (rows_at (shown_of gs id) place))
    put_shown is = ap all_shown (own (with_row_put key row (groups_of gs id)) is) ∙ row_added (groups_of gs id) key row place rises at

    pub taken_shown : new ≡ with_groups gs id (without_row_under key row (groups_of gs id)) → shown_of new id ≡ with_rows (shown_of gs id) place (without row (rows_at (shown_of gs id) place))
    taken_shown is = ap all_shown (own (without_row_under key row (groups_of gs id)) is) ∙ row_removed (groups_of gs id) key row place rises at

  pub put_sizes : (row : ℕ) → new ≡ with_groups gs id (with_row_put key row (groups_of gs id)) → (k : ℕ) (other : List Value) → size_of (groups_of gs k) other ≤ size_of (groups_of new k) other
  put_sizes row is = sizes (with_row_put key row (groups_of gs id)) is (λ other. size_grows.put (groups_of gs id) key other row)

  pub taken_sizes : (row : ℕ) → has row (rows_in (shown_of gs id) key) ≡ true → new ≡ with_groups gs id (without_row_under key row (groups_of gs id))
      → (k : ℕ) (other : List Value) → size_of (groups_of gs k) other ≤ size_of (groups_of new k) other
  taken_sizes row there is = sizes (without_row_under key row (groups_of gs id)) is (λ other. let same = size_stays.removed (groups_of gs id) key other row (has_shown (groups_of gs id) key row there) in omega (arith, same))

  pub taken_room : (row : ℕ) → new ≡ with_groups gs id (without_row_under key row (groups_of gs id)) → (other : List Value) → room_of (groups_of gs id) other ≤ room_of (groups_of new id) other
  taken_room row is other = subst (λ x. room_of (groups_of gs id) other ≤ room_of x other) (sym (own (without_row_under key row (groups_of gs id)) is)) (room_left_grows (groups_of gs id) key row other)

pub rows_rise_in : (gs : List (List GroupOf)) (id : ℕ) (key : List Value) → EachRises (groups_of gs id) → Rise (rows_in (shown_of gs id) key)
rows_rise_in gs id key rises = subst Rise (sym (rows_shown (groups_of gs id) key)) (rise (rows_of (groups_of gs id) key) (rises key))
