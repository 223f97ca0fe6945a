-- The laws of groups.
use Rattle.std.specs.Prelude.{Option, Some, None, option_map, ◌==◌, ◌&&◌}
use Rattle.std.proofs.Common.{◌≡◌, ◌≢◌, ℕ, ◌+◌, ◌-◌, ◌<◌, ◌≤◌, List, [], ◌∷◌, length, get_or, Bool, true, false, cond, arith, refl, ap, sym, ◌∙◌, subst, ⊎_elim}
use Rattle.std.proofs.lemmas.Bool.{cases_eq, eq-eqb, false≢true, cases_Bool}
use Rattle.std.proofs.lemmas.Bool.Decides.{Decides-eqb}
use Rattle.std.proofs.lemmas.List.{get_or-set_other, get_or-set_same, get_or_append_left, length-set}
use Rattle.iv_value.specs.declared.value.Value.{Value}
use Rattle.iv_value.specs.Values.{all_same}
use Rattle.iv_numbers.specs.Rows.{Rows, added, has_row, put, removed, roomy}
use Rattle.iv_store_groups.specs.Groups.{GroupOf, groups_of, held_at, rows_of, place_in, with_groups, with_held}
use Rattle.iv_store_groups.specs.Laws.{AddedAndRemoved, ConstraintsStay, GroupAtPlace, GroupsAfter, HeldAfter, IsFiniteMap, OtherPlacesStay, PlaceStays, PutIsAdded, RemovedAndPutBack, SameIsEqual, SizeGrows, SizeStays}
use Rattle.iv_store_groups.proofs.KeysLemmas.{all_same-Decides, all_same_sound, all_same_refl}
use Rattle.iv_store_groups.proofs.GroupsLemmas.{held_here, held_later, missing, placed, with_here, with_later}
use Rattle.iv_numbers.proofs.RowsUndone.{absent_without, with_without, without_with, length_with, length_without}
use Rattle.iv_numbers.proofs.RowsLemmas.{eq_false}

pub same_is_equal : SameIsEqual
same_is_equal = all_same-Decides

pub held_after : HeldAfter
held_after [] key other held = refl
held_after (g ∷ gs) key other held = ⊎_elim
    (λ (e : all_same g.key key ≡ true).
    let is : g.key ≡ key = all_same_sound g.key key e in
    ap (λ (xs : List GroupOf). held_at xs other) (with_here g gs key held e)
    ∙ ap (λ (x : List Value). cond (all_same x other) held (held_at gs other)) is
    ∙ by_other (all_same key other) refl (ap (λ (x : List Value). all_same x other) is))
    (λ (n : all_same g.key key ≡ false).
    ap (λ (xs : List GroupOf). held_at xs other) (with_later g gs key held n)
    ∙ ap (λ (h : Rows). cond (all_same g.key other) g.held h) (held_after gs key other held)
    ∙ apart (all_same g.key other) (all_same key other) refl refl n)
    (cases_Bool (all_same g.key key))
  where
    by_other : (b : Bool) → all_same key other ≡ b → all_same g.key other ≡ all_same key other
        → cond b held (held_at gs other) ≡ cond b held (cond (all_same g.key other) g.held (held_at gs other))
    by_other true e is = refl
    by_other false e is = sym (ap (λ t. cond t g.held (held_at gs other)) (is ∙ e))

    apart : (a b : Bool) → all_same g.key other ≡ a → all_same key other ≡ b → all_same g.key key ≡ false
        → cond a g.held (cond b held (held_at gs other)) ≡ cond b held (cond a g.held (held_at gs other))
    apart false b p q n = refl
    apart true false p q n = refl
    apart true true p q n = absurd (false≢true (sym n ∙ ap (λ (x : List Value). all_same x key) (all_same_sound g.key other p) ∙ ap (all_same other) (all_same_sound key other q) ∙ all_same_refl other))

pub place_stays : PlaceStays
place_stays [] key other held place e = cc
place_stays (g ∷ gs) key other held place e = ⊎_elim
    (λ (t : all_same g.key key ≡ true).
    ap (λ (xs : List GroupOf). place_in xs other) (with_here g gs key held t) ∙ e)
    (λ (n : all_same g.key key ≡ false).
    ap (λ (xs : List GroupOf). place_in xs other) (with_later g gs key held n)
    ∙ later (all_same g.key other) (place_in gs other) refl (λ p q. place_stays gs key other held p q) e)
    (cases_Bool (all_same g.key key))
  where
    later : (b : Bool) (o : Option ℕ) → place_in gs other ≡ o → ((p : ℕ) → place_in gs other ≡ Some p → place_in (with_held gs key held) other ≡ Some p)
        → cond b (Some 0) (option_map (λ p. p + 1) o) ≡ Some place
        → cond b (Some 0) (option_map (λ p. p + 1) (place_in (with_held gs key held) other)) ≡ Some place
    later true o is ih q = q
    later false None is ih q = cc
    later false (Some p) is ih q = ap (λ o. option_map (λ p. p + 1) o) (ih p is) ∙ q

pub group_at_place : GroupAtPlace
group_at_place groups key place d e = let at = placed groups key place e in (at.within, at.key_is d, sym (at.held_is d))

pub other_places_stay : OtherPlacesStay
other_places_stay groups key held place d l ne = by_place (place_in groups key) refl
  where
    by_place : (o : Option ℕ) → place_in groups key ≡ o → get_or (with_held groups key held) place d ≡ get_or groups place d
    by_place None e = ap (λ (gs : List GroupOf). get_or gs place d) ((missing groups key e).with_is held) ∙ get_or_append_left groups (record { key = key; held = held } ∷ []) d place l
    by_place (Some k) e =
        let at = placed groups key k e in
        let n : place ≢ k = λ (q : place ≡ k). ne (e ∙ ap (λ (x : ℕ). Some x) (sym q)) in
        ap (λ (gs : List GroupOf). get_or gs place d) (at.with_is d held) ∙ get_or-set_other groups k place (record { key = (get_or groups k d).key; held = held }) d n

-- ---- two changes of one key

-- a key has the rows that it was given
held_twice : (gs : List GroupOf) (key : List Value) (h : Rows) → held_at (with_held gs key h) key ≡ h
held_twice gs key h = held_after gs key key h ∙ ap (λ b. cond b h (held_at gs key)) (all_same_refl key)

-- of two changes the second stays
with_twice : (gs : List GroupOf) (key : List Value) (h h' : Rows) → with_held (with_held gs key h) key h' ≡ with_held gs key h'
with_twice [] key h h' = with_here (record { key = key; held = h }) [] key h' (all_same_refl key)
with_twice (g ∷ gs) key h h' = ⊎_elim
    (λ (e : all_same g.key key ≡ true).
    ap (λ (xs : List GroupOf). with_held xs key h') (with_here g gs key h e)
    ∙ with_here (record { key = g.key; held = h }) gs key h' e
    ∙ sym (with_here g gs key h' e))
    (λ (n : all_same g.key key ≡ false).
    ap (λ (xs : List GroupOf). with_held xs key h') (with_later g gs key h n)
    ∙ with_later g (with_held gs key h) key h' n
    ∙ ap (λ (rest : List GroupOf). g ∷ rest) (with_twice gs key h h')
    ∙ sym (with_later g gs key h' n))
    (cases_Bool (all_same g.key key))

-- a key that has rows has a group, and its own rows change nothing
with_own : (gs : List GroupOf) (key : List Value) (row : ℕ) → has_row row (rows_of gs key) ≡ true → with_held gs key (held_at gs key) ≡ gs
with_own [] key row h = absurd (false≢true h)
with_own (g ∷ gs) key row h = ⊎_elim
    (λ (e : all_same g.key key ≡ true).
    ap (with_held (g ∷ gs) key) (held_here g gs key e) ∙ with_here g gs key g.held e)
    (λ (n : all_same g.key key ≡ false).
    ap (with_held (g ∷ gs) key) (held_later g gs key n) ∙ with_later g gs key (held_at gs key) n
    ∙ ap (λ (rest : List GroupOf). g ∷ rest) (with_own gs key row (sym (ap (λ (x : Rows). has_row row x.rows) (held_later g gs key n)) ∙ h)))
    (cases_Bool (all_same g.key key))

pub put_is_added : PutIsAdded
put_is_added groups key row absent = ap (λ b. with_held groups key (cond b (held_at groups key) (added row (held_at groups key)))) absent

pub removed_and_put_back : RemovedAndPutBack
removed_and_put_back groups key row rising present =
    let h : Rows = held_at groups key in
    let less : Rows = removed row h in
    let is_put : put row less ≡ added row less = ap (λ b. cond b less (added row less)) (absent_without row h.rows rising) in
    let again : added row less ≡ h = ap (λ (rs : List ℕ). record { rows = rs; room = h.room + 1 - 1 }) (with_without row h.rows rising present)
    ∙ (let q : h.room + 1 - 1 ≡ h.room = omega arith in ap (λ (n : ℕ). record { rows = h.rows; room = n }) q) in
    ap (λ (x : Rows). with_held (with_held groups key less) key (put row x)) (held_twice groups key less)
    ∙ with_twice groups key less (put row less) ∙ ap (with_held groups key) (is_put ∙ again) ∙ with_own groups key row present

pub added_and_removed : AddedAndRemoved
added_and_removed groups key row other absent =
    let h : Rows = held_at groups key in
    let more : Rows = added row h in
    ap (λ (x : Rows). rows_of (with_held (with_held groups key more) key (removed row x)) other) (held_twice groups key more)
    ∙ ap (λ (gs : List GroupOf). rows_of gs other) (with_twice groups key more (removed row more))
    ∙ ap (λ (x : Rows). x.rows) (held_after groups key other (removed row more))
    ∙ same (all_same key other) refl
  where
    same : (b : Bool) → all_same key other ≡ b → (cond b (removed row (added row (held_at groups key))) (held_at groups other)).rows ≡ rows_of groups other
    same false e = refl
    same true e = without_with row (rows_of groups key) absent ∙ ap (rows_of groups) (all_same_sound key other e)

-- ---- sizes

abbrev size : Rows → ℕ
size held = length held.rows + held.room

grows : (groups : List GroupOf) (key other : List Value) (held : Rows) → size (held_at groups key) ≤ size held → size (held_at groups other) ≤ size (held_at (with_held groups key held) other)
grows groups key other held le = subst (λ (h : Rows). size (held_at groups other) ≤ size h) (sym (held_after groups key other held)) (by_test (all_same key other) refl)
  where
    by_test : (b : Bool) → all_same key other ≡ b → size (held_at groups other) ≤ size (cond b held (held_at groups other))
    by_test false e = omega arith
    by_test true e = subst (λ (x : List Value). size (held_at groups x) ≤ size held) (all_same_sound key other e) le

stays : (groups : List GroupOf) (key other : List Value) (held : Rows) → size held ≡ size (held_at groups key) → size (held_at (with_held groups key held) other) ≡ size (held_at groups other)
stays groups key other held is = ap size (held_after groups key other held) ∙ by_test (all_same key other) refl
  where
    by_test : (b : Bool) → all_same key other ≡ b → size (cond b held (held_at groups other)) ≡ size (held_at groups other)
    by_test false e = refl
    by_test true e = is ∙ ap (λ (x : List Value). size (held_at groups x)) (all_same_sound key other e)

size_added : (row : ℕ) (held : Rows) → size held ≤ size (added row held)
size_added row held = omega (arith, length_with row held.rows)

size_put : (row : ℕ) (held : Rows) → size held ≤ size (put row held)
size_put row held = by_test (has_row row held.rows)
  where
    by_test : (b : Bool) → size held ≤ size (cond b held (added row held))
    by_test true = omega arith
    by_test false = size_added row held

size_put_is : (row : ℕ) (held : Rows) → 0 < held.room → size (put row held) ≡ size held
size_put_is row held room = by_test (has_row row held.rows)
  where
    by_test : (b : Bool) → size (cond b held (added row held)) ≡ size held
    by_test true = refl
    by_test false = omega (arith, length_with row held.rows)

size_roomy : (held : Rows) → size held ≤ size (roomy held)
size_roomy held = by_test (held.room == 0) refl
  where
    by_test : (b : Bool) → (held.room == 0) ≡ b → size held ≤ size (cond b (record { rows = held.rows; room = 1 }) held)
    by_test true e = (let none : held.room ≡ 0 = (Decides-eqb held.room 0).0 e in omega arith)
    by_test false e = omega arith

pub size_grows : SizeGrows
size_grows = record {
  added = λ groups key other row. grows groups key other (added row (held_at groups key)) (size_added row (held_at groups key));
  put = λ groups key other row. grows groups key other (put row (held_at groups key)) (size_put row (held_at groups key));
  room = λ groups key other. grows groups key other (roomy (held_at groups key)) (size_roomy (held_at groups key));
}

pub size_stays : SizeStays
size_stays = record {
  removed = λ groups key other row present. stays groups key other (removed row (held_at groups key)) (omega (arith, length_without row (rows_of groups key) present));
  put = λ groups key other row room. stays groups key other (put row (held_at groups key)) (size_put_is row (held_at groups key) room);
}

-- ---- constraints

pub groups_after : GroupsAfter
groups_after groups constraint other new known = ⊎_elim
    (λ (e : other ≡ constraint). ap (λ (n : ℕ). groups_of (with_groups groups constraint new) n) e ∙ get_or-set_same groups constraint new [] known
    ∙ sym (ap (λ b. cond b new (groups_of groups other)) (eq-eqb other constraint e)))
    (λ (n : other ≢ constraint). get_or-set_other groups constraint other new [] n ∙ sym (ap (λ b. cond b new (groups_of groups other)) (eq_false other constraint n)))
    (cases_eq other constraint)

pub constraints_stay : ConstraintsStay
constraints_stay groups constraint new = length-set groups constraint new

pub is_finite_map : IsFiniteMap
is_finite_map groups constraint place key other held known =
    let new : List GroupOf = with_held (groups_of groups constraint) key held in
    ap (λ (gs : List GroupOf). held_at gs other) (groups_after groups constraint place new known)
    ∙ ⊎_elim
    (λ (e : place ≡ constraint).
    let is : (place == constraint) ≡ true = eq-eqb place constraint e in
    ap (λ b. held_at (cond b new (groups_of groups place)) other) is ∙ held_after (groups_of groups constraint) key other held
    ∙ ap (λ (n : ℕ). cond (all_same key other) held (held_at (groups_of groups n) other)) (sym e)
    ∙ sym (ap (λ b. cond (b && all_same key other) held (held_at (groups_of groups place) other)) is))
    (λ (n : place ≢ constraint).
    let is : (place == constraint) ≡ false = eq_false place constraint n in
    ap (λ b. held_at (cond b new (groups_of groups place)) other) is
    ∙ sym (ap (λ b. cond (b && all_same key other) held (held_at (groups_of groups place) other)) is))
    (cases_eq place constraint)
