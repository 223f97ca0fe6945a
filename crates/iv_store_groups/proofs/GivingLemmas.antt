-- A group less: it is taken away, and the last one comes to its place.
use Rattle.std.specs.Prelude.{Option, Some, None, ◌==◌, swap_remove, if◌then◌else◌}
use Rattle.std.proofs.Common.{◌≡◌, ◌≢◌, ℕ, zero, suc, ◌+◌, ◌-◌, ◌<◌, ◌≤◌, ◌⊎◌, inl, inr, List, [], ◌∷◌, length, take, get_or, set, Bool, true, false, cond, arith, refl, ap, sym, ◌∙◌, subst, ⊎_elim}
use Rattle.std.proofs.lemmas.Bool.{cases_lt, cases_eq, cases_Bool, eq-eqb, false≢true, false_from_ne_true}
use Rattle.std.proofs.lemmas.Bool.Decides.{Decides-eqb}
use Rattle.std.proofs.lemmas.List.{length-set, get_or-set_same, get_or-set_other, get_or-take, get_or_default, length-take-le, nil_from_length}
use Rattle.std.proofs.lemmas.Option.{slice_get-get_or}
use Rattle.iv_value.specs.declared.value.Value.{Value}
use Rattle.iv_value.specs.Values.{all_same}
use Rattle.iv_key.specs.Hashes.{hash_of}
use Rattle.iv_numbers.specs.Rows.{Rows, IsRising, no_rows}
use Rattle.iv_numbers.proofs.RowsLemmas.{eq_false}
use Rattle.iv_store_groups.specs.Groups.{EachIsApart, GroupOf, IsIndexed, changed, given_back, held_at, is_dead, no_group, place_after, place_in, rows_at, rows_of, tight, with_tight, without_group}
use Rattle.iv_store_groups.specs.Laws.{GivenBackIsNothing, GroupLeaves, GroupsLeave}
use Rattle.iv_store_groups.proofs.KeysLemmas.{all_same_sound, all_same_refl}
use Rattle.iv_store_groups.proofs.GroupsLemmas.{Missing, NoneOf, Placed, indexed_set, missing, place_found, place_missing, placed}

-- ---- lists

pub swap_length : {X : Type 0} (xs : List X) (place : ℕ) (e : X) → place < length xs → length (swap_remove xs place e) ≡ length xs - 1
swap_length xs place e l = length-take-le (length xs - 1) (set xs place (get_or xs (length xs - 1) e)) (omega (arith, length-set xs place (get_or xs (length xs - 1) e)))

pub swap_here : {X : Type 0} (xs : List X) (place : ℕ) (e d : X) → place < length xs - 1 → get_or (swap_remove xs place e) place d ≡ get_or xs (length xs - 1) d
swap_here xs place e d l =
    get_or-take (length xs - 1) (set xs place (get_or xs (length xs - 1) e)) place d l
    ∙ get_or-set_same xs place (get_or xs (length xs - 1) e) d (omega arith)
    ∙ get_or_default xs (length xs - 1) e d (omega arith)

pub swap_else : {X : Type 0} (xs : List X) (place i : ℕ) (e d : X) → i ≢ place → i < length xs - 1 → get_or (swap_remove xs place e) i d ≡ get_or xs i d
swap_else xs place i e d ne l =
    get_or-take (length xs - 1) (set xs place (get_or xs (length xs - 1) e)) i d l
    ∙ get_or-set_other xs place i (get_or xs (length xs - 1) e) d ne

-- ---- where the group at a place comes from

-- the place that it had
abbrev pub source : ℕ → ℕ → ℕ → ℕ
source last place i = if i == place then last else i

pub source_here : (last place i : ℕ) → i ≡ place → source last place i ≡ last
source_here last place i e = ap (λ b. cond b last i) (eq-eqb i place e)

pub source_else : (last place i : ℕ) → i ≢ place → source last place i ≡ i
source_else last place i n = ap (λ b. cond b last i) (eq_false i place n)

pub swap_at : {X : Type 0} (xs : List X) (place i : ℕ) (e d : X) → i < length xs - 1 → get_or (swap_remove xs place e) i d ≡ get_or xs (source (length xs - 1) place i) d
swap_at xs place i e d l = ⊎_elim
    (λ (q : i ≡ place). (let lp : place < length xs - 1 = omega arith in
    ap (λ (n : ℕ). get_or (swap_remove xs place e) n d) q ∙ swap_here xs place e d lp ∙ ap (λ (n : ℕ). get_or xs n d) (sym (source_here (length xs - 1) place i q))))
    (λ (q : i ≢ place). swap_else xs place i e d q l ∙ ap (λ (n : ℕ). get_or xs n d) (sym (source_else (length xs - 1) place i q)))
    (cases_eq i place)

-- it is a place, and not that of the group that went
pub source_in : (last place i : ℕ) → i < last → source last place i ≤ last
source_in last place i l = ⊎_elim
    (λ (q : i ≡ place). omega (arith, source_here last place i q))
    (λ (q : i ≢ place). omega (arith, source_else last place i q))
    (cases_eq i place)

pub source_not : (last place i : ℕ) → i < last → source last place i ≢ place
source_not last place i l e = ⊎_elim
    (λ (q : i ≡ place). absurd (omega (arith, source_here last place i q)))
    (λ (q : i ≢ place). q (sym (source_else last place i q) ∙ e))
    (cases_eq i place)

-- two places come from two
pub source_apart : (last place i k : ℕ) → i < k → k < last → (source last place i < source last place k) ⊎ (source last place k < source last place i)
source_apart last place i k lt l = ⊎_elim
    (λ (q : i ≡ place). inr (let ne : k ≢ place = λ (x : k ≡ place). omega arith in omega (arith, source_here last place i q, source_else last place k ne)))
    (λ (q : i ≢ place). ⊎_elim
    (λ (r : k ≡ place). inl (omega (arith, source_here last place k r, source_else last place i q)))
    (λ (r : k ≢ place). inl (omega (arith, source_else last place k r, source_else last place i q)))
    (cases_eq k place))
    (cases_eq i place)

-- where a group goes that stays
pub source_after : (groups : List GroupOf) (place old : ℕ) → place < length groups → old < length groups → old ≢ place
    → (place_after groups place old < length groups - 1) × (source (length groups - 1) place (place_after groups place old) ≡ old)
source_after groups place old lp lo ne = ⊎_elim
    (λ (q : old ≡ length groups - 1). (let s : place_after groups place old ≡ place = ap (λ b. cond b place old) (eq-eqb old (length groups - 1) q) in
    (omega arith, source_here (length groups - 1) place (place_after groups place old) s ∙ sym q)))
    (λ (q : old ≢ length groups - 1). (let s : place_after groups place old ≡ old = ap (λ b. cond b place old) (eq_false old (length groups - 1) q) in
    (omega arith, source_else (length groups - 1) place (place_after groups place old) (λ (x : place_after groups place old ≡ place). ne (sym s ∙ x)) ∙ s)))
    (cases_eq old (length groups - 1))

-- ---- groups

not_same : (a b : List Value) → all_same a b ≡ false → all_same b a ≡ false
not_same a b n = false_from_ne_true (all_same b a) (λ (t : all_same b a ≡ true). false≢true (sym n ∙ ap (λ (x : List Value). all_same a x) (all_same_sound b a t) ∙ all_same_refl a))

pub key_at : (groups : List GroupOf) (place i : ℕ) (d : GroupOf) → i < length groups - 1 → get_or (without_group groups place) i d ≡ get_or groups (source (length groups - 1) place i) d
key_at groups place i d l = swap_at groups place i no_group d l

-- no two have one key
pub apart_less : (groups : List GroupOf) (place : ℕ) → EachIsApart groups → place < length groups → EachIsApart (without_group groups place)
apart_less groups place apart lp i k d lt l =
    let last : ℕ = length groups - 1 in
    let len : length (without_group groups place) ≡ last = swap_length groups place no_group lp in
    let a : ℕ = source last place i in
    let b : ℕ = source last place k in
    let in_a : a ≤ last = source_in last place i (omega arith) in
    let in_b : b ≤ last = source_in last place k (omega arith) in
    ap (λ (x : GroupOf). all_same x.key (get_or (without_group groups place) k d).key) (key_at groups place i d (omega arith))
    ∙ ap (λ (x : GroupOf). all_same (get_or groups a d).key x.key) (key_at groups place k d (omega arith))
    ∙ ⊎_elim
    (λ (o : a < b). apart a b d o (omega arith))
    (λ (o : b < a). not_same (get_or groups b d).key (get_or groups a d).key (apart b a d o (omega arith)))
    (source_apart last place i k lt (omega arith))

-- the hashes stand beside them
pub indexed_less : (hashes : List ℕ) (groups : List GroupOf) (place : ℕ) → IsIndexed hashes groups → place < length groups → IsIndexed (swap_remove hashes place 0) (without_group groups place)
indexed_less hashes groups place ix lp =
    let last : ℕ = length groups - 1 in
    let len : length (without_group groups place) ≡ last = swap_length groups place no_group lp in
    record {
      count = swap_length hashes place 0 (omega (arith, ix.count)) ∙ ap (λ (n : ℕ). n - 1) ix.count ∙ sym len;
      hash_is = λ k d l. (let q : length hashes - 1 ≡ last = ap (λ (n : ℕ). n - 1) ix.count in
          let in_k : source last place k ≤ last = source_in last place k (omega arith) in
          swap_at hashes place k 0 0 (omega arith) ∙ ap (λ (n : ℕ). get_or hashes (source n place k) 0) q
          ∙ ix.hash_is (source last place k) d (omega arith) ∙ ap (λ (x : GroupOf). hash_of x.key) (sym (key_at groups place k d (omega arith))));
      distinct = apart_less groups place ix.distinct lp;
      rising = λ k d l. (let in_k : source last place k ≤ last = source_in last place k (omega arith) in
          subst (λ (x : GroupOf). IsRising x.held.rows) (sym (key_at groups place k d (omega arith))) (ix.rising (source last place k) d (omega arith)));
    }

module _ (groups : List GroupOf) (place : ℕ) (apart : EachIsApart groups) (lp : place < length groups) where
  abbrev last : ℕ
  last = length groups - 1

  abbrev new : List GroupOf
  new = without_group groups place

  pub len_new : length new ≡ last
  len_new = swap_length groups place no_group lp

  -- the group of a key that isn't the one that went is found where it goes
  found_after : (key : List Value) (old : ℕ) → place_in groups key ≡ Some old → old ≢ place → place_in new key ≡ Some (place_after groups place old)
  found_after key old e ne =
      let at : Placed groups key old = placed groups key old e in
      let goes = source_after groups place old lp at.within ne in
      let same : (get_or new (place_after groups place old) no_group).key ≡ key =
      ap (λ (x : GroupOf). x.key) (key_at groups place (place_after groups place old) no_group goes.0) ∙ ap (λ (n : ℕ). (get_or groups n no_group).key) goes.1 ∙ at.key_is no_group in
      place_found new key (place_after groups place old) no_group (apart_less groups place apart lp) (omega (arith, goes.0, len_new))
      (ap (λ (x : List Value). all_same x key) same ∙ all_same_refl key)

  held_found : (key : List Value) (old : ℕ) → place_in groups key ≡ Some old → old ≢ place → held_at new key ≡ held_at groups key
  held_found key old e ne =
      let at : Placed groups key old = placed groups key old e in
      let goes = source_after groups place old lp at.within ne in
      let after : Placed new key (place_after groups place old) = placed new key (place_after groups place old) (found_after key old e ne) in
      after.held_is no_group ∙ ap (λ (x : GroupOf). x.held) (key_at groups place (place_after groups place old) no_group goes.0)
      ∙ ap (λ (n : ℕ). (get_or groups n no_group).held) goes.1 ∙ sym (at.held_is no_group)

  -- a key whose group went, or that had none, has none
  none_after : (key : List Value) → ((k : ℕ) (d : GroupOf) → k < length groups → k ≢ place → all_same (get_or groups k d).key key ≡ false) → place_in new key ≡ None
  none_after key none = place_missing new key (λ i d l.
      (let li : i < last = omega (arith, len_new) in
      let in_i : source last place i ≤ last = source_in last place i li in
      ap (λ (x : GroupOf). all_same x.key key) (key_at groups place i d li)
      ∙ none (source last place i) d (omega arith) (source_not last place i li)))

  none_of_missing : (key : List Value) → place_in groups key ≡ None → place_in new key ≡ None
  none_of_missing key e = none_after key (λ k d l ne. (missing groups key e).none k d l)

  none_of_gone : (key : List Value) → place_in groups key ≡ Some place → place_in new key ≡ None
  none_of_gone key e = none_after key (λ k d l ne. false_from_ne_true (all_same (get_or groups k d).key key)
      (λ (t : all_same (get_or groups k d).key key ≡ true). ne (let z : Some k ≡ Some place = sym (place_found groups key k d apart l t) ∙ e in cc)))

  own_place : place_in groups (get_or groups place no_group).key ≡ Some place
  own_place = place_found groups (get_or groups place no_group).key place no_group apart lp (all_same_refl (get_or groups place no_group).key)

  held_stays : (key : List Value) → all_same (get_or groups place no_group).key key ≡ false → held_at new key ≡ held_at groups key
  held_stays key n = by_place (place_in groups key) refl
    where
      by_place : (o : Option ℕ) → place_in groups key ≡ o → held_at new key ≡ held_at groups key
      by_place None e = (missing new key (none_of_missing key e)).held_is ∙ sym (missing groups key e).held_is
      by_place (Some old) e = held_found key old e (λ (q : old ≡ place).
          (let at : Placed groups key old = placed groups key old e in
          false≢true (sym n ∙ ap (λ (x : List Value). all_same x key) (ap (λ (k : ℕ). (get_or groups k no_group).key) (sym q) ∙ at.key_is no_group) ∙ all_same_refl key)))

  pub group_leaves : GroupLeaves groups place
  group_leaves = record {
    apart = apart_less groups place apart lp;
    count = len_new;
    gone = none_of_gone (get_or groups place no_group).key own_place;
    none = none_of_missing;
    held = held_stays;
    places = found_after;
  }

  -- if no row is in the group, every key has the rows that it had
  rows_stay : is_dead groups place ≡ true → (key : List Value) → rows_of new key ≡ rows_of groups key
  rows_stay dead key = by_place (place_in groups key) refl
    where
      no_row : (get_or groups place no_group).held.rows ≡ []
      no_row =
          let at : rows_at groups place ≡ (get_or groups place no_group).held.rows =
          ap (λ (o : Option GroupOf). elim o [ Some g ↦ g.held.rows | None ↦ [] ]) (slice_get-get_or groups place no_group lp) in
          nil_from_length (get_or groups place no_group).held.rows (sym (ap length at) ∙ (Decides-eqb (length (rows_at groups place)) 0).0 dead)

      by_place : (o : Option ℕ) → place_in groups key ≡ o → rows_of new key ≡ rows_of groups key
      by_place None e = ap (λ (h : Rows). h.rows) ((missing new key (none_of_missing key e)).held_is ∙ sym (missing groups key e).held_is)
      by_place (Some old) e = ⊎_elim
          (λ (q : old ≡ place).
          (let own : place_in groups key ≡ Some place = e ∙ ap (λ (n : ℕ). Some n) q in
          let at : Placed groups key place = placed groups key place own in
          ap (λ (h : Rows). h.rows) (missing new key (none_of_gone key own)).held_is ∙ sym (ap (λ (h : Rows). h.rows) (at.held_is no_group) ∙ no_row)))
          (λ (ne : old ≢ place). ap (λ (h : Rows). h.rows) (held_found key old e ne))
          (cases_eq old place)

pub groups_leave : GroupsLeave
groups_leave groups place apart lp = group_leaves groups place apart lp

-- a group that gives its room up leaves the rows of every key
rows_tight : (groups : List GroupOf) (place : ℕ) (key : List Value) → rows_of (with_tight groups place) key ≡ rows_of groups key
rows_tight [] place key = refl
rows_tight (g ∷ groups) zero key = elim (all_same g.key key) as (λ b. (cond b (tight g.held) (held_at groups key)).rows ≡ (cond b g.held (held_at groups key)).rows) [ true ↦ refl | false ↦ refl ]
rows_tight (g ∷ groups) (suc place) key =
    elim (all_same g.key key) as (λ b. (cond b g.held (held_at (with_tight groups place) key)).rows ≡ (cond b g.held (held_at groups key)).rows) [ true ↦ refl | false ↦ rows_tight groups place key ]

pub given_back_is_nothing : GivenBackIsNothing
given_back_is_nothing groups place apart lp key = ⊎_elim
    (λ (t : is_dead groups place ≡ true). ap (λ b. rows_of (cond b (without_group groups place) (with_tight groups place)) key) t ∙ rows_stay groups place apart lp t key)
    (λ (f : is_dead groups place ≡ false). ap (λ b. rows_of (cond b (without_group groups place) (with_tight groups place)) key) f ∙ rows_tight groups place key)
    (cases_Bool (is_dead groups place))

pub indexed_tight : (hashes : List ℕ) (groups : List GroupOf) (place : ℕ) → IsIndexed hashes groups → place < length groups → IsIndexed hashes (with_tight groups place)
indexed_tight hashes groups place ix lp =
    indexed_set hashes groups place (changed tight (get_or groups place no_group)) ix
    (λ d. ap (λ (g : GroupOf). g.key) (get_or_default groups place no_group d lp))
    (ix.rising place no_group lp)

-- a group that isn't dead has a row
pub row_in : (groups : List GroupOf) (place : ℕ) (d : GroupOf) → place < length groups → is_dead groups place ≡ false → 0 < length (get_or groups place d).held.rows
row_in groups place d lp live =
    let at : rows_at groups place ≡ (get_or groups place d).held.rows =
    ap (λ (o : Option GroupOf). elim o [ Some g ↦ g.held.rows | None ↦ [] ]) (slice_get-get_or groups place d lp) in
    let some : length (get_or groups place d).held.rows ≢ 0 =
    λ (z : length (get_or groups place d).held.rows ≡ 0). false≢true (sym live ∙ (Decides-eqb (length (rows_at groups place)) 0).1 (ap length at ∙ z)) in
    ⊎_elim
    (λ (l : 0 < length (get_or groups place d).held.rows). l)
    (λ (le : length (get_or groups place d).held.rows ≤ 0). absurd (some (omega arith)))
    (cases_lt 0 (length (get_or groups place d).held.rows))

pub indexed_given_back : (hashes new_hashes : List ℕ) (groups : List GroupOf) (place : ℕ) → IsIndexed hashes groups → place < length groups
    → new_hashes ≡ swap_remove hashes place 0 → IsIndexed new_hashes (without_group groups place)
indexed_given_back hashes new_hashes groups place ix lp e = subst (λ (hs : List ℕ). IsIndexed hs (without_group groups place)) (sym e) (indexed_less hashes groups place ix lp)
