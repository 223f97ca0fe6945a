-- Groups beside the hashes of their keys: where a key has its group, and what a change at its place leaves.
use Rattle.std.specs.Prelude.{Option, Some, None, option_map}
use Rattle.std.proofs.Common.{◌≡◌, ◌≢◌, ℕ, zero, suc, ◌+◌, ◌<◌, ◌≤◌, List, [], ◌∷◌, ◌++◌, length, get_or, set, Bool, true, false, cond, arith, refl, ap, sym, ◌∙◌, subst, ⊎_elim, length-append}
use Rattle.std.proofs.lemmas.Bool.{cases_lt, cases_eq, false_from_ne_true}
use Rattle.std.proofs.lemmas.List.{length-set, get_or-set_same, get_or-set_other, get_or_push, get_or_append_left}
use Rattle.iv_value.specs.declared.value.Value.{Value}
use Rattle.iv_value.specs.Values.{all_same}
use Rattle.iv_key.specs.Hashes.{hash_of}
use Rattle.iv_numbers.specs.Rows.{Rows, IsRising, no_rows}
use Rattle.iv_store_groups.specs.Groups.{EachIsApart, EachIsFound, EachRises, GroupOf, IsIndexed, IsSound, changed, held_at, place_in, with_held}
use Rattle.iv_numbers.proofs.RowsKept.{rising_none}
use Rattle.iv_store_groups.proofs.KeysLemmas.{all_same_sound, all_same_refl}

-- ---- one step of a look: the key is that of the first group, or it isn't

pub held_here : (g : GroupOf) (gs : List GroupOf) (key : List Value) → all_same g.key key ≡ true → held_at (g ∷ gs) key ≡ g.held
held_here g gs key e = ap (λ b. cond b g.held (held_at gs key)) e

pub held_later : (g : GroupOf) (gs : List GroupOf) (key : List Value) → all_same g.key key ≡ false → held_at (g ∷ gs) key ≡ held_at gs key
held_later g gs key e = ap (λ b. cond b g.held (held_at gs key)) e

pub with_here : (g : GroupOf) (gs : List GroupOf) (key : List Value) (held : Rows) → all_same g.key key ≡ true → with_held (g ∷ gs) key held ≡ record { key = g.key; held = held } ∷ gs
with_here g gs key held e = ap (λ b. cond b (record { key = g.key; held = held } ∷ gs) (g ∷ with_held gs key held)) e

pub with_later : (g : GroupOf) (gs : List GroupOf) (key : List Value) (held : Rows) → all_same g.key key ≡ false → with_held (g ∷ gs) key held ≡ g ∷ with_held gs key held
with_later g gs key held e = ap (λ b. cond b (record { key = g.key; held = held } ∷ gs) (g ∷ with_held gs key held)) e

place_here : (g : GroupOf) (gs : List GroupOf) (key : List Value) → all_same g.key key ≡ true → place_in (g ∷ gs) key ≡ Some 0
place_here g gs key e = ap (λ b. cond b (Some 0) (option_map (λ place. place + 1) (place_in gs key))) e

place_later : (g : GroupOf) (gs : List GroupOf) (key : List Value) → all_same g.key key ≡ false → place_in (g ∷ gs) key ≡ option_map (λ place. place + 1) (place_in gs key)
place_later g gs key e = ap (λ b. cond b (Some 0) (option_map (λ place. place + 1) (place_in gs key))) e

-- ---- the place of a key

-- no group is of the key
abbrev pub NoneOf : List GroupOf → List Value → Type 0
NoneOf gs key = (k : ℕ) (d : GroupOf) → k < length gs → all_same (get_or gs k d).key key ≡ false

pub place_missing : (gs : List GroupOf) (key : List Value) → NoneOf gs key → place_in gs key ≡ None
place_missing [] key none = refl
place_missing (g ∷ gs) key none =
    place_later g gs key (none zero g (omega arith))
    ∙ ap (λ o. option_map (λ place. place + 1) o) (place_missing gs key (λ k d l. none (suc k) d (omega arith)))

pub place_found : (gs : List GroupOf) (key : List Value) (k : ℕ) (d : GroupOf) → EachIsApart gs → k < length gs → all_same (get_or gs k d).key key ≡ true → place_in gs key ≡ Some k
place_found [] key k d apart l e = absurd (omega arith)
place_found (g ∷ gs) key zero d apart l e = place_here g gs key e
place_found (g ∷ gs) key (suc k) d apart l e =
    let key_is : (get_or gs k d).key ≡ key = all_same_sound (get_or gs k d).key key e in
    let other : all_same g.key key ≡ false = subst (λ (x : List Value). all_same g.key x ≡ false) key_is (apart zero (suc k) d (omega arith) l) in
    place_later g gs key other
    ∙ ap (λ o. option_map (λ place. place + 1) o) (place_found gs key k d (λ i j x m n. apart (suc i) (suc j) x (omega arith) (omega arith)) (omega arith) e)
    ∙ (let q : k + 1 ≡ suc k = omega arith in ap (λ (n : ℕ). Some n) q)

-- the group of a key stands at k
pub record Placed (gs : List GroupOf) (key : List Value) (k : ℕ) : Type 0 where
  pub within : k < length gs
  pub key_is : (d : GroupOf) → (get_or gs k d).key ≡ key
  pub held_is : (d : GroupOf) → held_at gs key ≡ (get_or gs k d).held
  pub with_is : (d : GroupOf) (held : Rows) → with_held gs key held ≡ set gs k (record { key = (get_or gs k d).key; held = held })

placed_first : (g : GroupOf) (gs : List GroupOf) (key : List Value) → all_same g.key key ≡ true → Placed (g ∷ gs) key 0
placed_first g gs key e = record {
  within = omega arith;
  key_is = λ d. all_same_sound g.key key e;
  held_is = λ d. held_here g gs key e;
  with_is = λ d held. with_here g gs key held e;
}

placed_later : (g : GroupOf) (gs : List GroupOf) (key : List Value) (k : ℕ) → all_same g.key key ≡ false → Placed gs key k → Placed (g ∷ gs) key (suc k)
placed_later g gs key k e p = record {
  within = omega (arith, p.within);
  key_is = λ d. p.key_is d;
  held_is = λ d. held_later g gs key e ∙ p.held_is d;
  with_is = λ d held. with_later g gs key held e ∙ ap (λ rest. g ∷ rest) (p.with_is d held);
}

pub placed : (gs : List GroupOf) (key : List Value) (k : ℕ) → place_in gs key ≡ Some k → Placed gs key k
placed [] key k e = cc
placed (g ∷ gs) key k e = by_test (all_same g.key key) (place_in gs key) refl refl (placed gs key) e
  where
    by_test : (b : Bool) (rest : Option ℕ) → all_same g.key key ≡ b → place_in gs key ≡ rest → ((j : ℕ) → place_in gs key ≡ Some j → Placed gs key j)
        → cond b (Some 0) (option_map (λ place. place + 1) rest) ≡ Some k → Placed (g ∷ gs) key k
    by_test true rest b r ih q = let z : 0 ≡ k = cc in subst (Placed (g ∷ gs) key) z (placed_first g gs key b)
    by_test false None b r ih q = cc
    by_test false (Some j) b r ih q = let z : j + 1 ≡ k = cc in let y : suc j ≡ k = omega arith in subst (Placed (g ∷ gs) key) y (placed_later g gs key j b (ih j r))

-- the key has no group
pub record Missing (gs : List GroupOf) (key : List Value) : Type 0 where
  pub none : NoneOf gs key
  pub held_is : held_at gs key ≡ no_rows
  pub with_is : (held : Rows) → with_held gs key held ≡ gs ++ record { key = key; held = held } ∷ []

missing_later : (g : GroupOf) (gs : List GroupOf) (key : List Value) → all_same g.key key ≡ false → Missing gs key → Missing (g ∷ gs) key
missing_later g gs key e m = record {
  none = none_of;
  held_is = held_later g gs key e ∙ m.held_is;
  with_is = λ held. with_later g gs key held e ∙ ap (λ rest. g ∷ rest) (m.with_is held);
}
  where
    none_of : NoneOf (g ∷ gs) key
    none_of zero d l = e
    none_of (suc k) d l = m.none k d (omega arith)

pub missing : (gs : List GroupOf) (key : List Value) → place_in gs key ≡ None → Missing gs key
missing [] key e = record {
  none = λ k d l. absurd (omega arith);
  held_is = refl;
  with_is = λ held. refl;
}
missing (g ∷ gs) key e = by_test (all_same g.key key) (place_in gs key) refl refl (missing gs key) e
  where
    by_test : (b : Bool) (rest : Option ℕ) → all_same g.key key ≡ b → place_in gs key ≡ rest → (place_in gs key ≡ None → Missing gs key)
        → cond b (Some 0) (option_map (λ place. place + 1) rest) ≡ None → Missing (g ∷ gs) key
    by_test true rest b r ih q = cc
    by_test false None b r ih q = missing_later g gs key b (ih r)
    by_test false (Some j) b r ih q = cc

-- ---- the index

pub not_here : (hashes : List ℕ) (gs : List GroupOf) (key : List Value) (k : ℕ) (d : GroupOf) → IsIndexed hashes gs → k < length gs → get_or hashes k 0 ≢ hash_of key
    → all_same (get_or gs k d).key key ≡ false
not_here hashes gs key k d ix lt ne = false_from_ne_true (all_same (get_or gs k d).key key) (λ h. ne (ix.hash_is k d lt ∙ ap hash_of (all_same_sound (get_or gs k d).key key h)))

-- another group of the same key at a place
pub indexed_set : (hashes : List ℕ) (gs : List GroupOf) (k : ℕ) (g : GroupOf) → IsIndexed hashes gs → ((d : GroupOf) → g.key ≡ (get_or gs k d).key) → IsRising g.held.rows → IsIndexed hashes (set gs k g)
indexed_set hashes gs k g ix key_is rises = record {
  rising = λ i d lt. (let l : i < length gs = subst (λ (n : ℕ). i < n) (length-set gs k g) lt in ⊎_elim
      (λ (e : i ≡ k). (let q : k < length gs = omega arith in subst (λ (x : GroupOf). IsRising x.held.rows) (sym (ap (λ (n : ℕ). get_or (set gs k g) n d) e ∙ get_or-set_same gs k g d q)) rises))
      (λ (n : i ≢ k). subst (λ (x : GroupOf). IsRising x.held.rows) (sym (get_or-set_other gs k i g d n)) (ix.rising i d l))
      (cases_eq i k));
  count = ix.count ∙ sym (length-set gs k g);
  hash_is = λ i d lt. (let l : i < length gs = subst (λ (n : ℕ). i < n) (length-set gs k g) lt in ix.hash_is i d l ∙ ap hash_of (sym (same i d l)));
  distinct = λ i j d lt l. (let m : j < length gs = subst (λ (n : ℕ). j < n) (length-set gs k g) l in
      ap (λ (x : List Value). all_same x (get_or (set gs k g) j d).key) (same i d (omega arith)) ∙ ap (λ (x : List Value). all_same (get_or gs i d).key x) (same j d m) ∙ ix.distinct i j d lt m);
}
  where
    same : (i : ℕ) (d : GroupOf) → i < length gs → (get_or (set gs k g) i d).key ≡ (get_or gs i d).key
    same i d l = ⊎_elim
        (λ (e : i ≡ k). (let q : k < length gs = omega arith in
        ap (λ (n : ℕ). (get_or (set gs k g) n d).key) e ∙ ap (λ (x : GroupOf). x.key) (get_or-set_same gs k g d q) ∙ key_is d ∙ ap (λ (n : ℕ). (get_or gs n d).key) (sym e)))
        (λ (n : i ≢ k). ap (λ (x : GroupOf). x.key) (get_or-set_other gs k i g d n))
        (cases_eq i k)

-- a group of a new key behind the others
pub indexed_push : (hashes : List ℕ) (gs : List GroupOf) (key : List Value) (held : Rows) → IsIndexed hashes gs → NoneOf gs key → IsRising held.rows
    → IsIndexed (hashes ++ hash_of key ∷ []) (gs ++ record { key = key; held = held } ∷ [])
indexed_push hashes gs key held ix none rises =
    let g : GroupOf = record { key = key; held = held } in
    let m : length (gs ++ g ∷ []) ≡ length gs + 1 = length-append gs (g ∷ []) in
    record {
      count = length-append hashes (hash_of key ∷ []) ∙ ap (λ n. n + 1) ix.count ∙ sym m;
      rising = λ i d lt. ⊎_elim
          (λ (l : i < length gs). subst (λ (x : GroupOf). IsRising x.held.rows) (sym (get_or_append_left gs (g ∷ []) d i l)) (ix.rising i d l))
          (λ (le : length gs ≤ i). let e : i ≡ length gs = omega arith in subst (λ (x : GroupOf). IsRising x.held.rows) (sym (get_or_push gs g d i (sym e))) rises)
          (cases_lt i (length gs));
      hash_is = λ i d lt. ⊎_elim
          (λ (l : i < length gs). get_or_append_left hashes (hash_of key ∷ []) 0 i (omega (arith, ix.count)) ∙ ix.hash_is i d l ∙ ap (λ (x : GroupOf). hash_of x.key) (sym (get_or_append_left gs (g ∷ []) d i l)))
          (λ (le : length gs ≤ i). let e : i ≡ length gs = omega arith in
          get_or_push hashes (hash_of key) 0 i (sym (e ∙ sym ix.count)) ∙ ap (λ (x : GroupOf). hash_of x.key) (sym (get_or_push gs g d i (sym e))))
          (cases_lt i (length gs));
      distinct = λ i j d lt l. ⊎_elim
          (λ (n : j < length gs). ap (λ (x : GroupOf). all_same x.key (get_or (gs ++ g ∷ []) j d).key) (get_or_append_left gs (g ∷ []) d i (omega arith))
          ∙ ap (λ (x : GroupOf). all_same (get_or gs i d).key x.key) (get_or_append_left gs (g ∷ []) d j n) ∙ ix.distinct i j d lt n)
          (λ (le : length gs ≤ j). let e : j ≡ length gs = omega arith in
          let li : i < length gs = omega arith in
          ap (λ (x : GroupOf). all_same x.key (get_or (gs ++ g ∷ []) j d).key) (get_or_append_left gs (g ∷ []) d i li)
          ∙ ap (λ (x : GroupOf). all_same (get_or gs i d).key x.key) (get_or_push gs g d j (sym e)) ∙ none i d li)
          (cases_lt j (length gs));
    }

-- ---- a change of the group at a place

-- what holds of the rows of a key holds of its group's
pub of_group : {gs : List GroupOf} {key : List Value} {k : ℕ} (P : Rows → Type 0) → Placed gs key k → P (held_at gs key) → (d : GroupOf) → P (get_or gs k d).held
of_group P at p d = subst P (at.held_is d) p

-- the groups after a change of the rows of a key
pub record Edited (hashes : List ℕ) (gs new : List GroupOf) (key : List Value) (f : Rows → Rows) : Type 0 where
  pub groups : new ≡ with_held gs key (f (held_at gs key))
  pub indexed : IsIndexed hashes new

-- a change of the rows of the group that stands at a key's place
pub edited : {hashes : List ℕ} {gs new : List GroupOf} {key : List Value} {k : ℕ} (f : Rows → Rows) → IsIndexed hashes gs → Placed gs key k
    → (IsRising (held_at gs key).rows → IsRising (f (held_at gs key)).rows) → ((d : GroupOf) → new ≡ set gs k (changed f (get_or gs k d))) → Edited hashes gs new key f
edited {hashes} {gs} {new} {key} {k} f ix at keeps set_is =
    let d : GroupOf = record { key = key; held = no_rows } in
    let g : GroupOf = changed f (get_or gs k d) in
    let rises : IsRising g.held.rows =
    subst (λ (h : Rows). IsRising (f h).rows) (at.held_is d) (keeps (subst (λ (h : Rows). IsRising h.rows) (sym (at.held_is d)) (ix.rising k d at.within))) in
    record {
      groups = set_is d ∙ sym (at.with_is d (f (get_or gs k d).held)) ∙ ap (λ (h : Rows). with_held gs key (f h)) (sym (at.held_is d));
      indexed = subst (IsIndexed hashes) (sym (set_is d)) (indexed_set hashes gs k g ix (λ e. at.key_is d ∙ sym (at.key_is e)) rises);
    }

-- a group of a key that had none, behind the others
pub grown : {hashes new_hashes : List ℕ} {hash : ℕ} {gs new : List GroupOf} {g : GroupOf} {key : List Value} (f : Rows → Rows) → IsIndexed hashes gs → Missing gs key → IsRising (f no_rows).rows
    → hash ≡ hash_of key → new_hashes ≡ hashes ++ hash ∷ [] → g ≡ record { key = key; held = f no_rows } → new ≡ gs ++ g ∷ [] → Edited new_hashes gs new key f
grown {hashes} {new_hashes} {hash} {gs} {new} {g} {key} f ix none rises hash_is hashes_are g_is new_are =
    let grown_hashes : new_hashes ≡ hashes ++ hash_of key ∷ [] = hashes_are ∙ ap (λ (n : ℕ). hashes ++ n ∷ []) hash_is in
    let grown_groups : new ≡ gs ++ record { key = key; held = f no_rows } ∷ [] = new_are ∙ ap (λ (x : GroupOf). gs ++ x ∷ []) g_is in
    record {
      groups = grown_groups ∙ sym (none.with_is (f no_rows)) ∙ ap (λ (h : Rows). with_held gs key (f h)) (sym none.held_is);
      indexed = subst (λ (hs : List ℕ). IsIndexed hs new) (sym grown_hashes)
          (subst (IsIndexed (hashes ++ hash_of key ∷ [])) (sym grown_groups) (indexed_push hashes gs key (f no_rows) ix none.none rises));
    }

-- what `find` tells of the groups that it was lent
pub found_in : {lent gs : List GroupOf} (key : List Value) (k : ℕ) → lent ≡ gs → Some k ≡ place_in lent key → place_in gs key ≡ Some k
found_in key k e p = sym (subst (λ (xs : List GroupOf). Some k ≡ place_in xs key) e p)

pub placed_in : {lent gs : List GroupOf} (key : List Value) (k : ℕ) → lent ≡ gs → Some k ≡ place_in lent key → Placed gs key k
placed_in {lent} {gs} key k e p = placed gs key k (found_in key k e p)

pub missing_in : {lent gs : List GroupOf} (key : List Value) → lent ≡ gs → None ≡ place_in lent key → Missing gs key
missing_in {lent} {gs} key e p = missing gs key (sym (subst (λ (xs : List GroupOf). None ≡ place_in xs key) e p))

-- ---- what holds of all groups

pub each_is_found : (hashes : List ℕ) (gs : List GroupOf) → IsIndexed hashes gs → EachIsFound gs
each_is_found hashes gs ix place d l = place_found gs (get_or gs place d).key place d ix.distinct l (all_same_refl (get_or gs place d).key)

pub each_rises : (hashes : List ℕ) (gs : List GroupOf) → IsIndexed hashes gs → EachRises gs
each_rises hashes gs ix key = by_place (place_in gs key) refl
  where
    by_place : (o : Option ℕ) → place_in gs key ≡ o → IsRising (held_at gs key).rows
    by_place None e = subst (λ (h : Rows). IsRising h.rows) (sym (missing gs key e).held_is) rising_none
    by_place (Some k) e =
        let at = placed gs key k e in
        let d : GroupOf = record { key = key; held = no_rows } in
        subst (λ (h : Rows). IsRising h.rows) (sym (at.held_is d)) (ix.rising k d at.within)

pub sound_of : (hashes : List ℕ) (gs : List GroupOf) → IsIndexed hashes gs → IsSound gs
sound_of hashes gs ix = record { found = each_is_found hashes gs ix; apart = ix.distinct; rising = each_rises hashes gs ix }
