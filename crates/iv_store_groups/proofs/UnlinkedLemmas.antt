-- A hash less among those that are linked: a place is taken out of its links, the last hash comes to it, and the last place goes.
use Rattle.std.specs.Prelude.{◌==◌, Option, Some, None, slice_get, if◌then◌else◌}
use Rattle.std.specs.BTreeMap.{BTreeMap}
use Rattle.std.proofs.Common.{◌≡◌, ◌≢◌, ℕ, zero, suc, ◌+◌, ◌-◌, ◌^◌, ◌<◌, ◌≤◌, ◌⊎◌, inl, inr, Bool, List, [], ◌∷◌, length, take, get_or, set, cond, true, false, arith, refl, ap, sym, ◌∙◌, subst, ⊎_elim}
use Rattle.std.proofs.lemmas.Bool.{cases_eq, cases_lt, cases_order, eq-eqb, false≢true}
use Rattle.std.proofs.lemmas.List.{get_or-set_same, get_or-set_other, length-set, get_or-take, length-take-le}
use Rattle.std.proofs.lemmas.Option.{slice_get-get_or, slice_get_past}
use Rattle.iv_store_groups.specs.Linked.{AreFiled, EndsAt, Ended, IsLinked, IsParted, IsReached, LeadDown, Linked, LinkedBut, NoneWhereFree, NotInSlots, end_by, gone, has_at, last_end, map_end, slot_of}
use Rattle.iv_store_groups.proofs.LinkedLemmas.{IsSmall, closed_end, end_gone, eq_false, filed_in_map, end_else_in_map, has_here, has_other, has_past, has_true, has_within, slot_set_other, slot_set_same}

-- ---- numbers: what led to a place leads to the place before it

module _ (count p : ℕ) (last before hash last' before' : ℕ → ℕ) (c : Linked count last before hash) (p_in : p < count)
    (last_is : (h : ℕ) → last h ≡ suc p → last' h ≡ before p) (last_else : (h : ℕ) → last h ≢ suc p → last' h ≡ last h)
    (before_is : (i : ℕ) → i < count → i ≢ p → before i ≡ suc p → before' i ≡ before p)
    (before_else : (i : ℕ) → i < count → i ≢ p → before i ≢ suc p → before' i ≡ before i) where
  -- a hash whose last place this is, is that place's
  of_last : (h : ℕ) → last h ≡ suc p → hash p ≡ h
  of_last h e = (let s : p ≡ last h - 1 = omega arith in ap hash s) ∙ c.last_hash h (omega arith)

  of_before : (i : ℕ) → i < count → before i ≡ suc p → hash p ≡ hash i
  of_before i l e = (let s : p ≡ before i - 1 = omega arith in ap hash s) ∙ c.before_hash i l (omega arith)

  but_last_in : (h : ℕ) → last' h ≤ count
  but_last_in h = ⊎_elim
      (λ (e : last h ≡ suc p). omega (arith, last_is h e, c.before_down p p_in))
      (λ (n : last h ≢ suc p). omega (arith, last_else h n, c.last_in h))
      (cases_eq (last h) (suc p))

  but_last_not : (h : ℕ) → last' h ≢ suc p
  but_last_not h q = ⊎_elim
      (λ (e : last h ≡ suc p). absurd (omega (arith, last_is h e, c.before_down p p_in)))
      (λ (n : last h ≢ suc p). n (sym (last_else h n) ∙ q))
      (cases_eq (last h) (suc p))

  but_last_hash : (h : ℕ) → 0 < last' h → hash (last' h - 1) ≡ h
  but_last_hash h l = ⊎_elim
      (λ (e : last h ≡ suc p). let s : last' h ≡ before p = last_is h e in
      ap (λ (x : ℕ). hash (x - 1)) s ∙ c.before_hash p p_in (omega arith) ∙ of_last h e)
      (λ (n : last h ≢ suc p). let s : last' h ≡ last h = last_else h n in ap (λ (x : ℕ). hash (x - 1)) s ∙ c.last_hash h (omega arith))
      (cases_eq (last h) (suc p))

  but_last_above : (i : ℕ) → i < count → i ≢ p → i < last' (hash i)
  but_last_above i l ne = ⊎_elim
      (λ (e : last (hash i) ≡ suc p). let s : last' (hash i) ≡ before p = last_is (hash i) e in
      let below : i < p = omega (arith, c.last_above i l) in
      omega (arith, c.before_above i p below p_in (sym (of_last (hash i) e))))
      (λ (n : last (hash i) ≢ suc p). omega (arith, last_else (hash i) n, c.last_above i l))
      (cases_eq (last (hash i)) (suc p))

  but_before_down : (i : ℕ) → i < count → i ≢ p → before' i ≤ i
  but_before_down i l ne = ⊎_elim
      (λ (e : before i ≡ suc p). omega (arith, before_is i l ne e, c.before_down p p_in, c.before_down i l))
      (λ (n : before i ≢ suc p). omega (arith, before_else i l ne n, c.before_down i l))
      (cases_eq (before i) (suc p))

  but_before_not : (i : ℕ) → i < count → i ≢ p → before' i ≢ suc p
  but_before_not i l ne q = ⊎_elim
      (λ (e : before i ≡ suc p). absurd (omega (arith, before_is i l ne e, c.before_down p p_in)))
      (λ (n : before i ≢ suc p). n (sym (before_else i l ne n) ∙ q))
      (cases_eq (before i) (suc p))

  but_before_hash : (i : ℕ) → i < count → i ≢ p → 0 < before' i → hash (before' i - 1) ≡ hash i
  but_before_hash i l ne pos = ⊎_elim
      (λ (e : before i ≡ suc p). let s : before' i ≡ before p = before_is i l ne e in
      ap (λ (x : ℕ). hash (x - 1)) s ∙ c.before_hash p p_in (omega arith) ∙ of_before i l e)
      (λ (n : before i ≢ suc p). let s : before' i ≡ before i = before_else i l ne n in ap (λ (x : ℕ). hash (x - 1)) s ∙ c.before_hash i l (omega arith))
      (cases_eq (before i) (suc p))

  but_before_above : (i j : ℕ) → i < j → j < count → i ≢ p → j ≢ p → hash i ≡ hash j → i < before' j
  but_before_above i j lt l ni nj same = ⊎_elim
      (λ (e : before j ≡ suc p). let s : before' j ≡ before p = before_is j l nj e in
      let below : i < p = omega (arith, c.before_above i j lt l same) in
      omega (arith, c.before_above i p below p_in (same ∙ sym (of_before j l e))))
      (λ (n : before j ≢ suc p). omega (arith, before_else j l nj n, c.before_above i j lt l same))
      (cases_eq (before j) (suc p))

  pub linked_but : LinkedBut count p last' before' hash
  linked_but = record {
    last_in = but_last_in;
    last_not = but_last_not;
    last_hash = but_last_hash;
    last_above = but_last_above;
    before_down = but_before_down;
    before_not = but_before_not;
    before_hash = but_before_hash;
    before_above = but_before_above;
  }

-- ---- numbers: a place comes back below another one, with the hash of that one

module _ (count p j : ℕ) (last before hash last' before' hash' : ℕ → ℕ) (c : LinkedBut count p last before hash) (above : p < j) (j_in : j < count) (down : before j ≤ p)
    (last_same : (h : ℕ) → last' h ≡ last h)
    (hash_here : hash' p ≡ hash j) (hash_else : (i : ℕ) → i ≢ p → hash' i ≡ hash i)
    (before_here : before' p ≡ before j) (before_next : before' j ≡ suc p) (before_else : (i : ℕ) → i ≢ p → i ≢ j → before' i ≡ before i) where
  again_last_hash : (h : ℕ) → 0 < last' h → hash' (last' h - 1) ≡ h
  again_last_hash h l =
      let s : last' h ≡ last h = last_same h in
      let ne : last h - 1 ≢ p = λ (q : last h - 1 ≡ p). c.last_not h (omega arith) in
      ap (λ (x : ℕ). hash' (x - 1)) s ∙ hash_else (last h - 1) ne ∙ c.last_hash h (omega arith)

  again_last_above : (i : ℕ) → i < count → i < last' (hash' i)
  again_last_above i l = ⊎_elim
      (λ (e : i ≡ p). let s : last' (hash' i) ≡ last (hash j) = ap (λ (x : ℕ). last' (hash' x)) e ∙ ap last' hash_here ∙ last_same (hash j) in
      let nj : j ≢ p = λ (q : j ≡ p). omega arith in
      omega (arith, c.last_above j j_in nj))
      (λ (n : i ≢ p). let s : last' (hash' i) ≡ last (hash i) = ap last' (hash_else i n) ∙ last_same (hash i) in omega (arith, c.last_above i l n))
      (cases_eq i p)

  again_before_down : (i : ℕ) → i < count → before' i ≤ i
  again_before_down i l = ⊎_elim
      (λ (e : i ≡ p). let s : before' i ≡ before j = ap before' e ∙ before_here in omega arith)
      (λ (n : i ≢ p). ⊎_elim
      (λ (e : i ≡ j). let s : before' i ≡ suc p = ap before' e ∙ before_next in omega arith)
      (λ (m : i ≢ j). omega (arith, before_else i n m, c.before_down i l n))
      (cases_eq i j))
      (cases_eq i p)

  again_before_hash : (i : ℕ) → i < count → 0 < before' i → hash' (before' i - 1) ≡ hash' i
  again_before_hash i l pos = ⊎_elim
      (λ (e : i ≡ p). let s : before' i ≡ before j = ap before' e ∙ before_here in
      let nj : j ≢ p = λ (q : j ≡ p). omega arith in
      let ne : before j - 1 ≢ p = λ (q : before j - 1 ≡ p). omega arith in
      ap (λ (x : ℕ). hash' (x - 1)) s ∙ hash_else (before j - 1) ne ∙ c.before_hash j j_in nj (omega arith) ∙ sym hash_here ∙ sym (ap hash' e))
      (λ (n : i ≢ p). ⊎_elim
      (λ (e : i ≡ j). let s : before' i ≡ suc p = ap before' e ∙ before_next in
      let z : before' i - 1 ≡ p = omega arith in
      ap hash' z ∙ hash_here ∙ sym (ap hash e) ∙ sym (hash_else i n))
      (λ (m : i ≢ j). let s : before' i ≡ before i = before_else i n m in
      let ne : before i - 1 ≢ p = λ (q : before i - 1 ≡ p). c.before_not i l n (omega arith) in
      ap (λ (x : ℕ). hash' (x - 1)) s ∙ hash_else (before i - 1) ne ∙ c.before_hash i l n (omega arith) ∙ sym (hash_else i n))
      (cases_eq i j))
      (cases_eq i p)

  -- if the upper of two places of one hash is the one that came back
  above_here : (a : ℕ) → a < p → hash' a ≡ hash' p → a < before j
  above_here a lt same =
      let na : a ≢ p = λ (q : a ≡ p). omega arith in
      let nj : j ≢ p = λ (q : j ≡ p). omega arith in
      c.before_above a j (omega arith) j_in na nj (sym (hash_else a na) ∙ same ∙ hash_here)

  -- if the lower one is, and the upper one isn't that whose link leads to it
  above_else : (b : ℕ) → p < b → b < count → b ≢ j → hash' p ≡ hash' b → p < before b
  above_else b lt l ne same =
      let nb : b ≢ p = λ (q : b ≡ p). omega arith in
      let nj : j ≢ p = λ (q : j ≡ p). omega arith in
      let as_j : hash j ≡ hash b = sym hash_here ∙ same ∙ hash_else b nb in
      ⊎_elim
      (λ (q : b ≡ j). absurd (ne q))
      (λ (o : (b < j) ⊎ (j < b)). ⊎_elim
      (λ (lo : b < j). absurd (omega (arith, c.before_above b j lo j_in nb nj (sym as_j))))
      (λ (hi : j < b). omega (arith, c.before_above j b hi l nj nb as_j))
      o)
      (cases_order b j)

  again_before_above : (a b : ℕ) → a < b → b < count → hash' a ≡ hash' b → a < before' b
  again_before_above a b lt l same = ⊎_elim
      (λ (e : b ≡ p). let s : before' b ≡ before j = ap before' e ∙ before_here in omega (arith, above_here a (omega arith) (same ∙ ap hash' e)))
      (λ (nb : b ≢ p). ⊎_elim
      (λ (e : b ≡ j). let s : before' b ≡ suc p = ap before' e ∙ before_next in ⊎_elim
      (λ (q : a ≡ p). omega arith)
      (λ (na : a ≢ p). let as_j : hash a ≡ hash j = sym (hash_else a na) ∙ same ∙ hash_else b nb ∙ ap hash e in
      let nj : j ≢ p = λ (q : j ≡ p). omega arith in
      omega (arith, c.before_above a j (omega arith) j_in na nj as_j))
      (cases_eq a p))
      (λ (nj : b ≢ j). let s : before' b ≡ before b = before_else b nb nj in ⊎_elim
      (λ (q : a ≡ p). omega (arith, above_else b (omega arith) l nj (sym (ap hash' q) ∙ same)))
      (λ (na : a ≢ p). omega (arith, c.before_above a b lt l na nb (sym (hash_else a na) ∙ same ∙ hash_else b nb)))
      (cases_eq a p))
      (cases_eq b j))
      (cases_eq b p)

  pub linked_again : Linked count last' before' hash'
  linked_again = record {
    last_in = λ h. omega (arith, last_same h, c.last_in h);
    last_hash = again_last_hash;
    last_above = again_last_above;
    before_down = again_before_down;
    before_hash = again_before_hash;
    before_above = again_before_above;
  }

-- ---- the end of a hash in its slot, or in the map

-- a place whose end stands in a slot is the last of its hash
pub in_slot_is_last : (slots : List ℕ) (others : BTreeMap ℕ ℕ) (hashes : List ℕ) (place slot : ℕ) → IsSmall hashes → AreFiled slots others hashes → place < length hashes
    → slice_get slots slot ≡ Some (suc place) → (slot_of (get_or hashes place 0) (length slots) ≡ slot) × (last_end slots others hashes (get_or hashes place 0) ≡ suc place)
unfolding last_end
in_slot_is_last slots others hashes place slot small filed l is =
    let n : suc place ≢ gone = λ (q : suc place ≡ gone). omega arith in
    let h : ℕ = get_or hashes place 0 in
    let s : slot_of h (length slots) ≡ slot = filed.slot_is slot place is n in
    (s, ap (end_by hashes h (map_end others h)) (ap (λ (x : ℕ). slice_get slots x) s ∙ is) ∙ ap (λ b. cond b (suc place) (map_end others h)) (has_here hashes place h l refl))

-- what stands in a slot, by the test for it
pub stands : (slots : List ℕ) (slot end : ℕ) → has_at slots slot end ≡ true → slice_get slots slot ≡ Some end
stands slots slot end e = let at = has_true slots slot end e in slice_get-get_or slots slot 0 at.0 ∙ ap (λ (n : ℕ). Some n) at.1

pub stands_not : (slots : List ℕ) (slot end : ℕ) → has_at slots slot end ≡ false → slice_get slots slot ≢ Some end
stands_not slots slot end e is = ⊎_elim
    (λ (l : slot < length slots). let z : Some (get_or slots slot 0) ≡ Some end = sym (slice_get-get_or slots slot 0 l) ∙ is in
    false≢true (sym e ∙ has_here slots slot end l cc))
    (λ (le : length slots ≤ slot). let z : None ≡ Some end = sym (slice_get_past slots slot le) ∙ is in absurd cc)
    (cases_lt slot (length slots))

module _ (slots : List ℕ) (others : BTreeMap ℕ ℕ) (hashes : List ℕ) (place end : ℕ) (small : IsSmall hashes) (filed : AreFiled slots others hashes) (within : place < length hashes)
    (last : last_end slots others hashes (get_or hashes place 0) ≡ suc place) (down : end ≤ place) (same : EndsAt hashes (get_or hashes place 0) end) where
  abbrev h : ℕ
  h = get_or hashes place 0

  abbrev slot : ℕ
  slot = slot_of h (length slots)

  not_gone : suc place ≢ gone
  not_gone q = omega arith

  -- what comes into the slot
  abbrev put : ℕ
  put = if end == 0 then gone else end

  put_is : ((end ≡ 0) × (put ≡ gone)) ⊎ ((0 < end) × (put ≡ end))
  put_is = ⊎_elim
      (λ (e : end ≡ 0). inl (e, ap (λ b. cond b gone end) (eq-eqb end 0 e)))
      (λ (n : end ≢ 0). inr (omega arith, ap (λ b. cond b gone end) (eq_false end 0 n)))
      (cases_eq end 0)

  module _ (there : slice_get slots slot ≡ Some (suc place)) where
    abbrev new : List ℕ
    new = set slots slot put

    slot_in : slot < length slots
    slot_in = ⊎_elim (λ (l : slot < length slots). l)
        (λ (le : length slots ≤ slot). absurd (let q : None ≡ Some (suc place) = sym (slice_get_past slots slot le) ∙ there in cc))
        (cases_lt slot (length slots))

    none_in_map : map_end others h ≡ 0
    none_in_map = filed.not_both slot place there not_gone

    of_same : (q : ℕ) → slot_of q (length slots) ≡ slot → slice_get new (slot_of q (length new)) ≡ Some put
    of_same q e = ap (λ (n : ℕ). slice_get new (slot_of q n)) (length-set slots slot put) ∙ ap (λ (n : ℕ). slice_get new n) e ∙ slot_set_same slots slot put slot_in

    of_other : (q : ℕ) → slot_of q (length slots) ≢ slot → slice_get new (slot_of q (length new)) ≡ slice_get slots (slot_of q (length slots))
    of_other q ne = ap (λ (n : ℕ). slice_get new (slot_of q n)) (length-set slots slot put) ∙ slot_set_other slots slot (slot_of q (length slots)) put ne

    -- the end in a slot is the new one, or as before
    in_slot : (k p : ℕ) → slice_get new k ≡ Some (suc p) → suc p ≢ gone → ((k ≡ slot) × (suc p ≡ end)) ⊎ ((k ≢ slot) × (slice_get slots k ≡ Some (suc p)))
    in_slot k p is n = ⊎_elim
        (λ (s : k ≡ slot). let q : Some put ≡ Some (suc p) = sym (slot_set_same slots slot put slot_in) ∙ ap (λ (x : ℕ). slice_get new x) (sym s) ∙ is in
        let z : put ≡ suc p = cc in ⊎_elim
        (λ (g : (end ≡ 0) × (put ≡ gone)). absurd (n (sym z ∙ g.1)))
        (λ (g : (0 < end) × (put ≡ end)). inl (s, sym z ∙ g.1))
        put_is)
        (λ (ne : k ≢ slot). inr (ne, sym (slot_set_other slots slot k put ne) ∙ is))
        (cases_eq k slot)

    hash_at_end : (p : ℕ) → suc p ≡ end → get_or hashes p 0 ≡ h
    hash_at_end p e = (let z : p ≡ end - 1 = omega arith in ap (λ (x : ℕ). get_or hashes x 0) z) ∙ same (omega arith)

    filed_after : AreFiled new others hashes
    filed_after = record {
      within = λ k p is n. ⊎_elim
          (λ (s : (k ≡ slot) × (suc p ≡ end)). omega (arith, s.1))
          (λ (e : (k ≢ slot) × (slice_get slots k ≡ Some (suc p))). filed.within k p e.1 n)
          (in_slot k p is n);
      slot_is = λ k p is n. ap (slot_of (get_or hashes p 0)) (length-set slots slot put) ∙ ⊎_elim
          (λ (s : (k ≡ slot) × (suc p ≡ end)). ap (λ (x : ℕ). slot_of x (length slots)) (hash_at_end p s.1) ∙ sym s.0)
          (λ (e : (k ≢ slot) × (slice_get slots k ≡ Some (suc p))). filed.slot_is k p e.1 n)
          (in_slot k p is n);
      not_both = λ k p is n. ⊎_elim
          (λ (s : (k ≡ slot) × (suc p ≡ end)). ap (map_end others) (hash_at_end p s.1) ∙ none_in_map)
          (λ (e : (k ≢ slot) × (slice_get slots k ≡ Some (suc p))). filed.not_both k p e.1 n)
          (in_slot k p is n);
      free = λ q is. ⊎_elim
          (λ (s : slot_of q (length slots) ≡ slot). let e : Some put ≡ Some 0 = sym (of_same q s) ∙ is in
          let z : put ≡ 0 = cc in ⊎_elim
          (λ (g : (end ≡ 0) × (put ≡ gone)). absurd (omega (arith, g.1)))
          (λ (g : (0 < end) × (put ≡ end)). absurd (omega (arith, g.0, g.1)))
          put_is)
          (λ (ne : slot_of q (length slots) ≢ slot). filed.free q (sym (of_other q ne) ∙ is))
          (cases_eq (slot_of q (length slots)) slot);
    }

    not_here_after : NotInSlots new place
    not_here_after k is = ⊎_elim
        (λ (s : (k ≡ slot) × (suc place ≡ end)). absurd (omega (arith, s.1)))
        (λ (e : (k ≢ slot) × (slice_get slots k ≡ Some (suc place))). e.0 (sym (filed.slot_is k place e.1 not_gone)))
        (in_slot k place is not_gone)

    -- what the slot tells of another hash, before and after
    told : (q other : ℕ) → q ≢ h → end_by hashes q other (Some put) ≡ other
    told q other ne = ⊎_elim
        (λ (g : (end ≡ 0) × (put ≡ gone)). ap (λ (x : ℕ). end_by hashes q other (Some x)) g.1 ∙ end_gone hashes q other (gone - 1) small refl)
        (λ (g : (0 < end) × (put ≡ end)). let p : ℕ = end - 1 in
        let s : put ≡ suc p = omega (arith, g.0, g.1) in
        let z : get_or hashes p 0 ≡ h = same g.0 in
        ap (λ (x : ℕ). end_by hashes q other (Some x)) s
        ∙ ap (λ b. cond b (suc p) other) (has_other hashes p q (omega arith) (λ (e : get_or hashes p 0 ≡ q). ne (sym e ∙ z))))
        put_is

    told_here : end_by hashes h (map_end others h) (Some put) ≡ end
    told_here = ⊎_elim
        (λ (g : (end ≡ 0) × (put ≡ gone)). ap (λ (x : ℕ). end_by hashes h (map_end others h) (Some x)) g.1 ∙ end_gone hashes h (map_end others h) (gone - 1) small refl ∙ none_in_map ∙ sym g.0)
        (λ (g : (0 < end) × (put ≡ end)). let p : ℕ = end - 1 in
        let s : put ≡ suc p = omega (arith, g.0, g.1) in
        let t : suc p ≡ end = omega (arith, g.0) in
        ap (λ (x : ℕ). end_by hashes h (map_end others h) (Some x)) s
        ∙ ap (λ b. cond b (suc p) (map_end others h)) (has_here hashes p h (omega arith) (same g.0)) ∙ t)
        put_is

    told_before : (q other : ℕ) → q ≢ h → end_by hashes q other (Some (suc place)) ≡ other
    told_before q other ne = ap (λ b. cond b (suc place) other) (has_other hashes place q within (λ (e : h ≡ q). ne (sym e)))

    -- the end in the slot is another one
    pub ended_in_slot : Ended slots others hashes place end new others
    unfolding last_end
    ended_in_slot = record {
      filed = filed_after;
      not_here = not_here_after;
      here = ap (end_by hashes h (map_end others h)) (of_same h refl) ∙ told_here;
      rest = λ q ne. ⊎_elim
          (λ (s : slot_of q (length slots) ≡ slot). ap (end_by hashes q (map_end others q)) (of_same q s) ∙ told q (map_end others q) ne
          ∙ sym (ap (end_by hashes q (map_end others q)) (ap (λ (x : ℕ). slice_get slots x) s ∙ there) ∙ told_before q (map_end others q) ne))
          (λ (n : slot_of q (length slots) ≢ slot). ap (end_by hashes q (map_end others q)) (of_other q n))
          (cases_eq (slot_of q (length slots)) slot);
    }

  module _ (elsewhere : slice_get slots slot ≢ Some (suc place)) where
    -- the slot doesn't have the hash
    has_not : (o : Option ℕ) → slice_get slots slot ≡ o → end_by hashes h (map_end others h) o ≡ suc place → (other : ℕ) → end_by hashes h other o ≡ other
    has_not None e is other = refl
    has_not (Some zero) e is other = absurd (omega (arith, is))
    has_not (Some (suc p)) e is other = by_test (has_at hashes p h) refl
      where
        by_test : (b : Bool) → has_at hashes p h ≡ b → end_by hashes h other (Some (suc p)) ≡ other
        by_test false n = ap (λ b. cond b (suc p) other) n
        by_test true t = absurd (elsewhere (e ∙ ap (λ (x : ℕ). Some x) (sym (ap (λ b. cond b (suc p) (map_end others h)) t) ∙ is)))

    last_is : end_by hashes h (map_end others h) (slice_get slots slot) ≡ suc place
    unfolding last_end
    last_is = last

    taken : (other : ℕ) → end_by hashes h other (slice_get slots slot) ≡ other
    taken = has_not (slice_get slots slot) refl last_is

    -- the map has it
    pub in_map : map_end others h ≡ suc place
    in_map = sym (taken (map_end others h)) ∙ last_is

    pub ended_in_map : (others' : BTreeMap ℕ ℕ) → map_end others' h ≡ end → ((q : ℕ) → q ≢ h → map_end others' q ≡ map_end others q) → Ended slots others hashes place end slots others'
    unfolding last_end
    ended_in_map others' map_here map_else = record {
      filed = filed_in_map slots others others' hashes h end filed taken map_else;
      not_here = λ k is. (let s : slot ≡ k = filed.slot_is k place is not_gone in elsewhere (ap (λ (x : ℕ). slice_get slots x) s ∙ is));
      here = taken (map_end others' h) ∙ map_here;
      rest = λ q ne. end_else_in_map slots others others' hashes h end filed taken map_else q ne;
    }

-- ---- a place taken out of its links

pub lead_down : (slots : List ℕ) (others : BTreeMap ℕ ℕ) (befores hashes : List ℕ) (place : ℕ) → IsLinked slots others befores hashes → LeadDown place befores hashes
lead_down slots others befores hashes place k = record {
  count = k.count;
  down = λ i lt l. k.links.before_down i l;
  same = λ i lt l pos. k.links.before_hash i l pos;
}

pub lead_down_parted : (slots : List ℕ) (others : BTreeMap ℕ ℕ) (befores hashes : List ℕ) (place : ℕ) → IsParted place slots others befores hashes → LeadDown place befores hashes
lead_down_parted slots others befores hashes place k = record {
  count = k.count;
  down = λ i lt l. k.links.before_down i l (λ (e : i ≡ place). omega arith);
  same = λ i lt l pos. k.links.before_hash i l (λ (e : i ≡ place). omega arith) pos;
}

-- the last place of its hash
pub parted_last : (slots slots' : List ℕ) (others others' : BTreeMap ℕ ℕ) (befores hashes : List ℕ) (place : ℕ) → IsLinked slots others befores hashes → place < length hashes
    → last_end slots others hashes (get_or hashes place 0) ≡ suc place → Ended slots others hashes place (get_or befores place 0) slots' others' → IsParted place slots' others' befores hashes
parted_last slots slots' others others' befores hashes place k within is ended = record {
  few = k.few;
  count = k.count;
  filed = ended.filed;
  not_here = ended.not_here;
  links = linked_but (length hashes) place last (λ i. get_or befores i 0) (λ i. get_or hashes i 0) (λ h. last_end slots' others' hashes h) (λ i. get_or befores i 0) k.links within
      (λ h e. ap (λ (x : ℕ). last_end slots' others' hashes x) (sym (own h e)) ∙ ended.here)
      (λ h n. ended.rest h (λ (e : h ≡ get_or hashes place 0). n (ap last e ∙ is)))
      (λ i l n e. absurd (none i l e))
      (λ i l n e. refl);
}
  where
    last : ℕ → ℕ
    last h = last_end slots others hashes h

    own : (h : ℕ) → last_end slots others hashes h ≡ suc place → get_or hashes place 0 ≡ h
    own h e = (let s : place ≡ last_end slots others hashes h - 1 = omega arith in ap (λ (x : ℕ). get_or hashes x 0) s) ∙ k.links.last_hash h (omega arith)

    none : (i : ℕ) → i < length hashes → get_or befores i 0 ≡ suc place → ⊥
    none i l e =
        let same : get_or hashes place 0 ≡ get_or hashes i 0 =
        (let s : place ≡ get_or befores i 0 - 1 = omega arith in ap (λ (x : ℕ). get_or hashes x 0) s) ∙ k.links.before_hash i l (omega arith) in
        let top : last_end slots others hashes (get_or hashes i 0) ≡ suc place = ap last (sym same) ∙ is in
        omega (arith, top, k.links.last_above i l, k.links.before_down i l)

-- a place below others of its hash
pub parted_next : (slots : List ℕ) (others : BTreeMap ℕ ℕ) (befores hashes : List ℕ) (place next : ℕ) → IsSmall hashes → IsLinked slots others befores hashes → place < length hashes
    → last_end slots others hashes (get_or hashes place 0) ≢ suc place → IsReached (last_end slots others hashes (get_or hashes place 0) - 1) place befores hashes next
    → IsParted place slots others (set befores next (get_or befores place 0)) hashes
parted_next slots others befores hashes place next small k within ne at = record {
  few = k.few;
  count = length-set befores next (get_or befores place 0) ∙ k.count;
  filed = k.filed;
  not_here = λ slot is. ne (in_slot_is_last slots others hashes place slot small k.filed within is).1;
  links = linked_but (length hashes) place (λ h. last_end slots others hashes h) (λ i. get_or befores i 0) (λ i. get_or hashes i 0) (λ h. last_end slots others hashes h)
      (λ i. get_or (set befores next (get_or befores place 0)) i 0) k.links within
      (λ h e. absurd (ne (ap (λ (x : ℕ). last_end slots others hashes x) (own h e) ∙ e)))
      (λ h n. refl)
      (λ i l n e. is_next i l n e)
      (λ i l n e. get_or-set_other befores next i (get_or befores place 0) 0 (λ (q : i ≡ next). e (ap (λ (x : ℕ). get_or befores x 0) q ∙ leads)));
}
  where
    own : (h : ℕ) → last_end slots others hashes h ≡ suc place → get_or hashes place 0 ≡ h
    own h e = (let s : place ≡ last_end slots others hashes h - 1 = omega arith in ap (λ (x : ℕ). get_or hashes x 0) s) ∙ k.links.last_hash h (omega arith)

    same : get_or hashes place 0 ≡ get_or hashes next 0
    same = sym (at.same ∙ k.links.last_hash (get_or hashes place 0) (omega (arith, k.links.last_above place within)))

    leads : get_or befores next 0 ≡ suc place
    leads = omega (arith, at.reached, k.links.before_above place next at.above at.within same)

    is_next : (i : ℕ) → i < length hashes → i ≢ place → get_or befores i 0 ≡ suc place → get_or (set befores next (get_or befores place 0)) i 0 ≡ get_or befores place 0
    is_next i l n e =
        let as_place : get_or hashes place 0 ≡ get_or hashes i 0 =
        (let s : place ≡ get_or befores i 0 - 1 = omega arith in ap (λ (x : ℕ). get_or hashes x 0) s) ∙ k.links.before_hash i l (omega arith) in
        ⊎_elim
        (λ (q : i ≡ next). ap (λ (x : ℕ). get_or (set befores next (get_or befores place 0)) x 0) q
        ∙ get_or-set_same befores next (get_or befores place 0) 0 (omega (arith, at.within, k.count)))
        (λ (o : (i < next) ⊎ (next < i)). ⊎_elim
        (λ (lo : i < next). absurd (omega (arith, leads, k.links.before_down i l, k.links.before_above i next lo at.within (sym as_place ∙ same))))
        (λ (hi : next < i). absurd (omega (arith, at.above, k.links.before_above next i hi l (sym same ∙ as_place))))
        o)
        (cases_order i next)

-- ---- the last hash comes to a place that nothing leads to

has_set : (hashes : List ℕ) (place x p q : ℕ) → p ≢ place → has_at (set hashes place x) p q ≡ has_at hashes p q
has_set hashes place x p q ne = ap (λ (o : Option ℕ). elim o [ Some h ↦ h == q | None ↦ false ]) (slot_set_other hashes place p x ne)

end_set : (hashes : List ℕ) (place x q other : ℕ) (o : Option ℕ) → o ≢ Some (suc place) → end_by (set hashes place x) q other o ≡ end_by hashes q other o
end_set hashes place x q other None ne = refl
end_set hashes place x q other (Some zero) ne = refl
end_set hashes place x q other (Some (suc p)) ne =
    ap (λ b. cond b (suc p) other) (has_set hashes place x p q (λ (e : p ≡ place). ne (ap (λ (n : ℕ). Some (suc n)) e)))

last_set : (slots : List ℕ) (others : BTreeMap ℕ ℕ) (hashes : List ℕ) (place x q : ℕ) → NotInSlots slots place → last_end slots others (set hashes place x) q ≡ last_end slots others hashes q
unfolding last_end
last_set slots others hashes place x q ne = end_set hashes place x q (map_end others q) (slice_get slots (slot_of q (length slots))) (ne (slot_of q (length slots)))

filed_set : (slots : List ℕ) (others : BTreeMap ℕ ℕ) (hashes : List ℕ) (place x : ℕ) → NotInSlots slots place → AreFiled slots others hashes → AreFiled slots others (set hashes place x)
filed_set slots others hashes place x ne filed = record {
  within = λ k p is n. subst (λ (m : ℕ). p < m) (sym (length-set hashes place x)) (filed.within k p is n);
  slot_is = λ k p is n. ap (λ (y : ℕ). slot_of y (length slots)) (stays k p is) ∙ filed.slot_is k p is n;
  not_both = λ k p is n. ap (map_end others) (stays k p is) ∙ filed.not_both k p is n;
  free = filed.free;
}
  where
    stays : (k p : ℕ) → slice_get slots k ≡ Some (suc p) → get_or (set hashes place x) p 0 ≡ get_or hashes p 0
    stays k p is = get_or-set_other hashes place p x 0 (λ (e : p ≡ place). ne k (is ∙ ap (λ (n : ℕ). Some (suc n)) e))

pub taken_over : (slots : List ℕ) (others : BTreeMap ℕ ℕ) (befores hashes : List ℕ) (place next : ℕ) → IsParted place slots others befores hashes → place < length hashes
    → IsReached (length hashes - 1) place befores hashes next
    → IsLinked slots others (set (set befores place (get_or befores next 0)) next (suc place)) (set hashes place (get_or hashes (length hashes - 1) 0))
taken_over slots others befores hashes place next k within at =
    let m : length (set hashes place (get_or hashes (length hashes - 1) 0)) ≡ length hashes = length-set hashes place (get_or hashes (length hashes - 1) 0) in
    record {
      few = subst (λ (n : ℕ). n < gone) (sym m) k.few;
      count = length-set (set befores place (get_or befores next 0)) next (suc place) ∙ length-set befores place (get_or befores next 0) ∙ k.count ∙ sym m;
      filed = filed_set slots others hashes place (get_or hashes (length hashes - 1) 0) k.not_here k.filed;
      links = subst (λ (n : ℕ). Linked n (λ h. last_end slots others new h) (λ i. get_or (set (set befores place (get_or befores next 0)) next (suc place)) i 0) (λ i. get_or new i 0)) (sym m)
          (linked_again (length hashes) place next (λ h. last_end slots others hashes h) (λ i. get_or befores i 0) (λ i. get_or hashes i 0)
          (λ h. last_end slots others new h) (λ i. get_or (set (set befores place (get_or befores next 0)) next (suc place)) i 0) (λ i. get_or new i 0)
          k.links at.above at.within below
          (λ h. last_set slots others hashes place (get_or hashes (length hashes - 1) 0) h k.not_here)
          (get_or-set_same hashes place (get_or hashes (length hashes - 1) 0) 0 within ∙ sym at.same)
          (λ i n. get_or-set_other hashes place i (get_or hashes (length hashes - 1) 0) 0 n)
          (get_or-set_other (set befores place (get_or befores next 0)) next place (suc place) 0 (λ (e : place ≡ next). omega (arith, at.above))
          ∙ get_or-set_same befores place (get_or befores next 0) 0 (omega (arith, k.count)))
          (get_or-set_same (set befores place (get_or befores next 0)) next (suc place) 0
          (omega (arith, at.within, k.count, length-set befores place (get_or befores next 0))))
          (λ i n o. get_or-set_other (set befores place (get_or befores next 0)) next i (suc place) 0 o ∙ get_or-set_other befores place i (get_or befores next 0) 0 n));
    }
  where
    new : List ℕ
    new = set hashes place (get_or hashes (length hashes - 1) 0)

    apart : next ≢ place
    apart e = omega (arith, at.above)

    below : get_or befores next 0 ≤ place
    below = ⊎_elim
        (λ (e : get_or befores next 0 ≡ suc place). absurd (k.links.before_not next at.within apart e))
        (λ (n : get_or befores next 0 ≢ suc place). omega (arith, at.reached))
        (cases_eq (get_or befores next 0) (suc place))

-- ---- the last place goes

has_take : (hashes : List ℕ) (m p q : ℕ) → suc m ≡ length hashes → p ≢ m → has_at (take m hashes) p q ≡ has_at hashes p q
has_take hashes m p q e ne =
    let l : length (take m hashes) ≡ m = length-take-le m hashes (omega arith) in
    ⊎_elim
    (λ (lt : p < m). has_within (take m hashes) p q (omega arith) ∙ ap (λ (x : ℕ). x == q) (get_or-take m hashes p 0 lt) ∙ sym (has_within hashes p q (omega arith)))
    (λ (le : m ≤ p). has_past (take m hashes) p q (omega arith) ∙ sym (has_past hashes p q (omega arith)))
    (cases_lt p m)

end_take : (hashes : List ℕ) (m q other : ℕ) (o : Option ℕ) → suc m ≡ length hashes → o ≢ Some (suc m) → end_by (take m hashes) q other o ≡ end_by hashes q other o
end_take hashes m q other None e ne = refl
end_take hashes m q other (Some zero) e ne = refl
end_take hashes m q other (Some (suc p)) e ne =
    ap (λ b. cond b (suc p) other) (has_take hashes m p q e (λ (x : p ≡ m). ne (ap (λ (n : ℕ). Some (suc n)) x)))

last_take : (slots : List ℕ) (others : BTreeMap ℕ ℕ) (hashes : List ℕ) (m q : ℕ) → suc m ≡ length hashes → NotInSlots slots m → last_end slots others (take m hashes) q ≡ last_end slots others hashes q
unfolding last_end
last_take slots others hashes m q e ne = end_take hashes m q (map_end others q) (slice_get slots (slot_of q (length slots))) e (ne (slot_of q (length slots)))

pub cut_last : (slots : List ℕ) (others : BTreeMap ℕ ℕ) (befores hashes : List ℕ) (m : ℕ) → suc m ≡ length hashes → IsParted m slots others befores hashes
    → IsLinked slots others (take m befores) (take m hashes)
cut_last slots others befores hashes m e k = record {
  few = omega (arith, len, e, k.few);
  count = length-take-le m befores (omega (arith, k.count)) ∙ sym len;
  filed = record {
    within = λ s p is n. subst (λ (x : ℕ). p < x) (sym len) (inside s p is n);
    slot_is = λ s p is n. ap (λ (y : ℕ). slot_of y (length slots)) (get_or-take m hashes p 0 (inside s p is n)) ∙ k.filed.slot_is s p is n;
    not_both = λ s p is n. ap (map_end others) (get_or-take m hashes p 0 (inside s p is n)) ∙ k.filed.not_both s p is n;
    free = k.filed.free;
  };
  links = subst (λ (n : ℕ). Linked n (λ h. last_end slots others (take m hashes) h) (λ i. get_or (take m befores) i 0) (λ i. get_or (take m hashes) i 0)) (sym len) (record {
    last_in = last_in;
    last_hash = λ h l. (let s : last_end slots others (take m hashes) h ≡ last_end slots others hashes h = last_take slots others hashes m h e k.not_here in
        ap (λ (x : ℕ). get_or (take m hashes) (x - 1) 0) s ∙ get_or-take m hashes (last_end slots others hashes h - 1) 0 (omega (arith, last_in h)) ∙ k.links.last_hash h (omega arith));
    last_above = λ i l. (let s : last_end slots others (take m hashes) (get_or (take m hashes) i 0) ≡ last_end slots others hashes (get_or hashes i 0) =
        ap (λ (x : ℕ). last_end slots others (take m hashes) x) (hash_is i l) ∙ last_take slots others hashes m (get_or hashes i 0) e k.not_here in
        omega (arith, k.links.last_above i (omega arith) (other i l)));
    before_down = λ i l. omega (arith, before_is i l, k.links.before_down i (omega arith) (other i l));
    before_hash = λ i l pos. (let s : get_or (take m befores) i 0 ≡ get_or befores i 0 = before_is i l in
        ap (λ (x : ℕ). get_or (take m hashes) (x - 1) 0) s
        ∙ get_or-take m hashes (get_or befores i 0 - 1) 0 (omega (arith, k.links.before_down i (omega arith) (other i l)))
        ∙ k.links.before_hash i (omega arith) (other i l) (omega arith) ∙ sym (hash_is i l));
    before_above = λ i j lt l same. omega (
      arith,
      before_is j l,
      k.links.before_above i j lt (omega arith) (other i (omega arith)) (other j l) (sym (hash_is i (omega arith)) ∙ same ∙ hash_is j l),
    );
  });
}
  where
    len : length (take m hashes) ≡ m
    len = length-take-le m hashes (omega arith)

    other : (i : ℕ) → i < m → i ≢ m
    other i l q = omega arith

    inside : (s p : ℕ) → slice_get slots s ≡ Some (suc p) → suc p ≢ gone → p < m
    inside s p is n = ⊎_elim
        (λ (q : p ≡ m). absurd (k.not_here s (is ∙ ap (λ (x : ℕ). Some (suc x)) q)))
        (λ (q : p ≢ m). omega (arith, k.filed.within s p is n))
        (cases_eq p m)

    hash_is : (i : ℕ) → i < m → get_or (take m hashes) i 0 ≡ get_or hashes i 0
    hash_is i l = get_or-take m hashes i 0 l

    before_is : (i : ℕ) → i < m → get_or (take m befores) i 0 ≡ get_or befores i 0
    before_is i l = get_or-take m befores i 0 l

    last_in : (h : ℕ) → last_end slots others (take m hashes) h ≤ m
    last_in h = ⊎_elim
        (λ (q : last_end slots others hashes h ≡ suc m). absurd (k.links.last_not h q))
        (λ (q : last_end slots others hashes h ≢ suc m). omega (arith, k.links.last_in h, last_take slots others hashes m h e k.not_here))
        (cases_eq (last_end slots others hashes h) (suc m))
