-- A hash more at the end of those that are linked.
use Rattle.std.specs.Prelude.{◌==◌, Option, Some, None, slice_get, Result, Ok, Err, OnErr}
use Rattle.std.specs.Ordering.{nat_cmp, is_eq}
use Rattle.std.specs.BTreeMap.{BTreeMap, Updates, is_at}
use Rattle.std.specs.Map.{lookup}
use Rattle.std.proofs.Common.{◌≡◌, ◌≢◌, ℕ, zero, suc, ◌+◌, ◌-◌, ◌^◌, ◌<◌, ◌≤◌, ◌⊎◌, inl, inr, List, [], ◌∷◌, ◌++◌, length, get_or, set, cond, true, false, arith, rules, refl, ap, sym, ◌∙◌, subst, ⊎_elim, length-append}
use Rattle.std.proofs.lemmas.Bool.{cases_eq, cases_lt, eq-eqb, false≢true}
use Rattle.std.proofs.lemmas.List.{get_or_push, get_or_append_left, get_or-set_same, get_or-set_other, length-set}
use Rattle.std.proofs.lemmas.Option.{slice_get-get_or, slice_get_past, slice_get_read}
use Rattle.std.proofs.lemmas.Bool.Decides.{Decides-eqb, nat_tests}
use Rattle.iv_store_groups.specs.Linked.{AreFiled, AreFree, EndsAt, IsLinked, Linked, NoneFrom, Noted, NoneWhereFree, end_by, end_of, gone, has_at, is_open, last_end, map_end, slot_of}

-- different hashes are different keys of the map
apart : (h q : ℕ) → q ≢ h → is_eq (nat_cmp h q) ≡ false
apart h q ne = grind (arith, nat_tests)

-- what changes is what the map has for the added hash, and what stands at the place after the others
module _ (count h0 : ℕ) (last before hash last' before' hash' : ℕ → ℕ) (c : Linked count last before hash)
    (last_here : last' h0 ≡ count + 1) (last_else : (h : ℕ) → h ≢ h0 → last' h ≡ last h)
    (before_here : before' count ≡ last h0) (before_else : (i : ℕ) → i < count → before' i ≡ before i)
    (hash_here : hash' count ≡ h0) (hash_else : (i : ℕ) → i < count → hash' i ≡ hash i) where
  linked_last_in : (h : ℕ) → last' h ≤ count + 1
  linked_last_in h = ⊎_elim (λ (e : h ≡ h0). let q : last' h ≡ count + 1 = ap last' e ∙ last_here in omega arith)
      (λ (e : h ≢ h0). let q : last' h ≡ last h = last_else h e in omega (arith, c.last_in h)) (cases_eq h h0)

  linked_last_hash : (h : ℕ) → 0 < last' h → hash' (last' h - 1) ≡ h
  linked_last_hash h p = ⊎_elim
      (λ (e : h ≡ h0). let s : last' h - 1 ≡ count = (let q : last' h ≡ count + 1 = ap last' e ∙ last_here in omega arith) in ap hash' s ∙ hash_here ∙ sym e)
      (λ (e : h ≢ h0). let q : last' h ≡ last h = last_else h e in
      let p' : 0 < last h = omega arith in
      let lt : last h - 1 < count = omega (arith, c.last_in h) in
      ap (λ x. hash' (x - 1)) q ∙ hash_else (last h - 1) lt ∙ c.last_hash h p')
      (cases_eq h h0)

  linked_last_above : (i : ℕ) → i < count + 1 → i < last' (hash' i)
  linked_last_above i l = ⊎_elim
      (λ (lt : i < count). ⊎_elim
      (λ (e : hash i ≡ h0). let q : last' (hash' i) ≡ count + 1 = ap last' (hash_else i lt ∙ e) ∙ last_here in omega arith)
      (λ (e : hash i ≢ h0). let q : last' (hash' i) ≡ last (hash i) = ap last' (hash_else i lt) ∙ last_else (hash i) e in omega (arith, c.last_above i lt))
      (cases_eq (hash i) h0))
      (λ (le : count ≤ i). let e : i ≡ count = omega arith in let q : last' (hash' i) ≡ count + 1 = ap (λ x. last' (hash' x)) e ∙ ap last' hash_here ∙ last_here in omega arith)
      (cases_lt i count)

  linked_before_down : (i : ℕ) → i < count + 1 → before' i ≤ i
  linked_before_down i l = ⊎_elim
      (λ (lt : i < count). omega (arith, before_else i lt, c.before_down i lt))
      (λ (le : count ≤ i). let e : i ≡ count = omega arith in let q : before' i ≡ last h0 = ap before' e ∙ before_here in omega (arith, c.last_in h0))
      (cases_lt i count)

  linked_before_hash : (i : ℕ) → i < count + 1 → 0 < before' i → hash' (before' i - 1) ≡ hash' i
  linked_before_hash i l p = ⊎_elim
      (λ (lt : i < count). let q : before' i ≡ before i = before_else i lt in
      let p' : 0 < before i = omega arith in
      let lt' : before i - 1 < count = omega (arith, c.before_down i lt) in
      ap (λ x. hash' (x - 1)) q ∙ hash_else (before i - 1) lt' ∙ c.before_hash i lt p' ∙ sym (hash_else i lt))
      (λ (le : count ≤ i). let e : i ≡ count = omega arith in
      let q : before' i ≡ last h0 = ap before' e ∙ before_here in
      let p' : 0 < last h0 = omega arith in
      let lt' : last h0 - 1 < count = omega (arith, c.last_in h0) in
      ap (λ x. hash' (x - 1)) q ∙ hash_else (last h0 - 1) lt' ∙ c.last_hash h0 p' ∙ sym hash_here ∙ sym (ap hash' e))
      (cases_lt i count)

  linked_before_above : (i j : ℕ) → i < j → j < count + 1 → hash' i ≡ hash' j → i < before' j
  linked_before_above i j l m e = ⊎_elim
      (λ (lt : j < count). let li : i < count = omega arith in
      let q : hash i ≡ hash j = sym (hash_else i li) ∙ e ∙ hash_else j lt in omega (arith, before_else j lt, c.before_above i j l lt q))
      (λ (le : count ≤ j). let f : j ≡ count = omega arith in let li : i < count = omega arith in
      let q : before' j ≡ last h0 = ap before' f ∙ before_here in
      let hi : hash i ≡ h0 = sym (hash_else i li) ∙ e ∙ ap hash' f ∙ hash_here in
      let r : last (hash i) ≡ last h0 = ap last hi in omega (arith, c.last_above i li))
      (cases_lt j count)

  pub Linked-push : Linked (count + 1) last' before' hash'
  Linked-push = record {
    last_in = linked_last_in;
    last_hash = linked_last_hash;
    last_above = linked_last_above;
    before_down = linked_before_down;
    before_hash = linked_before_hash;
    before_above = linked_before_above;
  }

-- what is so in every case is so on an error
pub on_err : {A E P : Type 0} (r : Result A E) → P → OnErr r P
on_err (Ok x) p = tt
on_err (Err e) p = p

-- what a map has for a hash is told by its entries
pub same_end : (one other : BTreeMap ℕ ℕ) → one.entries ≡ other.entries → (q : ℕ) → map_end one q ≡ map_end other q
same_end one other e q = ap (λ es. end_of (lookup (is_at (nat_cmp q)) es)) e

-- ---- what stands in the slots

pub eq_false : (a b : ℕ) → a ≢ b → (a == b) ≡ false
eq_false a b h = search rules

pub slot_set_same : (slots : List ℕ) (slot end : ℕ) → slot < length slots → slice_get (set slots slot end) slot ≡ Some end
slot_set_same slots slot end l = slice_get_read (set slots slot end) (length slots) slot end (sym (length-set slots slot end)) l (sym (get_or-set_same slots slot end end l))

pub slot_set_other : (slots : List ℕ) (slot other end : ℕ) → other ≢ slot → slice_get (set slots slot end) other ≡ slice_get slots other
slot_set_other slots slot other end ne =
    let m : length (set slots slot end) ≡ length slots = length-set slots slot end in
    ⊎_elim
    (λ (l : other < length slots).
    slice_get-get_or (set slots slot end) other 0 (omega arith) ∙ ap (λ (x : ℕ). Some x) (get_or-set_other slots slot other end 0 ne) ∙ sym (slice_get-get_or slots other 0 l))
    (λ (le : length slots ≤ other). slice_get_past (set slots slot end) other (omega arith) ∙ sym (slice_get_past slots other le))
    (cases_lt other (length slots))

-- ---- a place has a hash

pub has_within : (hashes : List ℕ) (place q : ℕ) → place < length hashes → has_at hashes place q ≡ (get_or hashes place 0 == q)
has_within hashes place q l = ap (λ (o : Option ℕ). elim o [ Some h ↦ h == q | None ↦ false ]) (slice_get-get_or hashes place 0 l)

pub has_past : (hashes : List ℕ) (place q : ℕ) → length hashes ≤ place → has_at hashes place q ≡ false
has_past hashes place q l = ap (λ (o : Option ℕ). elim o [ Some h ↦ h == q | None ↦ false ]) (slice_get_past hashes place l)

pub has_true : (hashes : List ℕ) (place q : ℕ) → has_at hashes place q ≡ true → (place < length hashes) × (get_or hashes place 0 ≡ q)
has_true hashes place q e = ⊎_elim
    (λ (l : place < length hashes). (l, (Decides-eqb (get_or hashes place 0) q).0 (sym (has_within hashes place q l) ∙ e)))
    (λ (le : length hashes ≤ place). absurd (false≢true (sym (has_past hashes place q le) ∙ e)))
    (cases_lt place (length hashes))

pub has_here : (hashes : List ℕ) (place q : ℕ) → place < length hashes → get_or hashes place 0 ≡ q → has_at hashes place q ≡ true
has_here hashes place q l e = has_within hashes place q l ∙ eq-eqb (get_or hashes place 0) q e

pub has_other : (hashes : List ℕ) (place q : ℕ) → place < length hashes → get_or hashes place 0 ≢ q → has_at hashes place q ≡ false
has_other hashes place q l ne = has_within hashes place q l ∙ eq_false (get_or hashes place 0) q ne

has_push : (hashes : List ℕ) (h place q : ℕ) → place ≢ length hashes → has_at (hashes ++ h ∷ []) place q ≡ has_at hashes place q
has_push hashes h place q ne =
    let m : length (hashes ++ h ∷ []) ≡ length hashes + 1 = length-append hashes (h ∷ []) in
    ⊎_elim
    (λ (l : place < length hashes). has_within (hashes ++ h ∷ []) place q (omega arith) ∙ ap (λ (x : ℕ). x == q) (get_or_append_left hashes (h ∷ []) 0 place l)
    ∙ sym (has_within hashes place q l))
    (λ (le : length hashes ≤ place). has_past (hashes ++ h ∷ []) place q (omega arith) ∙ sym (has_past hashes place q le))
    (cases_lt place (length hashes))

-- a place that stands for none is past the end
abbrev pub IsSmall : List ℕ → Type 0
IsSmall hashes = length hashes < gone

-- a hash more changes nothing for an end that was there
small_of : (hashes : List ℕ) → length hashes + 1 < gone → IsSmall hashes
small_of hashes few = omega (arith, few)

end_stays : (hashes : List ℕ) (h q other : ℕ) (o : Option ℕ) → length hashes + 1 < gone → ((place : ℕ) → o ≡ Some (suc place) → suc place ≢ gone → place < length hashes)
    → end_by (hashes ++ h ∷ []) q other o ≡ end_by hashes q other o
end_stays hashes h q other None small within = refl
end_stays hashes h q other (Some zero) small within = refl
end_stays hashes h q other (Some (suc place)) small within =
    let ne : place ≢ length hashes = λ (e : place ≡ length hashes).
    ⊎_elim (λ (g : suc place ≡ gone). omega arith) (λ (n : suc place ≢ gone). omega (arith, within place refl n)) (cases_eq (suc place) gone) in
    ap (λ b. cond b (suc place) other) (has_push hashes h place q ne)

-- the end behind all is that of only the last hash
end_behind : (hashes : List ℕ) (h q other : ℕ) → end_by (hashes ++ h ∷ []) q other (Some (length hashes + 1)) ≡ cond (h == q) (length hashes + 1) other
end_behind hashes h q other =
    let s : length hashes + 1 ≡ suc (length hashes) = omega arith in
    let m : length (hashes ++ h ∷ []) ≡ length hashes + 1 = length-append hashes (h ∷ []) in
    ap (λ (n : ℕ). end_by (hashes ++ h ∷ []) q other (Some n)) s
    ∙ ap (λ b. cond b (suc (length hashes)) other) (has_within (hashes ++ h ∷ []) (length hashes) q (omega arith))
    ∙ ap (λ (x : ℕ). cond (x == q) (suc (length hashes)) other) (get_or_push hashes h 0 (length hashes) refl)
    ∙ ap (λ (n : ℕ). cond (h == q) n other) (sym s)

-- what stands for none is no end
pub end_gone : (hashes : List ℕ) (q other place : ℕ) → IsSmall hashes → suc place ≡ gone → end_by hashes q other (Some (suc place)) ≡ other
end_gone hashes q other place small e = ap (λ b. cond b (suc place) other) (has_past hashes place q (omega arith))

-- if one hash may come into a slot, what stands there is no end of another one
no_end : (hashes : List ℕ) (h q mine other : ℕ) (o : Option ℕ) → IsSmall hashes → q ≢ h → is_open hashes h mine o ≡ true → (o ≡ Some 0 → other ≡ 0) → end_by hashes q other o ≡ other
no_end hashes h q mine other None small ne open_slot free = refl
no_end hashes h q mine other (Some zero) small ne open_slot free = sym (free refl)
no_end hashes h q mine other (Some (suc place)) small ne open_slot free = ⊎_elim
    (λ (g : suc place ≡ gone). end_gone hashes q other place small g)
    (λ (n : suc place ≢ gone).
    let has : has_at hashes place h ≡ true = sym (ap (λ b. cond b (mine == 0) (has_at hashes place h)) (eq_false (suc place) gone n)) ∙ open_slot in
    let at = has_true hashes place h has in
    ap (λ b. cond b (suc place) other) (has_other hashes place q at.0 (λ (e : get_or hashes place 0 ≡ q). ne (sym e ∙ at.1))))
    (cases_eq (suc place) gone)

-- if a hash may not come into its slot, what stands there is no end of it
pub closed_end : (hashes : List ℕ) (h mine : ℕ) (o : Option ℕ) → IsSmall hashes → is_open hashes h mine o ≡ false → (other : ℕ) → end_by hashes h other o ≡ other
closed_end hashes h mine None small closed other = refl
closed_end hashes h mine (Some zero) small closed other = absurd (false≢true (sym closed))
closed_end hashes h mine (Some (suc place)) small closed other = ⊎_elim
    (λ (g : suc place ≡ gone). end_gone hashes h other place small g)
    (λ (n : suc place ≢ gone).
    ap (λ b. cond b (suc place) other) (sym (ap (λ b. cond b (mine == 0) (has_at hashes place h)) (eq_false (suc place) gone n)) ∙ closed))
    (cases_eq (suc place) gone)

-- a slot that a hash may come into is there
open_within : (slots hashes : List ℕ) (h mine slot : ℕ) → is_open hashes h mine (slice_get slots slot) ≡ true → slot < length slots
open_within slots hashes h mine slot is = ⊎_elim
    (λ (l : slot < length slots). l)
    (λ (le : length slots ≤ slot). absurd (false≢true (sym (ap (is_open hashes h mine) (slice_get_past slots slot le)) ∙ is)))
    (cases_lt slot (length slots))

-- a hash that may come into its slot isn't in the map
open_not_in_map : (slots : List ℕ) (others : BTreeMap ℕ ℕ) (hashes : List ℕ) (h : ℕ) → AreFiled slots others hashes
    → is_open hashes h (map_end others h) (slice_get slots (slot_of h (length slots))) ≡ true → map_end others h ≡ 0
open_not_in_map slots others hashes h filed is = by_content (slice_get slots (slot_of h (length slots))) refl is
  where
    by_content : (o : Option ℕ) → slice_get slots (slot_of h (length slots)) ≡ o → is_open hashes h (map_end others h) o ≡ true → map_end others h ≡ 0
    by_content None e q = absurd (false≢true q)
    by_content (Some zero) e q = filed.free h e
    by_content (Some (suc place)) e q = ⊎_elim
        (λ (g : suc place ≡ gone). (Decides-eqb (map_end others h) 0).0
        (sym (ap (λ b. cond b (map_end others h == 0) (has_at hashes place h)) (eq-eqb (suc place) gone g)) ∙ q))
        (λ (n : suc place ≢ gone).
        let at = has_true hashes place h (sym (ap (λ b. cond b (map_end others h == 0) (has_at hashes place h)) (eq_false (suc place) gone n)) ∙ q) in
        ap (map_end others) (sym at.1) ∙ filed.not_both (slot_of h (length slots)) place e n)
        (cases_eq (suc place) gone)

-- ---- a hash more

module _ (slots : List ℕ) (others : BTreeMap ℕ ℕ) (hashes : List ℕ) (h : ℕ) (few : length hashes + 1 < gone) (filed : AreFiled slots others hashes)
    (is_open_here : is_open hashes h (map_end others h) (slice_get slots (slot_of h (length slots))) ≡ true) where
  abbrev slot : ℕ
  slot = slot_of h (length slots)

  abbrev end : ℕ
  end = length hashes + 1

  abbrev new : List ℕ
  new = set slots slot end

  slot_within : slot < length slots
  slot_within = open_within slots hashes h (map_end others h) slot is_open_here

  of_same : (q : ℕ) → slot_of q (length slots) ≡ slot → slice_get new (slot_of q (length new)) ≡ Some end
  of_same q e =
      ap (λ (n : ℕ). slice_get new (slot_of q n)) (length-set slots slot end)
      ∙ ap (λ (n : ℕ). slice_get new n) e ∙ slot_set_same slots slot end slot_within

  of_other : (q : ℕ) → slot_of q (length slots) ≢ slot → slice_get new (slot_of q (length new)) ≡ slice_get slots (slot_of q (length slots))
  of_other q ne =
      ap (λ (n : ℕ). slice_get new (slot_of q n)) (length-set slots slot end)
      ∙ slot_set_other slots slot (slot_of q (length slots)) end ne

  -- the end in a slot is the new one, or as before
  in_slot : (k place : ℕ) → slice_get new k ≡ Some (suc place) → ((k ≡ slot) × (place ≡ length hashes)) ⊎ (slice_get slots k ≡ Some (suc place))
  in_slot k place is = ⊎_elim
      (λ (s : k ≡ slot). inl (
        s,
        (let q : Some end ≡ Some (suc place) = sym (slot_set_same slots slot end slot_within) ∙ ap (λ (x : ℕ). slice_get new x) (sym s) ∙ is in
            let z : end ≡ suc place = cc in omega arith),
      ))
      (λ (ne : k ≢ slot). inr (sym (slot_set_other slots slot k end ne) ∙ is))
      (cases_eq k slot)

  -- the hash at a place that had one
  hash_stays : (place : ℕ) → place < length hashes → get_or (hashes ++ h ∷ []) place 0 ≡ get_or hashes place 0
  hash_stays place l = get_or_append_left hashes (h ∷ []) 0 place l

  hash_new : (place : ℕ) → place ≡ length hashes → get_or (hashes ++ h ∷ []) place 0 ≡ h
  hash_new place e = get_or_push hashes h 0 place (sym e)

  filed_after : AreFiled new others (hashes ++ h ∷ [])
  filed_after = record {
    within = λ k place is n. (let m : length (hashes ++ h ∷ []) ≡ length hashes + 1 = length-append hashes (h ∷ []) in ⊎_elim
        (λ (s : (k ≡ slot) × (place ≡ length hashes)). omega (arith, s.1))
        (λ (e : slice_get slots k ≡ Some (suc place)). omega (arith, filed.within k place e n))
        (in_slot k place is));
    slot_is = λ k place is n. ⊎_elim
        (λ (s : (k ≡ slot) × (place ≡ length hashes)). ap (λ (x : ℕ). slot_of x (length new)) (hash_new place s.1) ∙ ap (slot_of h) (length-set slots slot end) ∙ sym s.0)
        (λ (e : slice_get slots k ≡ Some (suc place)). ap (λ (x : ℕ). slot_of x (length new)) (hash_stays place (filed.within k place e n))
        ∙ ap (slot_of (get_or hashes place 0)) (length-set slots slot end) ∙ filed.slot_is k place e n)
        (in_slot k place is);
    not_both = λ k place is n. ⊎_elim
        (λ (s : (k ≡ slot) × (place ≡ length hashes)). ap (map_end others) (hash_new place s.1) ∙ open_not_in_map slots others hashes h filed is_open_here)
        (λ (e : slice_get slots k ≡ Some (suc place)). ap (map_end others) (hash_stays place (filed.within k place e n)) ∙ filed.not_both k place e n)
        (in_slot k place is);
    free = λ q is. ⊎_elim
        (λ (s : slot_of q (length slots) ≡ slot). let e : Some end ≡ Some 0 = sym (of_same q s) ∙ is in
        let z : end ≡ 0 = cc in absurd (omega arith))
        (λ (ne : slot_of q (length slots) ≢ slot). filed.free q (sym (of_other q ne) ∙ is))
        (cases_eq (slot_of q (length slots)) slot);
  }

  end_here : end_by (hashes ++ h ∷ []) h (map_end others h) (slice_get new (slot_of h (length new))) ≡ end
  end_here = ap (end_by (hashes ++ h ∷ []) h (map_end others h)) (of_same h refl) ∙ end_behind hashes h h (map_end others h)
      ∙ ap (λ b. cond b end (map_end others h)) (eq-eqb h h refl)

  end_else : (q : ℕ) → q ≢ h → end_by (hashes ++ h ∷ []) q (map_end others q) (slice_get new (slot_of q (length new)))
      ≡ end_by hashes q (map_end others q) (slice_get slots (slot_of q (length slots)))
  end_else q ne = ⊎_elim
      (λ (s : slot_of q (length slots) ≡ slot).
      ap (end_by (hashes ++ h ∷ []) q (map_end others q)) (of_same q s) ∙ end_behind hashes h q (map_end others q)
      ∙ ap (λ b. cond b end (map_end others q)) (eq_false h q (λ e. ne (sym e)))
      ∙ sym (no_end hashes h q (map_end others h) (map_end others q) (slice_get slots (slot_of q (length slots))) (small_of hashes few) ne
      (ap (λ (x : ℕ). is_open hashes h (map_end others h) (slice_get slots x)) s ∙ is_open_here) (filed.free q)))
      (λ (n : slot_of q (length slots) ≢ slot).
      ap (end_by (hashes ++ h ∷ []) q (map_end others q)) (of_other q n)
      ∙ end_stays hashes h q (map_end others q) (slice_get slots (slot_of q (length slots))) few (λ place is k. filed.within (slot_of q (length slots)) place is k))
      (cases_eq (slot_of q (length slots)) slot)

  -- it comes into its slot
  pub noted_in_slot : Noted slots others hashes h new others
  unfolding last_end
  noted_in_slot = record { few = few; filed = filed_after; here = end_here; rest = end_else }

-- a hash of which no slot has the end isn't that of an end in a slot
not_of_slot : (slots : List ℕ) (others : BTreeMap ℕ ℕ) (hashes : List ℕ) (h : ℕ) → AreFiled slots others hashes
    → ((other : ℕ) → end_by hashes h other (slice_get slots (slot_of h (length slots))) ≡ other)
    → (k place : ℕ) → slice_get slots k ≡ Some (suc place) → suc place ≢ gone → get_or hashes place 0 ≢ h
not_of_slot slots others hashes h filed taken k place is n e =
    let s : k ≡ slot_of h (length slots) = sym (filed.slot_is k place is n) ∙ ap (λ (x : ℕ). slot_of x (length slots)) e in
    let z : suc place ≡ 0 =
    sym (ap (λ b. cond b (suc place) 0) (has_here hashes place h (filed.within k place is n) e))
    ∙ ap (end_by hashes h 0) (sym is ∙ ap (λ (x : ℕ). slice_get slots x) s) ∙ taken 0 in
    absurd (omega arith)

module _ (slots : List ℕ) (others others' : BTreeMap ℕ ℕ) (hashes : List ℕ) (h end : ℕ) (filed : AreFiled slots others hashes)
    (taken : (other : ℕ) → end_by hashes h other (slice_get slots (slot_of h (length slots))) ≡ other)
    (map_else : (q : ℕ) → q ≢ h → map_end others' q ≡ map_end others q) where
  free_in_map : NoneWhereFree slots others'
  free_in_map q is = ⊎_elim
      (λ (e : q ≡ h). let z : 0 ≡ 1 = ap (end_by hashes h 1) (sym is ∙ ap (λ (x : ℕ). slice_get slots (slot_of x (length slots))) e) ∙ taken 1 in absurd (omega arith))
      (λ (ne : q ≢ h). map_else q ne ∙ filed.free q is)
      (cases_eq q h)

  -- another end in the map, for a hash that no slot has
  pub filed_in_map : AreFiled slots others' hashes
  filed_in_map = record {
    within = filed.within;
    slot_is = filed.slot_is;
    not_both = λ k place is n. map_else (get_or hashes place 0) (not_of_slot slots others hashes h filed taken k place is n) ∙ filed.not_both k place is n;
    free = free_in_map;
  }

  pub end_else_in_map : (q : ℕ) → q ≢ h → end_by hashes q (map_end others' q) (slice_get slots (slot_of q (length slots)))
      ≡ end_by hashes q (map_end others q) (slice_get slots (slot_of q (length slots)))
  end_else_in_map q ne = ap (λ (x : ℕ). end_by hashes q x (slice_get slots (slot_of q (length slots)))) (map_else q ne)

-- what is filed stays so with a hash more behind the others
filed_push : (slots : List ℕ) (others : BTreeMap ℕ ℕ) (hashes : List ℕ) (h : ℕ) → AreFiled slots others hashes → AreFiled slots others (hashes ++ h ∷ [])
filed_push slots others hashes h filed = record {
  within = λ k place is n. (let m : length (hashes ++ h ∷ []) ≡ length hashes + 1 = length-append hashes (h ∷ []) in omega (arith, filed.within k place is n));
  slot_is = λ k place is n. ap (λ (x : ℕ). slot_of x (length slots)) (get_or_append_left hashes (h ∷ []) 0 place (filed.within k place is n)) ∙ filed.slot_is k place is n;
  not_both = λ k place is n. ap (map_end others) (get_or_append_left hashes (h ∷ []) 0 place (filed.within k place is n)) ∙ filed.not_both k place is n;
  free = filed.free;
}

module _ (slots : List ℕ) (others others' : BTreeMap ℕ ℕ) (hashes : List ℕ) (h : ℕ) (few : length hashes + 1 < gone) (filed : AreFiled slots others hashes)
    (closed : is_open hashes h (map_end others h) (slice_get slots (slot_of h (length slots))) ≡ false)
    (up : Updates nat_cmp others others' h (Some (length hashes + 1))) where
  map_here : map_end others' h ≡ length hashes + 1
  map_here = ap end_of up.1

  map_other : (q : ℕ) → q ≢ h → map_end others' q ≡ map_end others q
  map_other q ne = ap end_of (up.2 q (apart h q ne))

  not_there : (other : ℕ) → end_by hashes h other (slice_get slots (slot_of h (length slots))) ≡ other
  not_there other = closed_end hashes h (map_end others h) (slice_get slots (slot_of h (length slots))) (small_of hashes few) closed other

  stays : (q other : ℕ) → end_by (hashes ++ h ∷ []) q other (slice_get slots (slot_of q (length slots))) ≡ end_by hashes q other (slice_get slots (slot_of q (length slots)))
  stays q other = end_stays hashes h q other (slice_get slots (slot_of q (length slots))) few (λ place is n. filed.within (slot_of q (length slots)) place is n)

  -- it comes into the map
  pub noted_in_map : Noted slots others hashes h slots others'
  unfolding last_end
  noted_in_map = record {
    few = few;
    filed = filed_push slots others' hashes h (filed_in_map slots others others' hashes h (length hashes + 1) filed not_there map_other);
    here = stays h (map_end others' h) ∙ not_there (map_end others' h) ∙ map_here;
    rest = λ q ne. stays q (map_end others' q) ∙ end_else_in_map slots others others' hashes h (length hashes + 1) filed not_there map_other q ne;
  }

-- a hash has one end: the one that the slots and the map have
pub only_end : (slots : List ℕ) (others : BTreeMap ℕ ℕ) (befores hashes : List ℕ) (h end : ℕ) → IsLinked slots others befores hashes
    → end ≤ length hashes → EndsAt hashes h end → NoneFrom hashes h end (length hashes) → end ≡ last_end slots others hashes h
only_end slots others befores hashes h end k within found none =
    let last : ℕ = last_end slots others hashes h in
    ⊎_elim
    (λ (lt : end < last). absurd (none (last - 1) (omega arith) (omega (arith, k.links.last_in h)) (k.links.last_hash h (omega arith))))
    (λ (le : last ≤ end). ⊎_elim
    (λ (lt : last < end).
    let here : get_or hashes (end - 1) 0 ≡ h = found (omega arith) in
    let same : last_end slots others hashes (get_or hashes (end - 1) 0) ≡ last = ap (λ (x : ℕ). last_end slots others hashes x) here in
    absurd (omega (arith, same, k.links.last_above (end - 1) (omega arith))))
    (λ (le' : end ≤ last). omega arith)
    (cases_lt last end))
    (cases_lt end last)

-- the slots, the map and the links after a hash was added
pub IsLinked-push : (slots new_slots : List ℕ) (others new_others : BTreeMap ℕ ℕ) (befores hashes : List ℕ) (h : ℕ) → IsLinked slots others befores hashes
    → Noted slots others hashes h new_slots new_others → IsLinked new_slots new_others (befores ++ last_end slots others hashes h ∷ []) (hashes ++ h ∷ [])
IsLinked-push slots new_slots others new_others befores hashes h k noted =
    let m : length (hashes ++ h ∷ []) ≡ length hashes + 1 = length-append hashes (h ∷ []) in
    record {
      few = omega (arith, m, noted.few);
      count = length-append befores (last_end slots others hashes h ∷ []) ∙ ap (λ x. x + 1) k.count ∙ sym m;
      filed = noted.filed;
      links = rw m (Linked-push (length hashes) h (λ x. last_end slots others hashes x) _ _ (λ x. last_end new_slots new_others (hashes ++ h ∷ []) x)
          (λ i. get_or (befores ++ last_end slots others hashes h ∷ []) i 0) (λ i. get_or (hashes ++ h ∷ []) i 0) k.links
          noted.here
          noted.rest
          (get_or_push befores _ 0 (length hashes) k.count)
          (λ i lt. get_or_append_left befores _ 0 i (omega (arith, k.count)))
          (get_or_push hashes h 0 (length hashes) refl)
          (λ i lt. get_or_append_left hashes (h ∷ []) 0 i lt));
    }

-- the slots and the map with other values of the same content
pub linked_like : (slots new_slots : List ℕ) (others new_others : BTreeMap ℕ ℕ) (befores hashes : List ℕ) → IsLinked slots others befores hashes
    → new_slots ≡ slots → ((q : ℕ) → map_end new_others q ≡ map_end others q) → IsLinked new_slots new_others befores hashes
unfolding last_end
linked_like slots new_slots others new_others befores hashes k e same = subst (λ (xs : List ℕ). IsLinked xs new_others befores hashes) (sym e) (record {
  few = k.few;
  count = k.count;
  filed = record {
    within = k.filed.within;
    slot_is = k.filed.slot_is;
    not_both = λ slot place is n. same (get_or hashes place 0) ∙ k.filed.not_both slot place is n;
    free = λ q is. same q ∙ k.filed.free q is;
  };
  links = record {
    last_in = λ q. subst (λ (n : ℕ). n ≤ length hashes) (sym (last_same q)) (k.links.last_in q);
    last_hash = λ q l. ap (λ (n : ℕ). get_or hashes (n - 1) 0) (last_same q) ∙ k.links.last_hash q (subst (λ (n : ℕ). 0 < n) (last_same q) l);
    last_above = λ i l. subst (λ (n : ℕ). i < n) (sym (last_same (get_or hashes i 0))) (k.links.last_above i l);
    before_down = k.links.before_down;
    before_hash = k.links.before_hash;
    before_above = k.links.before_above;
  };
})
  where
    last_same : (q : ℕ) → end_by hashes q (map_end new_others q) (slice_get slots (slot_of q (length slots))) ≡ end_by hashes q (map_end others q) (slice_get slots (slot_of q (length slots)))
    last_same q = ap (λ (n : ℕ). end_by hashes q n (slice_get slots (slot_of q (length slots)))) (same q)

-- no hash, and each slot is free
none_last : (hashes : List ℕ) (q other : ℕ) (o : Option ℕ) → other ≡ 0 → ((end : ℕ) → o ≡ Some end → end ≡ 0) → end_by hashes q other o ≡ 0
none_last hashes q other None zero_other free = zero_other
none_last hashes q other (Some zero) zero_other free = refl
none_last hashes q other (Some (suc place)) zero_other free = absurd (let z : suc place ≡ 0 = free (suc place) refl in omega arith)

pub linked_begin : (slots : List ℕ) (others : BTreeMap ℕ ℕ) → AreFree slots → others.entries ≡ [] → IsLinked slots others [] []
unfolding last_end
linked_begin slots others free empty = record {
  few = omega arith;
  count = refl;
  filed = record {
    within = λ k place is n. absurd (omega (arith, free k (suc place) is));
    slot_is = λ k place is n. absurd (omega (arith, free k (suc place) is));
    not_both = λ k place is n. none (get_or [] place 0);
    free = λ q is. none q;
  };
  links = record {
    last_in = λ q. omega (arith, nothing q);
    last_hash = λ q l. absurd (omega (arith, nothing q));
    last_above = λ i l. absurd (omega arith);
    before_down = λ i l. absurd (omega arith);
    before_hash = λ i l p. absurd (omega arith);
    before_above = λ i j l lt e. absurd (omega arith);
  };
}
  where
    none : (q : ℕ) → map_end others q ≡ 0
    none q = ap (λ es. end_of (lookup (is_at (nat_cmp q)) es)) empty

    nothing : (q : ℕ) → end_by [] q (map_end others q) (slice_get slots (slot_of q (length slots))) ≡ 0
    nothing q = none_last [] q (map_end others q) (slice_get slots (slot_of q (length slots))) (none q) (λ e is. free (slot_of q (length slots)) e is)
