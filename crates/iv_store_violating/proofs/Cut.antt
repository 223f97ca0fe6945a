-- Flags after the last place was taken away.
use Rattle.std.proofs.Common.{◌≡◌, ◌≢◌, ℕ, ◌+◌, ◌-◌, ◌<◌, ◌≤◌, Bool, true, false, if◌then◌else◌, List, length, get_or, map, take, sym, ap, subst, ◌∙◌, ⊎_elim, arith}
use Rattle.std.specs.Bool.{nat_lt, ◌==◌}
use Rattle.std.proofs.lemmas.Bool.{cases_eq, cases_lt, eq-eqb, ne_eqb, le-ltb}
use Rattle.std.proofs.lemmas.List.{length-map, length-take-le, get_or-map, get_or-take, get_or_past}
use Rattle.iv_store_violating.specs.Flagging.{Paired, flag, flags}
use Rattle.iv_store_violating.proofs.Exchanges.{Exchanged}

-- ---- the flag of a place

flag_in : (flagged : ℕ) (position : List ℕ) (p : ℕ) → p < length position → flag (flags flagged position) p ≡ nat_lt (get_or position p 0) flagged
flag_in flagged position p l = get_or-map (λ x. nat_lt x flagged) position p 0 false l

flag_past : (flagged : ℕ) (position : List ℕ) (p : ℕ) → length position ≤ p → flag (flags flagged position) p ≡ false
flag_past flagged position p l = get_or_past (flags flagged position) p false (omega (arith, length-map position (λ x. nat_lt x flagged)))

-- ---- two positions that aren't flagged are exchanged

pub flags_exchanged : (order old new : List ℕ) (flagged from edge : ℕ) → Paired order old flagged → length new ≡ length old → from < length order → edge < length order
    → flagged ≤ from → flagged ≤ edge → Exchanged order old new from edge → (p : ℕ) → flag (flags flagged new) p ≡ flag (flags flagged old) p
flags_exchanged order old new flagged from edge paired len from_in edge_in low_from low_edge moved p = ⊎_elim
    (λ (l : p < length old). flag_in flagged new p (omega (arith, len)) ∙ ap (λ x. nat_lt x flagged) (moved p) ∙ inside l ∙ sym (flag_in flagged old p l))
    (λ (l : length old ≤ p). flag_past flagged new p (omega (arith, len)) ∙ sym (flag_past flagged old p l))
    (cases_lt p (length old))
  where
    at_edge : p ≡ get_or order edge 0 → nat_lt (get_or old p 0) flagged ≡ false
    at_edge e = le-ltb (get_or old p 0) flagged (omega (arith, ap (λ x. get_or old x 0) e ∙ paired.there edge edge_in))

    at_from : p ≡ get_or order from 0 → nat_lt (get_or old p 0) flagged ≡ false
    at_from e = le-ltb (get_or old p 0) flagged (omega (arith, ap (λ x. get_or old x 0) e ∙ paired.there from from_in))

    inside : p < length old → nat_lt (if p == get_or order edge 0 then from else (if p == get_or order from 0 then edge else get_or old p 0)) flagged ≡ nat_lt (get_or old p 0) flagged
    inside l = ⊎_elim
        (λ (e : p ≡ get_or order edge 0).
        ap (λ b. nat_lt (if b then from else (if p == get_or order from 0 then edge else get_or old p 0)) flagged) (eq-eqb p (get_or order edge 0) e)
        ∙ le-ltb from flagged low_from ∙ sym (at_edge e))
        (λ (n : p ≢ get_or order edge 0).
        ap (λ b. nat_lt (if b then from else (if p == get_or order from 0 then edge else get_or old p 0)) flagged) (ne_eqb p (get_or order edge 0) n) ∙ ⊎_elim
        (λ (e : p ≡ get_or order from 0). ap (λ b. nat_lt (if b then edge else get_or old p 0) flagged) (eq-eqb p (get_or order from 0) e) ∙ le-ltb edge flagged low_edge ∙ sym (at_from e))
        (λ (m : p ≢ get_or order from 0). ap (λ b. nat_lt (if b then edge else get_or old p 0) flagged) (ne_eqb p (get_or order from 0) m))
        (cases_eq p (get_or order from 0)))
        (cases_eq p (get_or order edge 0))

-- the place whose position it was is at the edge
pub last_at_edge : (order old new : List ℕ) (flagged from edge place : ℕ) → Paired order old flagged → place < length order → get_or old place 0 ≡ from → Exchanged order old new from edge
    → edge < length order → get_or new place 0 ≡ edge
last_at_edge order old new flagged from edge place paired within is moved edge_in =
    let here : get_or order from 0 ≡ place = ap (λ x. get_or order x 0) (sym is) ∙ paired.back place within in
    moved place ∙ ⊎_elim
    (λ (e : place ≡ get_or order edge 0).
    ap (λ b. if b then from else (if place == get_or order from 0 then edge else get_or old place 0)) (eq-eqb place (get_or order edge 0) e)
    ∙ sym is ∙ ap (λ x. get_or old x 0) e ∙ paired.there edge edge_in)
    (λ (n : place ≢ get_or order edge 0).
    ap (λ b. if b then from else (if place == get_or order from 0 then edge else get_or old place 0)) (ne_eqb place (get_or order edge 0) n)
    ∙ ap (λ b. if b then edge else get_or old place 0) (eq-eqb place (get_or order from 0) (sym here)))
    (cases_eq place (get_or order edge 0))

-- ---- the last place, at the last position, goes

module _ (order position : List ℕ) (flagged n : ℕ) (paired : Paired order position flagged) (len : length order ≡ n + 1) (is : get_or position n 0 ≡ n) (low : flagged ≤ n) where
  len_order : length (take n order) ≡ n
  len_order = length-take-le n order (omega arith)

  len_position : length (take n position) ≡ n
  len_position = length-take-le n position (omega (arith, paired.lengths))

  at_order : (i : ℕ) → i < n → get_or (take n order) i 0 ≡ get_or order i 0
  at_order i l = get_or-take n order i 0 l

  at_position : (i : ℕ) → i < n → get_or (take n position) i 0 ≡ get_or position i 0
  at_position i l = get_or-take n position i 0 l

  order_below : (i : ℕ) → i < n → get_or order i 0 < n
  order_below i l = ⊎_elim
      (λ (e : get_or order i 0 ≡ n). absurd (omega (arith, l, sym (paired.there i (omega arith)) ∙ ap (λ x. get_or position x 0) e ∙ is)))
      (λ (ne : get_or order i 0 ≢ n). omega (arith, paired.order_in i (omega arith)))
      (cases_eq (get_or order i 0) n)

  position_below : (p : ℕ) → p < n → get_or position p 0 < n
  position_below p l = ⊎_elim
      (λ (e : get_or position p 0 ≡ n). absurd (omega (arith, l, sym (paired.back p (omega arith)) ∙ ap (λ x. get_or order x 0) (e ∙ sym is) ∙ paired.back n (omega arith))))
      (λ (ne : get_or position p 0 ≢ n). omega (arith, paired.position_in p (omega arith)))
      (cases_eq (get_or position p 0) n)

  pub paired_less : Paired (take n order) (take n position) flagged
  paired_less = record {
    lengths = len_order ∙ sym len_position;
    within = subst (λ x. flagged ≤ x) (sym len_order) low;
    order_in = λ i l. (let s : i < n = omega (arith, len_order) in omega (arith, len_order, at_order i s, order_below i s));
    position_in = λ p l. (let s : p < n = omega (arith, len_order) in omega (arith, len_order, at_position p s, position_below p s));
    there = λ i l. (let s : i < n = omega (arith, len_order) in
        ap (λ x. get_or (take n position) x 0) (at_order i s) ∙ at_position (get_or order i 0) (order_below i s) ∙ paired.there i (omega arith));
    back = λ p l. (let s : p < n = omega (arith, len_order) in
        ap (λ x. get_or (take n order) x 0) (at_position p s) ∙ at_order (get_or position p 0) (position_below p s) ∙ paired.back p (omega arith));
  }

  pub flags_less : (p : ℕ) → flag (flags flagged (take n position)) p ≡ flag (flags flagged position) p
  flags_less p = ⊎_elim
      (λ (l : p < n). flag_in flagged (take n position) p (omega (arith, len_position)) ∙ ap (λ x. nat_lt x flagged) (at_position p l) ∙ sym (flag_in flagged position p (omega (arith, paired.lengths))))
      (λ (le : n ≤ p). flag_past flagged (take n position) p (omega (arith, len_position)) ∙ ⊎_elim
      (λ (e : p ≡ n). sym (flag_in flagged position p (omega (arith, paired.lengths)) ∙ le-ltb (get_or position p 0) flagged (omega (arith, ap (λ x. get_or position x 0) e ∙ is))))
      (λ (ne : p ≢ n). sym (flag_past flagged position p (omega (arith, paired.lengths))))
      (cases_eq p n))
      (cases_lt p n)
