-- Flags after two places were exchanged.
use Rattle.std.proofs.Common.{◌≡◌, ◌≢◌, refl, ℕ, ◌+◌, ◌-◌, ◌<◌, ◌≤◌, Bool, true, false, if◌then◌else◌, List, length, get_or, slice_set, sym, ap, subst, ◌∙◌, ⊎_elim, inl, inr, ◌⊎◌, arith}
use Rattle.std.specs.Bool.{nat_lt, ◌==◌}
use Rattle.std.proofs.lemmas.Bool.{cases_eq, cases_lt, eq-eqb, ne_eqb, lt-ltb, le-ltb}
use Rattle.std.proofs.lemmas.List.{ext_get_or, length-map, length-set, get_or-set_same, get_or-set_other, get_or-map}
use Rattle.std.proofs.lemmas.Grind.{get_or_default_zero}
use Rattle.iv_store_violating.specs.Flagging.{Paired, flags, with_flag}

-- ---- flags that differ at one place at most

-- flags that are as before but at one place
pub one_differs : (old new : List ℕ) (flagged after place : ℕ) (raised : Bool) → length new ≡ length old → place < length old
    → nat_lt (get_or new place 0) after ≡ raised
    → ((p : ℕ) → p < length old → p ≢ place → nat_lt (get_or new p 0) after ≡ nat_lt (get_or old p 0) flagged)
    → flags after new ≡ with_flag (flags flagged old) place raised
one_differs old new flagged after place raised len within here others =
    ext_get_or false (flags after new) (with_flag (flags flagged old) place raised)
    (length-map new (λ p. nat_lt p after) ∙ len ∙ sym (length-map old (λ p. nat_lt p flagged)) ∙ sym (length-set (flags flagged old) place raised))
    (λ p less.
    let in_new : p < length new = omega (arith, length-map new (λ p. nat_lt p after)) in
    let in_old : p < length old = omega arith in
    get_or-map (λ p. nat_lt p after) new p 0 false in_new
    ∙ ⊎_elim
    (λ (e : p ≡ place). ap (λ q. nat_lt (get_or new q 0) after) e ∙ here ∙ sym (get_or-set_same (flags flagged old) place raised false in_flags) ∙ ap (λ q. get_or (with_flag (flags flagged old) place raised) q false) (sym e))
    (λ (e : p ≢ place). others p in_old e ∙ sym (get_or-map (λ p. nat_lt p flagged) old p 0 false in_old) ∙ sym (get_or-set_other (flags flagged old) place p raised false e))
    (cases_eq p place))
  where
    in_flags : place < length (flags flagged old)
    in_flags = omega (arith, length-map old (λ p. nat_lt p flagged))

-- a place that has its flag already
pub none_differs : (old : List ℕ) (flagged place : ℕ) (raised : Bool) → place < length old → nat_lt (get_or old place 0) flagged ≡ raised → flags flagged old ≡ with_flag (flags flagged old) place raised
none_differs old flagged place raised within here = one_differs old old flagged flagged place raised refl within here (λ p less e. refl)

-- ---- an exchange

-- Where each place is after the places at two positions were exchanged.
abbrev pub Exchanged : (order old new : List ℕ) (from edge : ℕ) → Type 0
Exchanged order old new from edge = (p : ℕ) → get_or new p 0 ≡ (if p == get_or order edge 0 then from else (if p == get_or order from 0 then edge else get_or old p 0))

-- Another place is at the position that it had, which isn't the edge, or it was at the edge and now is where the place was.
record Elsewhere (old new : List ℕ) (place edge p : ℕ) : Type 0 where
  at : ((get_or new p 0 ≡ get_or old p 0) × (get_or old p 0 ≢ edge)) ⊎ ((get_or new p 0 ≡ get_or old place 0) × (get_or old p 0 ≡ edge) × (get_or old place 0 ≢ edge))

module _ (order old new : List ℕ) (flagged place edge : ℕ) (paired : Paired order old flagged) (within : place < length old) (edge_in : edge < length order) (moved : Exchanged order old new (get_or old place 0) edge) where
  in_order : (p : ℕ) → p < length old → p < length order
  in_order p less = let e = paired.lengths in omega (arith, e)

  back : (p : ℕ) → p < length old → get_or order (get_or old p 0) 0 ≡ p
  back p less = paired.back p (in_order p less)

  -- the place is at the edge
  at_edge : get_or new place 0 ≡ edge
  at_edge = moved place ∙ ⊎_elim
      (λ (e : place ≡ get_or order edge 0).
      ap (λ b. if b then get_or old place 0 else (if place == get_or order (get_or old place 0) 0 then edge else get_or old place 0)) (eq-eqb place (get_or order edge 0) e)
      ∙ ap (λ x. get_or old x 0) e ∙ paired.there edge edge_in)
      (λ (e : place ≢ get_or order edge 0).
      ap (λ b. if b then get_or old place 0 else (if place == get_or order (get_or old place 0) 0 then edge else get_or old place 0)) (ne_eqb place (get_or order edge 0) e)
      ∙ ap (λ b. if b then edge else get_or old place 0) (eq-eqb place (get_or order (get_or old place 0) 0) (sym (back place within))))
      (cases_eq place (get_or order edge 0))

  elsewhere : (p : ℕ) → p < length old → p ≢ place → Elsewhere old new place edge p
  elsewhere p less ne = ⊎_elim
      (λ (e : p ≡ get_or order edge 0). record {
        at = inr (
          moved p ∙ ap (λ b. if b then get_or old place 0 else (if p == get_or order (get_or old place 0) 0 then edge else get_or old p 0)) (eq-eqb p (get_or order edge 0) e),
          ap (λ x. get_or old x 0) e ∙ paired.there edge edge_in,
          λ f. ne (e ∙ ap (λ x. get_or order x 0) (sym f) ∙ back place within),
        );
      })
      (λ (e : p ≢ get_or order edge 0). record {
        at = inl (
          moved p
              ∙ ap (λ b. if b then get_or old place 0 else (if p == get_or order (get_or old place 0) 0 then edge else get_or old p 0)) (ne_eqb p (get_or order edge 0) e)
              ∙ ap (λ b. if b then edge else get_or old p 0) (ne_eqb p (get_or order (get_or old place 0) 0) (λ f. ne (f ∙ back place within))),
          λ f. e (sym (back p less) ∙ ap (λ x. get_or order x 0) f),
        );
      })
      (cases_eq p (get_or order edge 0))

-- the edge is the first position that isn't flagged
pub flagged_more : (order old new : List ℕ) (flagged place : ℕ) → Paired order old flagged → length new ≡ length old → place < length old → flagged ≤ get_or old place 0
    → Exchanged order old new (get_or old place 0) flagged → flags (flagged + 1) new ≡ with_flag (flags flagged old) place true
flagged_more order old new flagged place paired len within low moved =
    one_differs old new flagged (flagged + 1) place true len within (ap (λ x. nat_lt x (flagged + 1)) (at_edge order old new flagged place flagged paired within edge_in moved) ∙ lt-ltb flagged (flagged + 1) (omega arith))
    (λ p less ne. there p (elsewhere order old new flagged place flagged paired within edge_in moved p less ne))
  where
    edge_in : flagged < length order
    edge_in = let e = paired.lengths in let small = paired.position_in place (omega (arith, e)) in omega (arith, low, small)

    there : (p : ℕ) → Elsewhere old new place flagged p → nat_lt (get_or new p 0) (flagged + 1) ≡ nat_lt (get_or old p 0) flagged
    there p e = ⊎_elim
        (λ stays. ap (λ x. nat_lt x (flagged + 1)) stays.0 ∙ ⊎_elim
        (λ (l : get_or old p 0 < flagged). lt-ltb (get_or old p 0) (flagged + 1) (omega (arith, l)) ∙ sym (lt-ltb (get_or old p 0) flagged l))
        (λ (l : flagged ≤ get_or old p 0). le-ltb (get_or old p 0) (flagged + 1) (omega (arith, l, stays.1)) ∙ sym (le-ltb (get_or old p 0) flagged l))
        (cases_lt (get_or old p 0) flagged))
        (λ goes. ap (λ x. nat_lt x (flagged + 1)) goes.0 ∙ le-ltb (get_or old place 0) (flagged + 1) (omega (arith, low, goes.2)) ∙ sym (le-ltb (get_or old p 0) flagged (omega (arith, goes.1))))
        e.at

-- the edge is the last position that is flagged
pub flagged_less : (order old new : List ℕ) (flagged place : ℕ) → Paired order old flagged → length new ≡ length old → place < length old → get_or old place 0 < flagged
    → Exchanged order old new (get_or old place 0) (flagged - 1) → flags (flagged - 1) new ≡ with_flag (flags flagged old) place false
flagged_less order old new flagged place paired len within low moved =
    one_differs old new flagged (flagged - 1) place false len within (ap (λ x. nat_lt x (flagged - 1)) (at_edge order old new flagged place (flagged - 1) paired within edge_in moved) ∙ le-ltb (flagged - 1) (flagged - 1) (omega arith))
    (λ p less ne. there p (elsewhere order old new flagged place (flagged - 1) paired within edge_in moved p less ne))
  where
    edge_in : flagged - 1 < length order
    edge_in = let few = paired.within in omega (arith, low, few)

    there : (p : ℕ) → Elsewhere old new place (flagged - 1) p → nat_lt (get_or new p 0) (flagged - 1) ≡ nat_lt (get_or old p 0) flagged
    there p e = ⊎_elim
        (λ stays. ap (λ x. nat_lt x (flagged - 1)) stays.0 ∙ ⊎_elim
        (λ (l : get_or old p 0 < flagged). lt-ltb (get_or old p 0) (flagged - 1) (omega (arith, l, stays.1)) ∙ sym (lt-ltb (get_or old p 0) flagged l))
        (λ (l : flagged ≤ get_or old p 0). le-ltb (get_or old p 0) (flagged - 1) (omega (arith, l)) ∙ sym (le-ltb (get_or old p 0) flagged l))
        (cases_lt (get_or old p 0) flagged))
        (λ goes. ap (λ x. nat_lt x (flagged - 1)) goes.0 ∙ lt-ltb (get_or old place 0) (flagged - 1) (omega (arith, low, goes.2)) ∙ sym (lt-ltb (get_or old p 0) flagged (omega (arith, low, goes.1))))
        e.at

-- another number of flagged places
pub with_flagged : (order position : List ℕ) (flagged after : ℕ) → Paired order position flagged → after ≤ length order → Paired order position after
with_flagged order position flagged after p few = record { lengths = p.lengths; within = few; order_in = p.order_in; position_in = p.position_in; there = p.there; back = p.back }

-- the position of a place
pub position_known : (order position : List ℕ) (flagged place at : ℕ) → Paired order position flagged → place < length position → at ≡ get_or position place 0 → at < length order
position_known order position flagged place at p within e = subst (λ n. n < length order) (sym e) (p.position_in place (subst (λ n. place < n) (sym p.lengths) within))

-- ---- what code reads

pub within_flags : (position : List ℕ) (flagged place : ℕ) (now : List Bool) → flags flagged position ≡ now → place < length now → place < length position
within_flags position flagged place now e h = omega (arith, h, ap length e, length-map position (λ p. nat_lt p flagged))

pub read_zero : (xs : List ℕ) (i x : ℕ) → i < length xs → x ≡ get_or xs i x → x ≡ get_or xs i 0
read_zero xs i x h e = e ∙ get_or_default_zero xs i x h

-- ---- an exchange of two positions

-- a function with other values at two numbers
abbrev put : (ℕ → ℕ) → ℕ → ℕ → ℕ → ℕ → ℕ → ℕ
put f j a i b x = if x == j then a else (if x == i then b else f x)

put_first : (f : ℕ → ℕ) (j a i b x : ℕ) → x ≡ j → put f j a i b x ≡ a
put_first f j a i b x e = ap (λ t. if t then a else (if x == i then b else f x)) (eq-eqb x j e)

put_second : (f : ℕ → ℕ) (j a i b x : ℕ) → x ≢ j → x ≡ i → put f j a i b x ≡ b
put_second f j a i b x n e = ap (λ t. if t then a else (if x == i then b else f x)) (ne_eqb x j n) ∙ ap (λ t. if t then b else f x) (eq-eqb x i e)

put_none : (f : ℕ → ℕ) (j a i b x : ℕ) → x ≢ j → x ≢ i → put f j a i b x ≡ f x
put_none f j a i b x n m = ap (λ t. if t then a else (if x == i then b else f x)) (ne_eqb x j n) ∙ ap (λ t. if t then b else f x) (ne_eqb x i m)

put_in : (f : ℕ → ℕ) (j a i b x n : ℕ) → a < n → b < n → f x < n → put f j a i b x < n
put_in f j a i b x n a_in b_in f_in =
    elim (x == j) as (λ t. (if t then a else (if x == i then b else f x)) < n) [
      | true ↦ a_in
      | false ↦ elim (x == i) as (λ t. (if t then b else f x) < n) [ true ↦ b_in | false ↦ f_in ]
    ]

-- two inverse functions after the exchange
swapped : (f g : ℕ → ℕ) (i j a b x : ℕ) → g a ≡ i → g b ≡ j → g (f x) ≡ x → put g b i a j (put f j a i b x) ≡ x
swapped f g i j a b x at_a at_b at_x = ⊎_elim
    (λ (e : x ≡ j). ap (put g b i a j) (put_first f j a i b x e) ∙ ⊎_elim
    (λ (same : a ≡ b). put_first g b i a j a same ∙ sym at_a ∙ ap g same ∙ at_b ∙ sym e)
    (λ (differ : a ≢ b). put_second g b i a j a differ refl ∙ sym e)
    (cases_eq a b))
    (λ (n : x ≢ j). ⊎_elim
    (λ (e : x ≡ i). ap (put g b i a j) (put_second f j a i b x n e) ∙ put_first g b i a j b refl ∙ sym e)
    (λ (m : x ≢ i). ap (put g b i a j) (put_none f j a i b x n m)
    ∙ put_none g b i a j (f x) (λ e. n (sym at_x ∙ ap g e ∙ at_b)) (λ e. m (sym at_x ∙ ap g e ∙ at_a))
    ∙ at_x)
    (cases_eq x i))
    (cases_eq x j)

at_one : (xs : List ℕ) (i v p : ℕ) → i < length xs → get_or (slice_set xs i v) p 0 ≡ (if p == i then v else get_or xs p 0)
at_one xs i v p within = ⊎_elim
    (λ (e : p ≡ i). ap (λ q. get_or (slice_set xs i v) q 0) e ∙ get_or-set_same xs i v 0 within ∙ ap (λ t. if t then v else get_or xs p 0) (sym (eq-eqb p i e)))
    (λ (e : p ≢ i). get_or-set_other xs i p v 0 e ∙ ap (λ t. if t then v else get_or xs p 0) (sym (ne_eqb p i e)))
    (cases_eq p i)

at_two : (xs : List ℕ) (i v j w p : ℕ) → i < length xs → j < length xs → get_or (slice_set (slice_set xs i v) j w) p 0 ≡ put (λ q. get_or xs q 0) j w i v p
at_two xs i v j w p i_in j_in = at_one (slice_set xs i v) j w p (omega (arith, j_in, length-set xs i v)) ∙ ap (λ n. if p == j then w else n) (at_one xs i v p i_in)

module _ (order position : List ℕ) (flagged i j one other : ℕ) (paired : Paired order position flagged) (i_in : i < length order) (j_in : j < length order)
    (is_one : one ≡ get_or order i 0) (is_other : other ≡ get_or order j 0) where
  abbrev ordered : List ℕ
  ordered = slice_set (slice_set order i other) j one

  abbrev placed : List ℕ
  placed = slice_set (slice_set position one j) other i

  same_order : length ordered ≡ length order
  same_order = length-set (slice_set order i other) j one ∙ length-set order i other

  same_position : length placed ≡ length position
  same_position = length-set (slice_set position one j) other i ∙ length-set position one j

  one_in : one < length order
  one_in = subst (λ n. n < length order) (sym is_one) (paired.order_in i i_in)

  other_in : other < length order
  other_in = subst (λ n. n < length order) (sym is_other) (paired.order_in j j_in)

  in_position : (p : ℕ) → p < length order → p < length position
  in_position p h = subst (λ n. p < n) paired.lengths h

  at_order : (p : ℕ) → get_or ordered p 0 ≡ put (λ q. get_or order q 0) j one i other p
  at_order p = at_two order i other j one p i_in j_in

  at_position : (p : ℕ) → get_or placed p 0 ≡ put (λ q. get_or position q 0) other i one j p
  at_position p = at_two position one j other i p (in_position one one_in) (in_position other other_in)

  of_one : get_or position one 0 ≡ i
  of_one = ap (λ n. get_or position n 0) is_one ∙ paired.there i i_in

  of_other : get_or position other 0 ≡ j
  of_other = ap (λ n. get_or position n 0) is_other ∙ paired.there j j_in

  before : (p : ℕ) → p < length ordered → p < length order
  before p h = subst (λ n. p < n) same_order h

  after : (p : ℕ) → p < length order → p < length ordered
  after p h = subst (λ n. p < n) (sym same_order) h

  pub exchanged : Paired ordered placed flagged
  exchanged = record {
    lengths = same_order ∙ paired.lengths ∙ sym same_position;
    within = subst (λ n. flagged ≤ n) (sym same_order) paired.within;
    order_in = λ p h. after (get_or ordered p 0) (subst (λ n. n < length order) (sym (at_order p)) (put_in (λ q. get_or order q 0) j one i other p (length order) one_in other_in (paired.order_in p (before p h))));
    position_in = λ p h. after (get_or placed p 0) (subst (λ n. n < length order) (sym (at_position p)) (put_in (λ q. get_or position q 0) other i one j p (length order) i_in j_in (paired.position_in p (before p h))));
    there = λ p h.
        at_position (get_or ordered p 0) ∙ ap (put (λ q. get_or position q 0) other i one j) (at_order p)
        ∙ swapped (λ q. get_or order q 0) (λ q. get_or position q 0) i j one other p of_one of_other (paired.there p (before p h));
    back = λ p h.
        at_order (get_or placed p 0) ∙ ap (put (λ q. get_or order q 0) j one i other) (at_position p)
        ∙ swapped (λ q. get_or position q 0) (λ q. get_or order q 0) one other i j p (sym is_one) (sym is_other) (paired.back p (before p h));
  }

  pub exchanged_positions : (p : ℕ) → get_or placed p 0 ≡ (if p == get_or order j 0 then i else (if p == get_or order i 0 then j else get_or position p 0))
  exchanged_positions p =
      at_position p
      ∙ ap (λ b. if p == b then i else (if p == one then j else get_or position p 0)) is_other
      ∙ ap (λ a. if p == get_or order j 0 then i else (if p == a then j else get_or position p 0)) is_one
