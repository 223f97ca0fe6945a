-- The flagged places.
use Rattle.std.proofs.Common.{◌≡◌, ℕ, suc, ◌<◌, true, false, List, [], ◌∷◌, length, take, get_or, sym, ap, ◌∙◌, arith}
use Rattle.std.specs.Bool.{nat_lt}
use Rattle.std.proofs.lemmas.Bool.{ltb-true, lt-ltb, false_from_ne_true}
use Rattle.std.proofs.lemmas.List.{length-map, length-take-le, get_or-map, get_or-take}
use Rattle.iv_laws_levels.proofs.Keys.{same_test}
use Rattle.iv_laws_kept.specs.Numbers.{has}
use Rattle.iv_store_violating.specs.Flagging.{Paired, flags, flag, is_any, NoRepeats}
use Rattle.iv_store_violating.proofs.Flags.{has_at, at_has, flag_within, any_flag, flag_of_any}

-- numbers of which no two places have one
pub no_repeats : (xs : List ℕ) → ((i j : ℕ) → i < length xs → j < length xs → get_or xs i 0 ≡ get_or xs j 0 → i ≡ j) → NoRepeats xs
no_repeats [] h = tt
no_repeats (x ∷ xs) h = (
  false_from_ne_true (has x xs) (λ e.
      let at = at_has xs x e in
      let same : 0 ≡ suc at.place = h 0 (suc at.place) (omega arith) (omega (arith, at.within)) (sym at.is) in
      absurd (omega (arith, same))),
  no_repeats xs (λ i j a b e. let more : suc i ≡ suc j = h (suc i) (suc j) (omega (arith, a)) (omega (arith, b)) e in omega (arith, more)),
)

-- the flag of a place is set if its position is below the count
pub flag_is : (position : List ℕ) (flagged p : ℕ) → p < length position → flag (flags flagged position) p ≡ nat_lt (get_or position p 0) flagged
flag_is position flagged p l = get_or-map (λ q. nat_lt q flagged) position p 0 false l

pub placed : (position : List ℕ) (flagged p : ℕ) → flag (flags flagged position) p ≡ true → p < length position
placed position flagged p e = let l = flag_within (flags flagged position) p e in omega (arith, l, length-map position (λ q. nat_lt q flagged))

module _ (order position : List ℕ) (flagged : ℕ) (paired : Paired order position flagged) where
  count_is : length (take flagged order) ≡ flagged
  count_is = length-take-le flagged order paired.within

  at_front : (i : ℕ) → i < length (take flagged order) → get_or (take flagged order) i 0 ≡ get_or order i 0
  at_front i l = get_or-take flagged order i 0 (omega (arith, l, count_is))

  in_order : (i : ℕ) → i < length (take flagged order) → i < length order
  in_order i l = let few = paired.within in omega (arith, l, count_is, few)

  -- the flag of the place at a position
  flag_at : (i : ℕ) → i < length (take flagged order) → flag (flags flagged position) (get_or order i 0) ≡ true
  flag_at i l =
      let sized = paired.lengths in
      let small = paired.order_in i (in_order i l) in
      flag_is position flagged (get_or order i 0) (omega (arith, small, sized))
      ∙ ap (λ q. nat_lt q flagged) (paired.there i (in_order i l)) ∙ lt-ltb i flagged (omega (arith, l, count_is))

  pub members : (p : ℕ) → has p (take flagged order) ≡ flag (flags flagged position) p
  members p = same_test (has p (take flagged order)) (flag (flags flagged position) p)
      (λ e.
      let at = at_has (take flagged order) p e in
      ap (flag (flags flagged position)) (sym at.is ∙ at_front at.place at.within) ∙ flag_at at.place at.within)
      (λ e.
      let sized = paired.lengths in
      let l = placed position flagged p e in
      let less : get_or position p 0 < flagged = ltb-true (get_or position p 0) flagged (sym (flag_is position flagged p l) ∙ e) in
      let at : get_or position p 0 < length (take flagged order) = omega (arith, less, count_is) in
      ap (λ q. has q (take flagged order)) (sym (at_front (get_or position p 0) at ∙ paired.back p (omega (arith, l, sized)))) ∙ has_at (take flagged order) (get_or position p 0) at)

  pub each_once : NoRepeats (take flagged order)
  each_once = no_repeats (take flagged order) (λ i j a b e.
      sym (paired.there i (in_order i a)) ∙ ap (λ x. get_or position x 0) (sym (at_front i a) ∙ e ∙ at_front j b) ∙ paired.there j (in_order j b))

  -- a place is flagged if the count isn't 0
  pub any_by_count : nat_lt 0 flagged ≡ is_any (flags flagged position)
  any_by_count = same_test (nat_lt 0 flagged) (is_any (flags flagged position))
      (λ e. let few : 0 < flagged = ltb-true 0 flagged e in any_flag (flags flagged position) (get_or order 0 0) (flag_at 0 (omega (arith, few, count_is))))
      (λ e.
      let set = flag_of_any (flags flagged position) e in
      let l = placed position flagged set.place set.is in
      let less : get_or position set.place 0 < flagged = ltb-true (get_or position set.place 0) flagged (sym (flag_is position flagged set.place l) ∙ set.is) in
      lt-ltb 0 flagged (omega (arith, less)))
