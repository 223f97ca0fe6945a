-- Items that are placed in a list, and rows that have room.
use Rattle.std.proofs.Common.{◌≡◌, ℕ, zero, suc, ◌+◌, ◌-◌, ◌<◌, ◌≤◌, Bool, true, false, List, [], ◌∷◌, ◌++◌, Option, Some, None, length, take, drop, set, refl, sym, ap, ◌∙◌, arith, nat_le, if◌then◌else◌, append_assoc, length-append}
use Rattle.std.specs.List.{flat_map}
use Rattle.std.proofs.lemmas.Grind.{common_steps}
use Rattle.std.proofs.lemmas.List.{take-append-drop, drop-set-lt, length-set}
use Rattle.std.proofs.Math.Seq.{take-suc-set}
use Rattle.iv_value.specs.declared.value.Value.{Value}
use Rattle.iv_shown.specs.Cells.{fitting, placed, room_after, row_cells, row_text, text_of}

drop_twice : {A : Type 0} (m n : ℕ) (xs : List A) → drop m (drop n xs) ≡ drop (m + n) xs
drop_twice m n xs = grind (arith, common_steps)

pub placed_length : {A : Type 0} (old : List A) (at : ℕ) (xs : List A) → length (placed old at xs) ≡ length old
placed_length old at [] = refl
placed_length old at (x ∷ xs) = placed_length (set old at x) (suc at) xs ∙ length-set old at x

-- items and then more of them
pub placed_append : {A : Type 0} (old : List A) (at : ℕ) (xs ys : List A) → placed (placed old at xs) (at + length xs) ys ≡ placed old at (xs ++ ys)
placed_append old at [] ys = ap (λ k. placed old k ys) (omega arith)
placed_append old at (x ∷ xs) ys =
    ap (λ k. placed (placed (set old at x) (suc at) xs) k ys) (omega arith) ∙ placed_append (set old at x) (suc at) xs ys

-- what is before the place and what is behind the items stays
pub placed_between : {A : Type 0} (old : List A) (at : ℕ) (xs : List A) → at + length xs ≤ length old
    → take at old ++ (xs ++ drop (length xs) (drop at old)) ≡ placed old at xs
placed_between old at [] within = take-append-drop at old
placed_between old at (x ∷ xs) within =
    let less : at < length old = omega (arith, within) in
    let rest : suc at + length xs ≤ length (set old at x) = omega (arith, within, length-set old at x) in
    let behind : drop (suc (length xs)) (drop at old) ≡ drop (length xs) (drop (suc at) (set old at x)) =
    drop_twice (suc (length xs)) at old ∙ ap (λ k. drop k old) (omega arith) ∙ sym (drop_twice (length xs) (suc at) old)
    ∙ ap (drop (length xs)) (sym (drop-set-lt (suc at) old at x (omega arith))) in
    ap (λ l. take at old ++ (x ∷ (xs ++ l))) behind
    ∙ sym (append_assoc (take at old) (x ∷ []) (xs ++ drop (length xs) (drop (suc at) (set old at x))))
    ∙ ap (λ l. l ++ (xs ++ drop (length xs) (drop (suc at) (set old at x)))) (sym (take-suc-set old at x less))
    ∙ placed_between (set old at x) (suc at) xs rest

-- the room that is left is what the texts leave
pub room_is : (values : List Value) (room left : ℕ) → room_after room values ≡ Some left → left + length (row_text values) ≡ room
room_is [] room left e = let same : room ≡ left = some_same room left e in omega (arith, same) where
  some_same : (a b : ℕ) → ◌≡◌ {A = Option ℕ} (Some a) (Some b) → a ≡ b
  some_same a b e = ap (λ (o : Option ℕ). elim o [ Some n ↦ n | None ↦ a ]) e
room_is (v ∷ vs) room left e = by (nat_le (length (text_of v)) room) refl (room_is vs (room - length (text_of v)) left) e where
  by : (b : Bool) → nat_le (length (text_of v)) room ≡ b
      → (room_after (room - length (text_of v)) vs ≡ Some left → left + length (row_text vs) ≡ room - length (text_of v))
      → (if b then room_after (room - length (text_of v)) vs else None) ≡ Some left → left + length (row_text (v ∷ vs)) ≡ room
  by true fits ih e =
      let rest : left + length (row_text vs) ≡ room - length (text_of v) = ih e in
      let whole : length (row_text (v ∷ vs)) ≡ length (text_of v) + length (row_text vs) = length-append (text_of v) (row_text vs) in
      let within : length (text_of v) ≤ room = grind (arith, fits) in
      omega (arith, rest, whole, within)
  by false fits ih e = absurd (none_some left e) where
    none_some : (a : ℕ) → ◌≡◌ {A = Option ℕ} None (Some a) → ⊥
    none_some a e = let bad = e in cc

-- ---- one row more

-- a row for which there is room is one more
pub fitting_more : (cells bytes left : ℕ) (row : List Value) (rows : List (List Value)) → length row ≤ cells → room_after bytes row ≡ Some left
    → fitting cells bytes (row ∷ rows) ≡ suc (fitting (cells - length row) left rows)
fitting_more cells bytes left row rows fits room =
    let few : nat_le (length row) cells ≡ true = grind (arith, fits) in
    ap (λ (b : Bool). if b then elim (room_after bytes row) [ Some left ↦ suc (fitting (cells - length row) left rows) | None ↦ 0 ] else 0) few
    ∙ ap (λ (o : Option ℕ). elim o [ Some left ↦ suc (fitting (cells - length row) left rows) | None ↦ 0 ]) room

-- so of the first of the rows that are left
pub fitting_next : (cells bytes left : ℕ) (row : List Value) (rest others : List (List Value)) → rest ≡ row ∷ others → length row ≤ cells → room_after bytes row ≡ Some left
    → fitting cells bytes rest ≡ suc (fitting (cells - length row) left others)
fitting_next cells bytes left row rest others e fits room = ap (fitting cells bytes) e ∙ fitting_more cells bytes left row others fits room

-- where a row has no room, no row is copied
pub fitting_few : (cells bytes : ℕ) (row : List Value) (rest others : List (List Value)) → rest ≡ row ∷ others → cells < length row → fitting cells bytes rest ≡ 0
fitting_few cells bytes row rest others e more =
    let few : nat_le (length row) cells ≡ false = grind (arith, more) in
    ap (fitting cells bytes) e
    ∙ ap (λ (b : Bool). if b then elim (room_after bytes row) [ Some left ↦ suc (fitting (cells - length row) left others) | None ↦ 0 ] else 0) few

pub fitting_none : (cells bytes : ℕ) (row : List Value) (rest others : List (List Value)) → rest ≡ row ∷ others → length row ≤ cells → room_after bytes row ≡ None → fitting cells bytes rest ≡ 0
fitting_none cells bytes row rest others e fits room =
    let few : nat_le (length row) cells ≡ true = grind (arith, fits) in
    ap (fitting cells bytes) e
    ∙ ap (λ (b : Bool). if b then elim (room_after bytes row) [ Some left ↦ suc (fitting (cells - length row) left others) | None ↦ 0 ] else 0) few
    ∙ ap (λ (o : Option ℕ). elim o [ Some left ↦ suc (fitting (cells - length row) left others) | None ↦ 0 ]) room

-- What a function of rows gives for those that are left is placed, after what it gives for the first.
pub onward : {A : Type 0} (f : List Value → List A) (old new whole : List A) (at next : ℕ) (row values : List Value) (rest others : List (List Value)) (fit m k : ℕ)
    → new ≡ placed old at (f values) → values ≡ row → rest ≡ row ∷ others → next ≡ at + length (f values) → fit ≡ suc m → k ≡ m
    → placed old at (flat_map f (take fit rest)) ≡ whole → placed new next (flat_map f (take k others)) ≡ whole
onward f old new whole at next row values rest others fit m k is same e place more few so_far =
    ap (λ n. placed new n (flat_map f (take k others))) place
    ∙ ap (λ b. placed b (at + length (f values)) (flat_map f (take k others))) is
    ∙ placed_append old at (f values) (flat_map f (take k others))
    ∙ ap (λ v. placed old at (f v ++ flat_map f (take k others))) same
    ∙ ap (λ n. placed old at (f row ++ flat_map f (take n others))) few
    ∙ ap (λ n. placed old at (flat_map f (take n (row ∷ others)))) (sym more)
    ∙ ap (λ l. placed old at (flat_map f (take fit l))) (sym e)
    ∙ so_far

pub onward_length : (f : List Value → List ℕ) (whole at next : ℕ) (row values : List Value) (rest others : List (List Value)) (fit m k : ℕ)
    → values ≡ row → rest ≡ row ∷ others → next ≡ at + length (f values) → fit ≡ suc m → k ≡ m
    → at + length (flat_map f (take fit rest)) ≡ whole → next + length (flat_map f (take k others)) ≡ whole
onward_length f whole at next row values rest others fit m k same e place more few so_far =
    let long : length (flat_map f (take fit rest)) ≡ length (f values) + length (flat_map f (take k others)) =
    ap (λ l. length (flat_map f (take fit l))) e ∙ ap (λ n. length (flat_map f (take n (row ∷ others)))) more
    ∙ length-append (f row) (flat_map f (take m others))
    ∙ ap (λ v. length (f v) + length (flat_map f (take m others))) (sym same)
    ∙ ap (λ n. length (f values) + length (flat_map f (take n others))) (sym few) in
    omega (arith, long, place, so_far)
