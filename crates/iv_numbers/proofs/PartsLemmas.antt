-- What stands in two parts of a list of places after a move, a write and a change of their ends.
use Rattle.std.specs.Prelude.{slice_range}
use Rattle.std.proofs.Common.{◌≡◌, ◌≢◌, ℕ, ◌+◌, ◌-◌, ◌<◌, ◌≤◌, List, ◌++◌, length, insert, remove, get_or, set, take, drop, arith, ap, sym, ◌∙◌, ⊎_elim, length-take, length-drop, length-append}
use Rattle.std.proofs.lemmas.Bool.{cases_lt, cases_eq}
use Rattle.std.proofs.lemmas.List.{append-nil, get_or-take, get_or-drop, ext_get_or, get_or-set_same, get_or-set_other, length-set, get_or_append_left, get_or-append_right}
use Rattle.std.proofs.lemmas.List.Edits.{length-insert, length-remove, get_or-insert_below, get_or-insert_at, get_or-insert_above, get_or-remove_below, get_or-remove_above}
use Rattle.iv_numbers.specs.declared.gap_layout.GapLayout.{GapLayout}
use Rattle.iv_numbers.specs.GapLayout.{AreWithin, held, size}

get_or-range : (xs : List ℕ) (i j k : ℕ) → k < j - i → get_or (slice_range xs i j) k 0 ≡ get_or xs (i + k) 0
get_or-range xs i j k h = get_or-take (j - i) (drop i xs) k 0 h ∙ get_or-drop i xs k 0

pub length-range : (xs : List ℕ) (i j : ℕ) → i ≤ j → j ≤ length xs → length (slice_range xs i j) ≡ j - i
length-range xs i j h g = let a = length-take (j - i) (drop i xs) in let b = length-drop i xs in omega arith

-- how many numbers the two parts hold
pub length-held : (xs : List ℕ) (p : GapLayout) → AreWithin p (length xs) → length (held xs p) ≡ size p
length-held xs p w =
    let f = length-range xs p.start p.gap_start w.front (omega (arith, w.gap, w.back, w.within)) in
    let b = length-range xs p.gap_end p.end w.back w.within in
    let a = length-append (slice_range xs p.start p.gap_start) (slice_range xs p.gap_end p.end) in
    omega arith

-- a number of the front, by its place
front_at : (xs : List ℕ) (p : GapLayout) (k i : ℕ) → AreWithin p (length xs) → k < p.gap_start - p.start → i ≡ p.start + k → get_or (held xs p) k 0 ≡ get_or xs i 0
front_at xs p k i w lt e =
    let f = length-range xs p.start p.gap_start w.front (omega (arith, w.gap, w.back, w.within)) in
    get_or_append_left (slice_range xs p.start p.gap_start) (slice_range xs p.gap_end p.end) 0 k (omega arith)
    ∙ get_or-range xs p.start p.gap_start k lt ∙ ap (λ (x : ℕ). get_or xs x 0) (sym e)

-- a number of the back, by its place
back_at : (xs : List ℕ) (p : GapLayout) (k i : ℕ) → AreWithin p (length xs) → p.gap_start - p.start ≤ k → k < size p → i + (p.gap_start - p.start) ≡ p.gap_end + k → get_or (held xs p) k 0 ≡ get_or xs i 0
back_at xs p k i w le lt e =
    let left : ℕ = p.gap_start - p.start in
    let f = length-range xs p.start p.gap_start w.front (omega (arith, w.gap, w.back, w.within)) in
    let q : p.gap_end + (k - left) ≡ i = omega arith in
    get_or-append_right (slice_range xs p.start p.gap_start) (slice_range xs p.gap_end p.end) left k 0 f le
    ∙ get_or-range xs p.gap_end p.end (k - left) (omega arith) ∙ ap (λ (x : ℕ). get_or xs x 0) q

-- two parts that hold what others held, number by number
same_held : (xs ys : List ℕ) (p q : GapLayout) → AreWithin p (length xs) → AreWithin q (length ys) → size q ≡ size p
    → ((k : ℕ) → k < size p → get_or (held ys q) k 0 ≡ get_or (held xs p) k 0) → held ys q ≡ held xs p
same_held xs ys p q w w' e each =
    let n = length-held xs p w in
    let m = length-held ys q w' in
    ext_get_or 0 (held ys q) (held xs p) (omega arith) (λ k h. each k (omega arith))

-- the gap was moved to the front: what stood between its new place and its old one stands behind it
pub gap_moved_down : (xs ys : List ℕ) (p q : GapLayout) (at : ℕ) → AreWithin p (length xs) → AreWithin q (length ys) → at < p.gap_start - p.start
    → q.start ≡ p.start → q.gap_start ≡ p.start + at → q.gap_end ≡ q.gap_start + (p.gap_end - p.gap_start) → q.end ≡ p.end
    → ((k : ℕ) (d : ℕ) → q.gap_end ≤ k → k < q.gap_end + (p.gap_start - q.gap_start) → get_or ys k d ≡ get_or xs (q.gap_start + (k - q.gap_end)) d)
    → ((k : ℕ) (d : ℕ) → k < q.gap_end → get_or ys k d ≡ get_or xs k d)
    → ((k : ℕ) (d : ℕ) → q.gap_end + (p.gap_start - q.gap_start) ≤ k → get_or ys k d ≡ get_or xs k d)
    → held ys q ≡ held xs p
gap_moved_down xs ys p q at w w' less s g h e moved below above =
    let front = w.front in let gap = w.gap in let back = w.back in
    same_held xs ys p q w w' (omega arith) (λ k lt. ⊎_elim
    (λ (a : k < at). front_at ys q k (p.start + k) w' (omega arith) (omega arith) ∙ below (p.start + k) 0 (omega arith) ∙ sym (front_at xs p k (p.start + k) w (omega arith) (omega arith)))
    (λ (a : at ≤ k). let i : ℕ = q.gap_end + (k - at) in
    back_at ys q k i w' (omega arith) (omega arith) (omega arith) ∙ ⊎_elim
    (λ (b : k < p.gap_start - p.start). moved i 0 (omega arith) (omega arith) ∙ sym (front_at xs p k (q.gap_start + (i - q.gap_end)) w b (omega arith)))
    (λ (b : p.gap_start - p.start ≤ k). above i 0 (omega arith) ∙ sym (back_at xs p k i w b lt (omega arith)))
    (cases_lt k (p.gap_start - p.start)))
    (cases_lt k at))

-- the gap was moved to the end: what stood between its old place and its new one stands before it
pub gap_moved_up : (xs ys : List ℕ) (p q : GapLayout) (at : ℕ) → AreWithin p (length xs) → AreWithin q (length ys) → p.gap_start - p.start ≤ at → at ≤ size p
    → q.start ≡ p.start → q.gap_start ≡ p.start + at → q.gap_end ≡ q.gap_start + (p.gap_end - p.gap_start) → q.end ≡ p.end
    → ((k : ℕ) (d : ℕ) → p.gap_start ≤ k → k < p.gap_start + (q.gap_end - p.gap_end) → get_or ys k d ≡ get_or xs (p.gap_end + (k - p.gap_start)) d)
    → ((k : ℕ) (d : ℕ) → k < p.gap_start → get_or ys k d ≡ get_or xs k d)
    → ((k : ℕ) (d : ℕ) → p.gap_start + (q.gap_end - p.gap_end) ≤ k → get_or ys k d ≡ get_or xs k d)
    → held ys q ≡ held xs p
gap_moved_up xs ys p q at w w' more most s g h e moved below above =
    let front = w.front in let gap = w.gap in let back = w.back in
    same_held xs ys p q w w' (omega arith) (λ k lt. ⊎_elim
    (λ (a : k < at). front_at ys q k (p.start + k) w' (omega arith) (omega arith) ∙ ⊎_elim
    (λ (b : k < p.gap_start - p.start). below (p.start + k) 0 (omega arith) ∙ sym (front_at xs p k (p.start + k) w b (omega arith)))
    (λ (b : p.gap_start - p.start ≤ k). moved (p.start + k) 0 (omega arith) (omega arith) ∙ sym (back_at xs p k (p.gap_end + (p.start + k - p.gap_start)) w b lt (omega arith)))
    (cases_lt k (p.gap_start - p.start)))
    (λ (a : at ≤ k). let i : ℕ = q.gap_end + (k - at) in
    back_at ys q k i w' (omega arith) (omega arith) (omega arith) ∙ above i 0 (omega arith) ∙ sym (back_at xs p k i w (omega arith) lt (omega arith)))
    (cases_lt k at))

-- each part was moved as it is
pub parts_moved : (xs ys : List ℕ) (p q : GapLayout) → AreWithin p (length xs) → AreWithin q (length ys)
    → q.gap_start - q.start ≡ p.gap_start - p.start → q.end - q.gap_end ≡ p.end - p.gap_end
    → ((k : ℕ) → k < p.gap_start - p.start → get_or ys (q.start + k) 0 ≡ get_or xs (p.start + k) 0)
    → ((k : ℕ) → k < p.end - p.gap_end → get_or ys (q.gap_end + k) 0 ≡ get_or xs (p.gap_end + k) 0)
    → held ys q ≡ held xs p
parts_moved xs ys p q w w' f b front back = same_held xs ys p q w w' (omega arith) (λ k lt. ⊎_elim
    (λ (l : k < p.gap_start - p.start). front_at ys q k (q.start + k) w' (omega arith) (omega arith) ∙ front k l ∙ sym (front_at xs p k (p.start + k) w l (omega arith)))
    (λ (g : p.gap_start - p.start ≤ k). let n : ℕ = k - (p.gap_start - p.start) in
    back_at ys q k (q.gap_end + n) w' (omega arith) (omega arith) (omega arith) ∙ back n (omega arith) ∙ sym (back_at xs p k (p.gap_end + n) w g lt (omega arith)))
    (cases_lt k (p.gap_start - p.start)))

-- a list with one more number in its place, number by number
inserted_by : (xs zs : List ℕ) (at r : ℕ) → at ≤ length xs → length zs ≡ length xs + 1 → ((k : ℕ) → k < at → get_or zs k 0 ≡ get_or xs k 0) → get_or zs at 0 ≡ r
    → ((k : ℕ) → at ≤ k → k < length xs → get_or zs (k + 1) 0 ≡ get_or xs k 0) → zs ≡ insert xs at r
inserted_by xs zs at r at_in more below here above =
    let l = length-insert xs at r at_in in
    ext_get_or 0 zs (insert xs at r) (omega arith) (λ k h. ⊎_elim
    (λ (lt : k < at). below k lt ∙ sym (get_or-insert_below xs at r 0 k lt at_in))
    (λ (le : at ≤ k). ⊎_elim
    (λ (e : k ≡ at). ap (λ (x : ℕ). get_or zs x 0) e ∙ here ∙ sym (get_or-insert_at xs at r 0 at_in) ∙ ap (λ (x : ℕ). get_or (insert xs at r) x 0) (sym e))
    (λ (ne : k ≢ at).
    let k_is : k ≡ (k - 1) + 1 = omega arith in
    let past : at ≤ k - 1 = omega arith in
    ap (λ (x : ℕ). get_or zs x 0) k_is ∙ above (k - 1) past (omega arith)
    ∙ sym (get_or-insert_above xs at r 0 (k - 1) past at_in) ∙ ap (λ (x : ℕ). get_or (insert xs at r) x 0) (sym k_is))
    (cases_eq k at))
    (cases_lt k at))

-- a list without one of its numbers, number by number
removed_by : (xs zs : List ℕ) (at : ℕ) → at < length xs → length zs + 1 ≡ length xs → ((k : ℕ) → k < at → get_or zs k 0 ≡ get_or xs k 0)
    → ((k : ℕ) → at ≤ k → k < length zs → get_or zs k 0 ≡ get_or xs (k + 1) 0) → zs ≡ remove xs at
removed_by xs zs at at_in less below above =
    let l = length-remove xs at at_in in
    ext_get_or 0 zs (remove xs at) (omega arith) (λ k h. ⊎_elim
    (λ (lt : k < at). below k lt ∙ sym (get_or-remove_below xs at 0 k lt at_in))
    (λ (le : at ≤ k). above k le h ∙ sym (get_or-remove_above xs at 0 k le at_in))
    (cases_lt k at))

-- a number was written before the front
pub first_inserted : (xs : List ℕ) (p q : GapLayout) (r : ℕ) → AreWithin p (length xs) → AreWithin q (length xs)
    → q.start + 1 ≡ p.start → q.gap_start ≡ p.gap_start → q.gap_end ≡ p.gap_end → q.end ≡ p.end
    → held (set xs q.start r) q ≡ insert (held xs p) 0 r
first_inserted xs p q r w v s g h e =
    let ys : List ℕ = set xs q.start r in
    let front = w.front in let gap = w.gap in let back = w.back in let within = w.within in
    let len = length-set xs q.start r in
    let w' : AreWithin q (length ys) = record { front = v.front; gap = v.gap; back = v.back; within = omega (arith, v.within) } in
    let n = length-held xs p w in
    let m = length-held ys q w' in
    inserted_by (held xs p) (held ys q) 0 r (omega arith) (omega arith) (λ k lt. absurd (omega arith))
    (front_at ys q 0 q.start w' (omega arith) (omega arith) ∙ get_or-set_same xs q.start r 0 (omega arith))
    (λ k le lt. ⊎_elim
    (λ (l : k < p.gap_start - p.start). front_at ys q (k + 1) (p.start + k) w' (omega arith) (omega arith) ∙ get_or-set_other xs q.start (p.start + k) r 0 (omega arith) ∙ sym (front_at xs p k (p.start + k) w l (omega arith)))
    (λ (b : p.gap_start - p.start ≤ k). let i : ℕ = p.gap_end + (k - (p.gap_start - p.start)) in
    back_at ys q (k + 1) i w' (omega arith) (omega arith) (omega arith) ∙ get_or-set_other xs q.start i r 0 (omega arith) ∙ sym (back_at xs p k i w b (omega arith) (omega arith)))
    (cases_lt k (p.gap_start - p.start)))

-- a number was written behind the back
pub last_inserted : (xs : List ℕ) (p q : GapLayout) (r : ℕ) → AreWithin p (length xs) → AreWithin q (length xs)
    → q.start ≡ p.start → q.gap_start ≡ p.gap_start → q.gap_end ≡ p.gap_end → q.end ≡ p.end + 1
    → held (set xs p.end r) q ≡ insert (held xs p) (size p) r
last_inserted xs p q r w v s g h e =
    let ys : List ℕ = set xs p.end r in
    let front = w.front in let gap = w.gap in let back = w.back in let within = v.within in
    let len = length-set xs p.end r in
    let w' : AreWithin q (length ys) = record { front = v.front; gap = v.gap; back = v.back; within = omega (arith, v.within) } in
    let n = length-held xs p w in
    let m = length-held ys q w' in
    inserted_by (held xs p) (held ys q) (size p) r (omega arith) (omega arith)
    (λ k lt. ⊎_elim
    (λ (l : k < p.gap_start - p.start). front_at ys q k (p.start + k) w' (omega arith) (omega arith) ∙ get_or-set_other xs p.end (p.start + k) r 0 (omega arith) ∙ sym (front_at xs p k (p.start + k) w l (omega arith)))
    (λ (b : p.gap_start - p.start ≤ k). let i : ℕ = p.gap_end + (k - (p.gap_start - p.start)) in
    back_at ys q k i w' (omega arith) (omega arith) (omega arith) ∙ get_or-set_other xs p.end i r 0 (omega arith) ∙ sym (back_at xs p k i w b lt (omega arith)))
    (cases_lt k (p.gap_start - p.start)))
    (back_at ys q (size p) p.end w' (omega arith) (omega arith) (omega arith) ∙ get_or-set_same xs p.end r 0 (omega arith))
    (λ k le lt. absurd (omega arith))

-- a number was written at the beginning of the gap
pub inserted_in_gap : (xs : List ℕ) (p q : GapLayout) (r : ℕ) → AreWithin p (length xs) → AreWithin q (length xs)
    → q.start ≡ p.start → q.gap_start ≡ p.gap_start + 1 → q.gap_end ≡ p.gap_end → q.end ≡ p.end
    → held (set xs p.gap_start r) q ≡ insert (held xs p) (p.gap_start - p.start) r
inserted_in_gap xs p q r w v s g h e =
    let ys : List ℕ = set xs p.gap_start r in
    let front = w.front in let gap = v.gap in let back = w.back in let within = w.within in
    let len = length-set xs p.gap_start r in
    let w' : AreWithin q (length ys) = record { front = v.front; gap = v.gap; back = v.back; within = omega (arith, v.within) } in
    let n = length-held xs p w in
    let m = length-held ys q w' in
    inserted_by (held xs p) (held ys q) (p.gap_start - p.start) r (omega arith) (omega arith)
    (λ k lt. front_at ys q k (p.start + k) w' (omega arith) (omega arith) ∙ get_or-set_other xs p.gap_start (p.start + k) r 0 (omega arith) ∙ sym (front_at xs p k (p.start + k) w lt (omega arith)))
    (front_at ys q (p.gap_start - p.start) p.gap_start w' (omega arith) (omega arith) ∙ get_or-set_same xs p.gap_start r 0 (omega arith))
    (λ k le lt. let i : ℕ = p.gap_end + (k - (p.gap_start - p.start)) in
    back_at ys q (k + 1) i w' (omega arith) (omega arith) (omega arith) ∙ get_or-set_other xs p.gap_start i r 0 (omega arith) ∙ sym (back_at xs p k i w le (omega arith) (omega arith)))

-- the first of the front went
pub first_removed : (xs : List ℕ) (p q : GapLayout) → AreWithin p (length xs) → AreWithin q (length xs) → p.start < p.gap_start
    → q.start ≡ p.start + 1 → q.gap_start ≡ p.gap_start → q.gap_end ≡ p.gap_end → q.end ≡ p.end
    → held xs q ≡ remove (held xs p) 0
first_removed xs p q w w' some s g h e =
    let front = w'.front in let gap = w.gap in let back = w.back in
    let n = length-held xs p w in
    let m = length-held xs q w' in
    removed_by (held xs p) (held xs q) 0 (omega arith) (omega arith) (λ k lt. absurd (omega arith))
    (λ k le lt. ⊎_elim
    (λ (l : k < q.gap_start - q.start). front_at xs q k (q.start + k) w' l (omega arith) ∙ sym (front_at xs p (k + 1) (q.start + k) w (omega arith) (omega arith)))
    (λ (b : q.gap_start - q.start ≤ k). let i : ℕ = q.gap_end + (k - (q.gap_start - q.start)) in
    back_at xs q k i w' b (omega arith) (omega arith) ∙ sym (back_at xs p (k + 1) i w (omega arith) (omega arith) (omega arith)))
    (cases_lt k (q.gap_start - q.start)))

-- the last of the back went
pub last_removed : (xs : List ℕ) (p q : GapLayout) (at : ℕ) → AreWithin p (length xs) → AreWithin q (length xs) → p.gap_end < p.end → at + 1 ≡ size p
    → q.start ≡ p.start → q.gap_start ≡ p.gap_start → q.gap_end ≡ p.gap_end → q.end + 1 ≡ p.end
    → held xs q ≡ remove (held xs p) at
last_removed xs p q at w w' some last s g h e =
    let front = w.front in let gap = w.gap in let back = w'.back in
    let n = length-held xs p w in
    let m = length-held xs q w' in
    removed_by (held xs p) (held xs q) at (omega arith) (omega arith)
    (λ k lt. ⊎_elim
    (λ (l : k < p.gap_start - p.start). front_at xs q k (p.start + k) w' (omega arith) (omega arith) ∙ sym (front_at xs p k (p.start + k) w l (omega arith)))
    (λ (b : p.gap_start - p.start ≤ k). let i : ℕ = p.gap_end + (k - (p.gap_start - p.start)) in
    back_at xs q k i w' (omega arith) (omega arith) (omega arith) ∙ sym (back_at xs p k i w b (omega arith) (omega arith)))
    (cases_lt k (p.gap_start - p.start)))
    (λ k le lt. absurd (omega arith))

-- the first of the back went
pub removed_at_gap : (xs : List ℕ) (p q : GapLayout) (at : ℕ) → AreWithin p (length xs) → AreWithin q (length xs) → p.gap_end < p.end → at ≡ p.gap_start - p.start
    → q.start ≡ p.start → q.gap_start ≡ p.gap_start → q.gap_end ≡ p.gap_end + 1 → q.end ≡ p.end
    → held xs q ≡ remove (held xs p) at
removed_at_gap xs p q at w w' some here s g h e =
    let front = w.front in let gap = w.gap in let back = w'.back in
    let n = length-held xs p w in
    let m = length-held xs q w' in
    removed_by (held xs p) (held xs q) at (omega arith) (omega arith)
    (λ k lt. front_at xs q k (p.start + k) w' (omega arith) (omega arith) ∙ sym (front_at xs p k (p.start + k) w (omega arith) (omega arith)))
    (λ k le lt. let i : ℕ = q.gap_end + (k - at) in
    back_at xs q k i w' (omega arith) (omega arith) (omega arith) ∙ sym (back_at xs p (k + 1) i w (omega arith) (omega arith) (omega arith)))

-- nothing is behind the gap
pub closed_held : (xs : List ℕ) (p : GapLayout) → p.gap_end ≡ p.end → held xs p ≡ slice_range xs p.start p.gap_start
closed_held xs p e =
    let none : p.end - p.gap_end ≡ 0 = omega arith in
    ap (λ (n : ℕ). slice_range xs p.start p.gap_start ++ take n (drop p.gap_end xs)) none ∙ append-nil (slice_range xs p.start p.gap_start)
