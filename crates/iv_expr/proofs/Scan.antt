-- Going up a table's row numbers.
use Rattle.std.proofs.Common.{◌≡◌, ℕ, ◌^◌, ◌<◌, ◌≤◌, ◌⊎◌, inl, inr, Bool, true, false, ◌||◌, Option, Some, None, option_map, ◌==◌, Result, Ok, Err, List, [], ◌∷◌, arith, refl, ap, ◌∙◌, sym, map}
use Rattle.std.proofs.lemmas.Bool.{cases_Bool}
use Rattle.std.specs.Prelude.{nat_lt, if◌then◌else◌}
use Rattle.std.proofs.lemmas.Bool.Decides.{nat_tests}
use Rattle.iv_expr.specs.Scopes.{Rises, row_above, Scope, within, contents, table_rows, numbered}
use Rattle.iv_expr.specs.Types.{StoredRow, Value, Truth, ExprFault, Cond}
use Rattle.iv_value.specs.Truths.{is_true}
use Rattle.iv_expr.specs.Evaluation.{truth}
use Rattle.iv_expr.proofs.Anys.{any_from}

-- The rows above a number.
abbrev pub rows_above : ℕ → List StoredRow → List StoredRow
rows_above n [] = []
rows_above n (r ∷ rs) = if nat_lt n r.number then r ∷ rs else rows_above n rs

-- What a test tells.
tells : (a b : ℕ) → ((nat_lt a b ≡ true) × (a < b)) ⊎ ((nat_lt a b ≡ false) × (b ≤ a))
tells a b = grind (arith, nat_tests)

-- no row is at or below the number from which they rise
pub above_all : (low n : ℕ) (rs : List StoredRow) → Rises low rs → n ≤ low → rows_above n rs ≡ rs
above_all low n [] h le = refl
above_all low n (r ∷ rs) h le = elim (tells n r.number) [ inl t ↦ rw t.0 refl | inr f ↦ absurd (omega (arith, h.0, le, f.1)) ]

-- the first of the rows above a number
pub above_first : (n : ℕ) (rs : List StoredRow) (r : StoredRow) → row_above n rs ≡ Some r → n < r.number
above_first n [] r h = cc
above_first n (x ∷ xs) r h = elim (tells n x.number) [
  | inl t ↦ (let e : x ≡ r = (let h2 : Some x ≡ Some r = rw t.0 at h in cc) in rw (← e) t.1)
  | inr f ↦ above_first n xs r (rw f.0 at h)
]

pub above_none : (n : ℕ) (rs : List StoredRow) → row_above n rs ≡ None → rows_above n rs ≡ []
above_none n [] h = refl
above_none n (x ∷ xs) h = elim (tells n x.number) [
  | inl t ↦ (let h2 : Some x ≡ None = rw t.0 at h in cc)
  | inr f ↦ rw f.0 (above_none n xs (rw f.0 at h))
]

above_rises : (low n : ℕ) (rs : List StoredRow) (r : StoredRow) → Rises low rs → row_above n rs ≡ Some r → low < r.number
above_rises low n [] r s h = cc
above_rises low n (x ∷ xs) r s h = elim (tells n x.number) [
  | inl t ↦ (let h2 : Some x ≡ Some r = rw t.0 at h in let e : x ≡ r = cc in rw (← e) s.0)
  | inr f ↦ (let i = above_rises x.number n xs r s.2 (rw f.0 at h) in omega (arith, s.0))
]

pub above_next : (low n : ℕ) (rs : List StoredRow) (r : StoredRow) → Rises low rs → row_above n rs ≡ Some r → rows_above n rs ≡ r ∷ rows_above r.number rs
above_next low n [] r s h = cc
above_next low n (x ∷ xs) r s h = elim (tells n x.number) [
  | inl t ↦ (let h2 : Some x ≡ Some r = rw t.0 at h in
      let e : x ≡ r = cc in
      let self : nat_lt x.number x.number ≡ false = grind (arith, nat_tests) in
      let k : rows_above x.number (x ∷ xs) ≡ xs = rw self (above_all x.number x.number xs s.2 (omega arith)) in
      rw t.0 (ap (λ ys. x ∷ ys) (sym k) ∙ ap (λ (q : StoredRow). q ∷ rows_above q.number (x ∷ xs)) e))
  | inr f ↦ (let i = above_next x.number n xs r s.2 (rw f.0 at h) in
      let lt : x.number < r.number = above_rises x.number n xs r s.2 (rw f.0 at h) in
      let no : nat_lt r.number x.number ≡ false = grind (arith, nat_tests) in
      rw (f.0, no) i)
]

pub rows_small : (low n : ℕ) (rs : List StoredRow) (r : StoredRow) → Rises low rs → row_above n rs ≡ Some r → r.number < 2 ^ 63
rows_small low n [] r s h = cc
rows_small low n (x ∷ xs) r s h = elim (tells n x.number) [
  | inl t ↦ (let h2 : Some x ≡ Some r = rw t.0 at h in let e : x ≡ r = cc in rw (← e) s.1)
  | inr f ↦ rows_small x.number n xs r s.2 (rw f.0 at h)
]

-- one row more, if the condition has a truth
pub any_step : (f : List Value → Result Truth ExprFault) (found : Bool) (rs : List StoredRow) (n : ℕ) (r : StoredRow) (t : Truth) → Rises 0 rs → row_above n rs ≡ Some r → f r.values ≡ Ok t →
    any_from found (map f (contents (rows_above n rs))) ≡ any_from (found || is_true t) (map f (contents (rows_above r.number rs)))
any_step f found rs n r t s h e =
    ap (λ x. any_from found (map f (contents x))) (above_next 0 n rs r s h)
    ∙ ap (λ q. any_from found (q ∷ map f (contents (rows_above r.number rs)))) e

-- one row more, if the condition has a fault
pub any_fault : (f : List Value → Result Truth ExprFault) (found : Bool) (rs : List StoredRow) (n : ℕ) (r : StoredRow) (e : ExprFault) → Rises 0 rs → row_above n rs ≡ Some r → f r.values ≡ Err e →
    any_from found (map f (contents (rows_above n rs))) ≡ Err e
any_fault f found rs n r e s h p =
    ap (λ x. any_from found (map f (contents x))) (above_next 0 n rs r s h)
    ∙ ap (λ q. any_from found (q ∷ map f (contents (rows_above r.number rs)))) p

-- the truth at a row, as code finds it in a scope over more ranges
pub at_row : (s o : Scope) (rs : List (List Value)) (row : List Value) (c : Cond) (x y : Result Truth ExprFault) → x ≡ truth o c → o ≡ record { ranges = rs; frame = s.frame; rows = s.rows } → rs ≡ row ∷ s.ranges → x ≡ y → truth (within s row) c ≡ y
at_row s o rs row c x y p q r e =
    let m : record { ranges = rs; frame = s.frame; rows = s.rows } ≡ within s row = ap (λ (z : List (List Value)). record { ranges = z; frame = s.frame; rows = s.rows }) r in
    sym (ap (λ (z : Scope). truth z c) (q ∙ m)) ∙ sym p ∙ e

-- A table's rows rise if all do.
pub above_low : (low up : ℕ) (rs : List StoredRow) → low ≤ up → Rises up rs → Rises low rs
above_low low up [] le h = tt
above_low low up (r ∷ rs) le h = (omega (arith, le, h.0), h.1, h.2)

pub table_rises : (low t : ℕ) (rs : List StoredRow) → Rises low rs → Rises low (table_rows rs t)
table_rises low t [] h = tt
table_rises low t (r ∷ rs) h = elim (cases_Bool (r.table == t)) [
  | inl e ↦ rw e (h.0, h.1, table_rises r.number t rs h.2)
  | inr e ↦ rw e (table_rises low t rs (above_low low r.number rs (omega (arith, h.0)) h.2))
]

-- What a scan found is a row.
pub found_row : (o : Option StoredRow) (p : ℕ × List Value) → Some p ≡ option_map numbered o → (r : StoredRow) × (o ≡ Some r) × (r.number ≡ p.0) × (r.values ≡ p.1)
found_row None p h = cc
found_row (Some r) p h = (r, refl, cc, cc)

pub found_none : (o : Option StoredRow) → None ≡ option_map numbered o → o ≡ None
found_none None h = refl
found_none (Some r) h = cc

-- The number that a scan found is above the one that it went from, and small.
pub scan_above : (n : ℕ) (rs : List StoredRow) (p : ℕ × List Value) → Some p ≡ option_map numbered (row_above n rs) → n < p.0
scan_above n rs p h = let f = found_row (row_above n rs) p h in rw (← f.2) (above_first n rs f.0 f.1)

pub scan_small : (n : ℕ) (rs : List StoredRow) (p : ℕ × List Value) → Rises 0 rs → Some p ≡ option_map numbered (row_above n rs) → p.0 < 2 ^ 63
scan_small n rs p s h = let f = found_row (row_above n rs) p h in rw (← f.2) (rows_small 0 n rs f.0 s f.1)

-- What is above is the row that was found and what is above it.
pub scan_next : (n : ℕ) (rs : List StoredRow) (p : ℕ × List Value) → Rises 0 rs → Some p ≡ option_map numbered (row_above n rs) →
    (r : StoredRow) × (rows_above n rs ≡ r ∷ rows_above p.0 rs) × (r.number ≡ p.0) × (r.values ≡ p.1)
scan_next n rs p s h =
    let f = found_row (row_above n rs) p h in
    (f.0, above_next 0 n rs f.0 s f.1 ∙ ap (λ k. f.0 ∷ rows_above k rs) f.2, f.2, f.3)

-- One row that was scanned, if the condition has a truth.
pub scan_step : (f : List Value → Result Truth ExprFault) (found : Bool) (rs : List StoredRow) (n : ℕ) (p : ℕ × List Value) (t : Truth) → Rises 0 rs → Some p ≡ option_map numbered (row_above n rs) → f p.1 ≡ Ok t →
    any_from found (map f (contents (rows_above n rs))) ≡ any_from (found || is_true t) (map f (contents (rows_above p.0 rs)))
scan_step f found rs n p t s h e =
    let r = found_row (row_above n rs) p h in
    any_step f found rs n r.0 t s r.1 (ap f r.3 ∙ e) ∙ ap (λ k. any_from (found || is_true t) (map f (contents (rows_above k rs)))) r.2

-- One row that was scanned, if the condition has a fault.
pub scan_fault : (f : List Value → Result Truth ExprFault) (found : Bool) (rs : List StoredRow) (n : ℕ) (p : ℕ × List Value) (e : ExprFault) → Rises 0 rs → Some p ≡ option_map numbered (row_above n rs) → f p.1 ≡ Err e →
    any_from found (map f (contents (rows_above n rs))) ≡ Err e
scan_fault f found rs n p e s h q =
    let r = found_row (row_above n rs) p h in
    any_fault f found rs n r.0 e s r.1 (ap f r.3 ∙ q)

-- Nothing found: no rows are above.
pub scan_none : (n : ℕ) (rs : List StoredRow) → None ≡ option_map numbered (row_above n rs) → rows_above n rs ≡ []
scan_none n rs h = above_none n rs (found_none _ h)
