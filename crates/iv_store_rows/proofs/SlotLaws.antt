-- Rows in slots: the rows after a slot is set, the row of a number, and the slots that are kept.
use Rattle.std.proofs.Common.{◌≡◌, ℕ, ◌^◌, ◌<◌, ◌≤◌, ◌⊎◌, inl, inr, Bool, true, false, not, ◌||◌, if◌then◌else◌, ◌==◌, Option, Some, None, List, [], ◌∷◌, slice_set, arith, refl, ap, sym, subst, ◌∙◌}
use Rattle.std.proofs.lemmas.Bool.{cases_Bool, or_left, or_right}
use Rattle.std.specs.Prelude.{slice_get, slice_index_or}
use Rattle.iv_value.specs.declared.value.Value.{Value}
use Rattle.iv_expr.specs.declared.row.StoredRow.{StoredRow}
use Rattle.iv_expr.specs.Scopes.{Rises}
use Rattle.iv_machine.specs.Databases.{row_at, rows_with}
use Rattle.iv_store_rows.specs.declared.slot.Slot.{Slot}
use Rattle.iv_store_rows.specs.ByNumber.{place_by}
use Rattle.iv_machine.specs.SetRows.{without_row, set_row}
use Rattle.iv_store_rows.specs.InSlots.{SlotsRise, slot_number, live_rows, slots_with, emptied, slots_without, slots_after, swept, has_slot}
use Rattle.iv_store_rows.proofs.ByNumber.{Less, Same, tells, same_tells, impossible, place_further, place_here, has_at, has_still}
use Rattle.iv_store_rows.proofs.ByNumber as items
use Rattle.iv_store_rows.proofs.Rows.{lower, found, passed, none_at, in_front}
use Rattle.iv_store_rows.proofs.Rows as rows

-- ---- the rows that are there

kept : (s : Slot) (slots : List Slot) → s.is_live ≡ true → live_rows (s ∷ slots) ≡ s.row ∷ live_rows slots
kept s slots l = ap (λ b. if b then s.row ∷ live_rows slots else live_rows slots) l

left_out : (s : Slot) (slots : List Slot) → s.is_live ≡ false → live_rows (s ∷ slots) ≡ live_rows slots
left_out s slots l = ap (λ b. if b then s.row ∷ live_rows slots else live_rows slots) l

pub live_rises : (low : ℕ) (slots : List Slot) → SlotsRise low slots → Rises low (live_rows slots)
live_rises low [] h = tt
live_rises low (s ∷ slots) h = by s.is_live (live_rises s.row.number slots h.2)
  where
    by : (b : Bool) → Rises s.row.number (live_rows slots) → Rises low (if b then s.row ∷ live_rows slots else live_rows slots)
    by true rest = (h.0, h.1, rest)
    by false rest = lower low s.row.number (live_rows slots) (omega (arith, h.0)) rest

-- ---- with a row in a slot

abbrev live_slot : StoredRow → Slot
live_slot r = record { row = r; is_live = true }

-- the rows of slots after a row is put into one
pub live_with : (low : ℕ) (x : StoredRow) (slots : List Slot) → SlotsRise low slots → live_rows (slots_with x slots) ≡ rows_with x (live_rows slots)
live_with low x [] h = refl
live_with low x (s ∷ slots) h = by (tells x.number s.row.number) (cases_Bool s.is_live) (live_with s.row.number x slots h.2) where
  rest : Rises s.row.number (live_rows slots)
  rest = live_rises s.row.number slots h.2

  by : Less x.number s.row.number ⊎ (Same x.number s.row.number ⊎ Less s.row.number x.number)
      → (s.is_live ≡ true) ⊎ (s.is_live ≡ false)
      → live_rows (slots_with x slots) ≡ rows_with x (live_rows slots)
      → live_rows (slots_with x (s ∷ slots)) ≡ rows_with x (live_rows (s ∷ slots))
  by (inl t) (inl a) more =
      ap live_rows (items.front slot_number (live_slot x) s slots t.0) ∙ ap (λ k. x ∷ k) (kept s slots a)
      ∙ sym (ap (rows_with x) (kept s slots a) ∙ rows.front x s.row (live_rows slots) t.0)
  by (inl t) (inr d) more =
      ap live_rows (items.front slot_number (live_slot x) s slots t.0) ∙ ap (λ k. x ∷ k) (left_out s slots d)
      ∙ sym (ap (rows_with x) (left_out s slots d) ∙ in_front s.row.number x (live_rows slots) rest (omega (arith, t.4)))
  by (inr (inl e)) (inl a) more =
      ap live_rows (items.instead slot_number (live_slot x) s slots e.0 e.2)
      ∙ sym (ap (rows_with x) (kept s slots a) ∙ rows.instead x s.row (live_rows slots) e.0 e.2)
  by (inr (inl e)) (inr d) more =
      ap live_rows (items.instead slot_number (live_slot x) s slots e.0 e.2)
      ∙ sym (ap (rows_with x) (left_out s slots d) ∙ in_front s.row.number x (live_rows slots) rest (omega (arith, e.4)))
  by (inr (inr f)) (inl a) more =
      ap live_rows (items.further slot_number (live_slot x) s slots f.1 f.3) ∙ kept s (slots_with x slots) a ∙ ap (λ k. s.row ∷ k) more
      ∙ sym (ap (rows_with x) (kept s slots a) ∙ rows.further x s.row (live_rows slots) f.1 f.3)
  by (inr (inr f)) (inr d) more =
      ap live_rows (items.further slot_number (live_slot x) s slots f.1 f.3) ∙ left_out s (slots_with x slots) d ∙ more
      ∙ sym (ap (rows_with x) (left_out s slots d))

-- ---- without the row of a slot

turned : (a b : ℕ) (c : Bool) → (a == b) ≡ c → (b == a) ≡ c
turned a b c e = elim (tells a b) [
  | inl t ↦ t.3 ∙ sym t.2 ∙ e
  | inr o ↦ elim o [
    | inl s ↦ s.3 ∙ sym s.2 ∙ e
    | inr t ↦ t.2 ∙ sym t.3 ∙ e
  ]
]

emptied_here : (n : ℕ) (s : Slot) → (s.row.number == n) ≡ true → emptied n s ≡ record { row = s.row; is_live = false }
emptied_here n s e = ap (λ b. if b then record { row = s.row; is_live = false } else s) e

emptied_other : (n : ℕ) (s : Slot) → (s.row.number == n) ≡ false → emptied n s ≡ s
emptied_other n s e = ap (λ b. if b then record { row = s.row; is_live = false } else s) e

-- the rows of slots after one is emptied
pub live_without : (n : ℕ) (slots : List Slot) → live_rows (slots_without n slots) ≡ without_row n (live_rows slots)
live_without n [] = refl
live_without n (s ∷ slots) = by (cases_Bool (s.row.number == n)) (cases_Bool s.is_live) (live_without n slots) where
  by : ((s.row.number == n) ≡ true) ⊎ ((s.row.number == n) ≡ false) → (s.is_live ≡ true) ⊎ (s.is_live ≡ false)
      → live_rows (slots_without n slots) ≡ without_row n (live_rows slots) → live_rows (slots_without n (s ∷ slots)) ≡ without_row n (live_rows (s ∷ slots))
  by (inl e) (inl a) more =
      ap (λ z. live_rows (z ∷ slots_without n slots)) (emptied_here n s e) ∙ more
      ∙ sym (ap (without_row n) (kept s slots a)
      ∙ ap (λ b. if not b then s.row ∷ without_row n (live_rows slots) else without_row n (live_rows slots)) (turned s.row.number n true e))
  by (inl e) (inr d) more =
      ap (λ z. live_rows (z ∷ slots_without n slots)) (emptied_here n s e) ∙ more ∙ sym (ap (without_row n) (left_out s slots d))
  by (inr f) (inl a) more =
      ap (λ z. live_rows (z ∷ slots_without n slots)) (emptied_other n s f) ∙ kept s (slots_without n slots) a ∙ ap (λ l. s.row ∷ l) more
      ∙ sym (ap (without_row n) (kept s slots a)
      ∙ ap (λ b. if not b then s.row ∷ without_row n (live_rows slots) else without_row n (live_rows slots)) (turned s.row.number n false f))
  by (inr f) (inr d) more =
      ap (λ z. live_rows (z ∷ slots_without n slots)) (emptied_other n s f) ∙ left_out s (slots_without n slots) d ∙ more
      ∙ sym (ap (without_row n) (left_out s slots d))

emptied_number : (n : ℕ) (s : Slot) → (emptied n s).row ≡ s.row
emptied_number n s = by (s.row.number == n) where
  by : (b : Bool) → (if b then record { row = s.row; is_live = false } else s).row ≡ s.row
  by true = refl
  by false = refl

pub without_rises : (low n : ℕ) (slots : List Slot) → SlotsRise low slots → SlotsRise low (slots_without n slots)
without_rises low n [] h = tt
without_rises low n (s ∷ slots) h =
    subst (λ (r : StoredRow). (low < r.number) × (r.number < 2 ^ 63) × SlotsRise r.number (slots_without n slots)) (sym (emptied_number n s))
    (h.0, h.1, without_rises s.row.number n slots h.2)

-- ---- a slot is set

-- the rows of slots after one is set
pub live_after : (table number : ℕ) (o : Option (List Value)) (slots : List Slot) → SlotsRise 0 slots
    → live_rows (slots_after table number o slots) ≡ set_row table number o (live_rows slots)
live_after table number (Some values) slots h = live_with 0 (record { table = table; number = number; values = values }) slots h
live_after table number None slots h = live_without number slots

pub same_slots : (m n : ℕ) (slots : List Slot) → has_slot (slots_without m slots) n ≡ has_slot slots n
same_slots m n [] = refl
same_slots m n (s ∷ slots) =
    ap (λ (r : StoredRow). (r.number == n) || has_slot (slots_without m slots) n) (emptied_number m s)
    ∙ ap (λ b. (s.row.number == n) || b) (same_slots m n slots)

-- what has a slot keeps it
pub stays_after : (table number : ℕ) (o : Option (List Value)) (n : ℕ) (slots : List Slot) → has_slot slots n ≡ true
    → has_slot (slots_after table number o slots) n ≡ true
stays_after table number (Some values) n slots e = has_still slot_number (live_slot (record { table = table; number = number; values = values })) n slots e
stays_after table number None n slots e = same_slots number n slots ∙ e

-- a row that is there has a slot
pub found_slot : (n : ℕ) (slots : List Slot) (r : StoredRow) → row_at (live_rows slots) n ≡ Some r → has_slot slots n ≡ true
found_slot n [] r e = cc
found_slot n (s ∷ slots) r e = by s.is_live (cases_Bool (s.row.number == n)) e (found_slot n slots r) where
  by : (b : Bool) → ((s.row.number == n) ≡ true) ⊎ ((s.row.number == n) ≡ false) → row_at (if b then s.row ∷ live_rows slots else live_rows slots) n ≡ Some r
      → (row_at (live_rows slots) n ≡ Some r → has_slot slots n ≡ true) → ((s.row.number == n) || has_slot slots n) ≡ true
  by b (inl q) f more = or_left (s.row.number == n) (has_slot slots n) q
  by true (inr d) f more = or_right (s.row.number == n) (has_slot slots n) (more (sym (passed n s.row (live_rows slots) d) ∙ f))
  by false (inr d) f more = or_right (s.row.number == n) (has_slot slots n) (more f)

-- ---- by place

-- some slot, as a default
abbrev pub some_slot : Slot
some_slot = record { row = record { table = 0; number = 0; values = [] }; is_live = false }

-- the row in the slot that is found, if it is there and has the number
abbrev pub row_in : ℕ → Option Slot → Option StoredRow
row_in n None = None
row_in n (Some s) = if s.is_live then (if s.row.number == n then Some s.row else None) else None

pub row_in_live : (n : ℕ) (s : Slot) → s.is_live ≡ true → s.row.number ≡ n → row_in n (Some s) ≡ Some s.row
row_in_live n s a e =
    ap (λ b. if b then (if s.row.number == n then Some s.row else None) else None) a
    ∙ ap (λ b. if b then Some s.row else None) (ap (λ k. k == n) e ∙ items.equal_itself n)

pub row_in_other : (n : ℕ) (s : Slot) → (s.row.number ≡ n → ⊥) → row_in n (Some s) ≡ None
row_in_other n s d = elim (same_tells s.row.number n) [
  | inl q ↦ absurd (d q.1)
  | inr f ↦ by s.is_live (ap (λ b. if b then Some s.row else None) f.0)
] where
  by : (b : Bool) → (if s.row.number == n then Some s.row else None) ≡ None → (if b then (if s.row.number == n then Some s.row else None) else None) ≡ None
  by true e = e
  by false e = refl

pub row_in_dead : (n : ℕ) (s : Slot) → s.is_live ≡ false → row_in n (Some s) ≡ None
row_in_dead n s d = ap (λ b. if b then (if s.row.number == n then Some s.row else None) else None) d

pub live_at_place : (low n : ℕ) (slots : List Slot) → SlotsRise low slots
    → row_at (live_rows slots) n ≡ row_in n (slice_get slots (place_by slot_number n slots))
live_at_place low n [] h = refl
live_at_place low n (s ∷ slots) h = by (tells s.row.number n) (cases_Bool s.is_live) (live_at_place s.row.number n slots h.2) where
  dead : s.is_live ≡ false → row_in n (Some s) ≡ None
  dead d = ap (λ b. if b then (if s.row.number == n then Some s.row else None) else None) d

  live : s.is_live ≡ true → row_in n (Some s) ≡ (if s.row.number == n then Some s.row else None)
  live a = ap (λ b. if b then (if s.row.number == n then Some s.row else None) else None) a

  none_after : n ≤ s.row.number → row_at (live_rows slots) n ≡ None
  none_after le = none_at s.row.number n (live_rows slots) (live_rises s.row.number slots h.2) le

  by : Less s.row.number n ⊎ (Same s.row.number n ⊎ Less n s.row.number) → (s.is_live ≡ true) ⊎ (s.is_live ≡ false)
      → row_at (live_rows slots) n ≡ row_in n (slice_get slots (place_by slot_number n slots))
      → row_at (live_rows (s ∷ slots)) n ≡ row_in n (slice_get (s ∷ slots) (place_by slot_number n (s ∷ slots)))
  by (inl t) (inl a) more =
      ap (λ l. row_at l n) (kept s slots a) ∙ passed n s.row (live_rows slots) t.2 ∙ more
      ∙ sym (ap (λ k. row_in n (slice_get (s ∷ slots) k)) (place_further slot_number n s slots t.0))
  by (inl t) (inr d) more =
      ap (λ l. row_at l n) (left_out s slots d) ∙ more ∙ sym (ap (λ k. row_in n (slice_get (s ∷ slots) k)) (place_further slot_number n s slots t.0))
  by (inr (inl e)) (inl a) more =
      ap (λ l. row_at l n) (kept s slots a) ∙ found n s.row (live_rows slots) e.2
      ∙ sym (ap (λ k. row_in n (slice_get (s ∷ slots) k)) (place_here slot_number n s slots e.0) ∙ live a ∙ ap (λ b. if b then Some s.row else None) e.2)
  by (inr (inl e)) (inr d) more =
      ap (λ l. row_at l n) (left_out s slots d) ∙ none_after (omega (arith, e.4))
      ∙ sym (ap (λ k. row_in n (slice_get (s ∷ slots) k)) (place_here slot_number n s slots e.0) ∙ dead d)
  by (inr (inr f)) (inl a) more =
      ap (λ l. row_at l n) (kept s slots a) ∙ passed n s.row (live_rows slots) f.3 ∙ none_after (omega (arith, f.4))
      ∙ sym (ap (λ k. row_in n (slice_get (s ∷ slots) k)) (place_here slot_number n s slots f.1) ∙ live a ∙ ap (λ b. if b then Some s.row else None) f.3)
  by (inr (inr f)) (inr d) more =
      ap (λ l. row_at l n) (left_out s slots d) ∙ none_after (omega (arith, f.4))
      ∙ sym (ap (λ k. row_in n (slice_get (s ∷ slots) k)) (place_here slot_number n s slots f.1) ∙ dead d)

-- the slot at the place, emptied
pub emptied_at : (low n : ℕ) (slots : List Slot) (d x : Slot) → SlotsRise low slots → has_at slot_number slots (place_by slot_number n slots) n ≡ true
    → x ≡ slice_index_or slots (place_by slot_number n slots) d
    → slice_set slots (place_by slot_number n slots) (record { row = x.row; is_live = false }) ≡ slots_without n slots
emptied_at low n [] d x h e i = cc
emptied_at low n (s ∷ slots) d x h e i = by (tells s.row.number n) (emptied_at s.row.number n slots d x h.2) where
  others : (low : ℕ) (l : List Slot) → SlotsRise low l → n ≤ low → slots_without n l ≡ l
  others low [] g le = refl
  others low (z ∷ l) g le =
      let b : n < z.row.number = omega (arith, g.0, le) in
      ap (λ y. y ∷ slots_without n l) (emptied_other n z (items.less n z.row.number b).3) ∙ ap (λ k. z ∷ k) (others z.row.number l g.2 (omega (arith, b)))

  by : Less s.row.number n ⊎ (Same s.row.number n ⊎ Less n s.row.number)
      → (has_at slot_number slots (place_by slot_number n slots) n ≡ true → x ≡ slice_index_or slots (place_by slot_number n slots) d
      → slice_set slots (place_by slot_number n slots) (record { row = x.row; is_live = false }) ≡ slots_without n slots)
      → slice_set (s ∷ slots) (place_by slot_number n (s ∷ slots)) (record { row = x.row; is_live = false }) ≡ slots_without n (s ∷ slots)
  by (inl t) more =
      ap (λ k. slice_set (s ∷ slots) k (record { row = x.row; is_live = false })) (place_further slot_number n s slots t.0)
      ∙ ap (λ l. s ∷ l) (more (sym (ap (λ k. has_at slot_number (s ∷ slots) k n) (place_further slot_number n s slots t.0)) ∙ e)
      (i ∙ ap (λ k. slice_index_or (s ∷ slots) k d) (place_further slot_number n s slots t.0)))
      ∙ sym (ap (λ y. y ∷ slots_without n slots) (emptied_other n s t.2))
  by (inr (inl q)) more =
      ap (λ k. slice_set (s ∷ slots) k (record { row = x.row; is_live = false })) (place_here slot_number n s slots q.0)
      ∙ ap (λ (z : Slot). record { row = z.row; is_live = false } ∷ slots) (i ∙ ap (λ k. slice_index_or (s ∷ slots) k d) (place_here slot_number n s slots q.0))
      ∙ ap (λ l. record { row = s.row; is_live = false } ∷ l) (sym (others s.row.number slots h.2 (omega (arith, q.4))))
      ∙ sym (ap (λ y. y ∷ slots_without n slots) (emptied_here n s q.2))
  by (inr (inr f)) more = absurd (impossible (sym e ∙ ap (λ k. has_at slot_number (s ∷ slots) k n) (place_here slot_number n s slots f.1) ∙ f.3))

-- if the place has no slot of the number, none is emptied
pub emptied_none : (n : ℕ) (slots : List Slot) → has_slot slots n ≡ false → slots_without n slots ≡ slots
emptied_none n [] e = refl
emptied_none n (s ∷ slots) e = by (cases_Bool (s.row.number == n)) (emptied_none n slots) where
  by : ((s.row.number == n) ≡ true) ⊎ ((s.row.number == n) ≡ false) → (has_slot slots n ≡ false → slots_without n slots ≡ slots)
      → slots_without n (s ∷ slots) ≡ s ∷ slots
  by (inl q) more = absurd (impossible (sym (or_left (s.row.number == n) (has_slot slots n) q) ∙ e))
  by (inr d) more = ap (λ y. y ∷ slots_without n slots) (emptied_other n s d) ∙ ap (λ l. s ∷ l) (more (sym (ap (λ b. b || has_slot slots n) d) ∙ e))

-- ---- swept

-- the slots that are kept have the same rows
pub live_swept : (slots : List Slot) → live_rows (swept slots) ≡ live_rows slots
live_swept [] = refl
live_swept (s ∷ slots) = by (cases_Bool s.is_live) (live_swept slots) where
  by : (s.is_live ≡ true) ⊎ (s.is_live ≡ false) → live_rows (swept slots) ≡ live_rows slots → live_rows (swept (s ∷ slots)) ≡ live_rows (s ∷ slots)
  by (inl a) more =
      ap (λ b. live_rows (if b then s ∷ swept slots else swept slots)) a ∙ kept s (swept slots) a ∙ ap (λ l. s.row ∷ l) more ∙ sym (kept s slots a)
  by (inr d) more = ap (λ b. live_rows (if b then s ∷ swept slots else swept slots)) d ∙ more ∙ sym (left_out s slots d)

pub swept_rises : (low : ℕ) (slots : List Slot) → SlotsRise low slots → SlotsRise low (swept slots)
swept_rises low slots h = items.part_rises slot_number low (λ s. s.is_live) slots h
