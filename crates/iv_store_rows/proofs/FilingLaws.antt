-- The numbers that rows are filed under: those of one table after a change, and what is filed then.
use Rattle.std.proofs.Common.{◌≡◌, ℕ, ◌^◌, ◌<◌, ◌⊎◌, inl, inr, true, false, if◌then◌else◌, ◌==◌, Some, None, List, ap, sym, subst, ◌∙◌}
use Rattle.std.proofs.lemmas.Bool.{cases_Bool}
use Rattle.iv_numbers.specs.Rows.{Rows, has_row, added, put, removed, roomy}
use Rattle.iv_numbers.proofs.RowsHeld.{has_added, has_still, has_others}
use Rattle.iv_expr.specs.declared.row.StoredRow.{StoredRow}
use Rattle.iv_machine.specs.Databases.{row_at}
use Rattle.iv_store_rows.specs.declared.slot.Slot.{Slot}
use Rattle.iv_store_rows.specs.InSlots.{slot_number, live_rows, slots_with, slots_without, swept}
use Rattle.iv_store_rows.specs.Filing.{ready, dropped, held_for, is_filed, OneChanged, Files}
use Rattle.iv_store_rows.proofs.ByNumber.{same_tells, with_rises}
use Rattle.iv_store_rows.proofs.Rows.{found_with, found_without, gone_without}
use Rattle.iv_store_rows.proofs.SlotLaws.{live_with, live_without, without_rises, live_swept, swept_rises}

-- ---- the numbers of one table

pub put_there : (n : ℕ) (h : Rows) → has_row n h.rows ≡ true → put n h ≡ h
put_there n h e = ap (λ b. if b then h else added n h) e

pub put_absent : (n : ℕ) (h : Rows) → has_row n h.rows ≡ false → put n h ≡ added n h
put_absent n h e = ap (λ b. if b then h else added n h) e

pub dropped_there : (n : ℕ) (h : Rows) → has_row n h.rows ≡ true → dropped n h ≡ removed n h
dropped_there n h e = ap (λ b. if b then removed n h else h) e

pub dropped_absent : (n : ℕ) (h : Rows) → has_row n h.rows ≡ false → dropped n h ≡ h
dropped_absent n h e = ap (λ b. if b then removed n h else h) e

pub ready_there : (n : ℕ) (h : Rows) → has_row n h.rows ≡ true → ready n h ≡ h
ready_there n h e = ap (λ b. if b then h else roomy h) e

pub ready_absent : (n : ℕ) (h : Rows) → has_row n h.rows ≡ false → ready n h ≡ roomy h
ready_absent n h e = ap (λ b. if b then h else roomy h) e

roomy_none : (h : Rows) → (h.room == 0) ≡ true → roomy h ≡ record { rows = h.rows; room = 1 }
roomy_none h e = ap (λ b. if b then record { rows = h.rows; room = 1 } else h) e

roomy_some : (h : Rows) → (h.room == 0) ≡ false → roomy h ≡ h
roomy_some h e = ap (λ b. if b then record { rows = h.rows; room = 1 } else h) e

-- a number that is there stays so
stays_put : (n m : ℕ) (h : Rows) → has_row m h.rows ≡ true → has_row m (put n h).rows ≡ true
stays_put n m h e = by (cases_Bool (has_row n h.rows)) where
  by : (has_row n h.rows ≡ true) ⊎ (has_row n h.rows ≡ false) → has_row m (put n h).rows ≡ true
  by (inl t) = ap (λ (x : Rows). has_row m x.rows) (put_there n h t) ∙ e
  by (inr f) = ap (λ (x : Rows). has_row m x.rows) (put_absent n h f) ∙ has_still n m h.rows e

own_put : (n : ℕ) (h : Rows) → has_row n (put n h).rows ≡ true
own_put n h = by (cases_Bool (has_row n h.rows)) where
  by : (has_row n h.rows ≡ true) ⊎ (has_row n h.rows ≡ false) → has_row n (put n h).rows ≡ true
  by (inl t) = ap (λ (x : Rows). has_row n x.rows) (put_there n h t) ∙ t
  by (inr f) = ap (λ (x : Rows). has_row n x.rows) (put_absent n h f) ∙ has_added n h.rows

stays_ready : (n m : ℕ) (h : Rows) → has_row m h.rows ≡ true → has_row m (ready n h).rows ≡ true
stays_ready n m h e = by (cases_Bool (has_row n h.rows)) (cases_Bool (h.room == 0)) where
  by : (has_row n h.rows ≡ true) ⊎ (has_row n h.rows ≡ false) → ((h.room == 0) ≡ true) ⊎ ((h.room == 0) ≡ false) → has_row m (ready n h).rows ≡ true
  by (inl t) o = ap (λ (x : Rows). has_row m x.rows) (ready_there n h t) ∙ e
  by (inr f) (inl t) = ap (λ (x : Rows). has_row m x.rows) (ready_absent n h f ∙ roomy_none h t) ∙ e
  by (inr f) (inr d) = ap (λ (x : Rows). has_row m x.rows) (ready_absent n h f ∙ roomy_some h d) ∙ e

stays_dropped : (n m : ℕ) (h : Rows) → (m ≡ n → ⊥) → has_row m h.rows ≡ true → has_row m (dropped n h).rows ≡ true
stays_dropped n m h d e = by (cases_Bool (has_row n h.rows)) where
  by : (has_row n h.rows ≡ true) ⊎ (has_row n h.rows ≡ false) → has_row m (dropped n h).rows ≡ true
  by (inl t) = ap (λ (x : Rows). has_row m x.rows) (dropped_there n h t) ∙ has_others n m h.rows d e
  by (inr f) = ap (λ (x : Rows). has_row m x.rows) (dropped_absent n h f) ∙ e

-- ---- what is filed

-- what is filed under the numbers of one table stays
files_one : (old new : List Rows) (t : ℕ) (h : Rows) (u m : ℕ) → OneChanged old new t h → (has_row m (held_for old t).rows ≡ true → has_row m h.rows ≡ true)
    → is_filed old u m ≡ true → is_filed new u m ≡ true
files_one old new t h u m c s e = elim (same_tells u t) [
  | inl q ↦ ap (λ k. is_filed new k m) q.1 ∙ ap (λ (x : Rows). has_row m x.rows) c.own ∙ s (sym (ap (λ k. is_filed old k m) q.1) ∙ e)
  | inr d ↦ ap (λ (x : Rows). has_row m x.rows) (c.others u d.1) ∙ e
]

pub filed_put : (old new : List Rows) (t n : ℕ) → OneChanged old new t (put n (held_for old t)) → is_filed new t n ≡ true
filed_put old new t n c = ap (λ (x : Rows). has_row n x.rows) c.own ∙ own_put n (held_for old t)

-- ---- the rows of slots are filed

pub files_put : (slots : List Slot) (old new : List Rows) (t n : ℕ) → OneChanged old new t (put n (held_for old t)) → Files slots old → Files slots new
files_put slots old new t n c f = record {
  rises = f.rises;
  covers = (λ m r e. files_one old new t (put n (held_for old t)) r.table m c (stays_put n m (held_for old t)) (f.covers m r e));
}

pub files_ready : (slots : List Slot) (old new : List Rows) (t n : ℕ) → OneChanged old new t (ready n (held_for old t)) → Files slots old → Files slots new
files_ready slots old new t n c f = record {
  rises = f.rises;
  covers = (λ m r e. files_one old new t (ready n (held_for old t)) r.table m c (stays_ready n m (held_for old t)) (f.covers m r e));
}

pub files_with : (x : StoredRow) (slots : List Slot) (numbers : List Rows) → 0 < x.number → x.number < 2 ^ 63 → is_filed numbers x.table x.number ≡ true
    → Files slots numbers
    → Files (slots_with x slots) numbers
files_with x slots numbers l m e f = record {
  rises = with_rises slot_number 0 (record { row = x; is_live = true }) slots l m f.rises;
  covers = (λ n r g. elim (found_with x n (live_rows slots) r (sym (ap (λ rows. row_at rows n) (live_with 0 x slots f.rises)) ∙ g)) [
    | inl a ↦ subst (λ (q : StoredRow). is_filed numbers q.table n ≡ true) a.0 (subst (λ k. is_filed numbers x.table k ≡ true) a.1 e)
    | inr b ↦ f.covers n r b
  ]);
}

pub files_without : (n : ℕ) (slots : List Slot) (old new : List Rows) (t : ℕ) → OneChanged old new t (dropped n (held_for old t)) → Files slots old
    → Files (slots_without n slots) new
files_without n slots old new t c f = record { rises = without_rises 0 n slots f.rises; covers = covers } where
  other : (m : ℕ) (r : StoredRow) → row_at (live_rows (slots_without n slots)) m ≡ Some r → m ≡ n → ⊥
  other m r e q = cc_none (sym (ap (λ rows. row_at rows n) (live_without n slots) ∙ gone_without n (live_rows slots)) ∙ sym (ap (row_at (live_rows (slots_without n slots))) q) ∙ e) where
    cc_none : None ≡ Some r → ⊥
    cc_none x = cc

  covers : (m : ℕ) (r : StoredRow) → row_at (live_rows (slots_without n slots)) m ≡ Some r → is_filed new r.table m ≡ true
  covers m r e = files_one old new t (dropped n (held_for old t)) r.table m c (stays_dropped n m (held_for old t) (other m r e))
      (f.covers m r (found_without n m (live_rows slots) r (sym (ap (λ rows. row_at rows m) (live_without n slots)) ∙ e)))

pub files_swept : (slots : List Slot) (numbers : List Rows) → Files slots numbers → Files (swept slots) numbers
files_swept slots numbers f = record {
  rises = swept_rises 0 slots f.rises;
  covers = (λ n r e. f.covers n r (sym (ap (λ rows. row_at rows n) (live_swept slots)) ∙ e));
}

-- the numbers are as before, whatever their room
pub files_alike : (slots : List Slot) (numbers others : List Rows) → ((t : ℕ) → (held_for others t).rows ≡ (held_for numbers t).rows) → Files slots numbers → Files slots others
files_alike slots numbers others same f = record {
  rises = f.rises;
  covers = λ n r e. ap (has_row n) (same r.table) ∙ f.covers n r e;
}
