-- What holds of a history whose rows are in slots: after a change, and after one is undone.
use Rattle.std.proofs.Common.{◌≡◌, ℕ, ◌+◌, ◌-◌, ◌<◌, ◌≤◌, max, true, Option, Some, None, IfSome, List, [], ◌∷◌, ◌++◌, length, take, remove, refl, ap, sym, subst, ◌∙◌}
use Rattle.std.specs.Prelude.{slice_get}
use Rattle.iv_value.specs.declared.value.Value.{Value}
use Rattle.iv_numbers.specs.Rows.{Rows}
use Rattle.iv_expr.specs.declared.row.StoredRow.{StoredRow}
use Rattle.iv_expr.specs.declared.row.Change.{Change}
use Rattle.iv_machine.specs.Databases.{row_at}
use Rattle.iv_machine.specs.Waves.{values_at}
use Rattle.iv_store_rows.specs.declared.marked_point.MarkedPoint.{MarkedPoint}
use Rattle.iv_store_rows.specs.declared.slot.Slot.{Slot}
use Rattle.iv_machine.specs.SetRows.{set_row}
use Rattle.iv_store_rows.specs.InSlots.{SlotsRise, live_rows, slots_after, has_slot, has_slot_for}
use Rattle.iv_store_rows.specs.Filing.{held_after, can_put_for, held_for, is_filed, OneChanged, RoomStays, Covers, Files}
use Rattle.iv_store_rows.specs.Histories.{History, history_of, history_after, saved_of, rows_before, rows_before_last, noted_at, stepped_back, AllBelow, AllMade, Sound, HaveSlots, EnoughRoom, Kept}
use Rattle.iv_store_rows.proofs.Rows.{row_after_set}
use Rattle.iv_store_rows.proofs.SlotLaws.{live_after, stays_after, found_slot}
use Rattle.iv_store_rows.proofs.Marks.{rows_before_is, below_last, made_last}
use Rattle.iv_store_rows.proofs.Histories.{Fits, sound_after, sound_with_mark, sound_taken, sound_without, sound_stepped, sound_arrived}
use Rattle.iv_store_rows.proofs.Rooms.{enough_after, enough_back, enough_stays, can_back}

-- ---- slots for rows that come back

stays_for : (o : Option (List Value)) (n : ℕ) (slots more : List Slot) → (has_slot slots n ≡ true → has_slot more n ≡ true) → has_slot_for o slots n ≡ true
    → has_slot_for o more n ≡ true
stays_for (Some v) n slots more f e = f e
stays_for None n slots more f e = refl

have_still : (slots more : List Slot) (cs : List Change) → ((n : ℕ) → has_slot slots n ≡ true → has_slot more n ≡ true) → HaveSlots slots cs → HaveSlots more cs
have_still slots more [] f h = tt
have_still slots more (c ∷ cs) f h = (stays_for c.old c.row slots more (f c.row) h.0, have_still slots more cs f h.1)

have_more : (slots : List Slot) (cs : List Change) (c : Change) → HaveSlots slots cs → has_slot_for c.old slots c.row ≡ true → HaveSlots slots (cs ++ c ∷ [])
have_more slots [] c h g = (g, tt)
have_more slots (x ∷ cs) c h g = (h.0, have_more slots cs c h.1 g)

have_fewer : (slots : List Slot) (cs : List Change) (c : Change) → HaveSlots slots (cs ++ c ∷ []) → HaveSlots slots cs
have_fewer slots [] c h = tt
have_fewer slots (x ∷ cs) c h = (h.0, have_fewer slots cs c h.1)

have_last : (slots : List Slot) (cs : List Change) (c : Change) → HaveSlots slots (cs ++ c ∷ []) → has_slot_for c.old slots c.row ≡ true
have_last slots [] c h = h.0
have_last slots (x ∷ cs) c h = have_last slots cs c h.1

-- ---- a row that is there

-- a row that has values is one that is found
found_of : (rows : List StoredRow) (n : ℕ) (v : List Value) → values_at rows n ≡ Some v → (r : StoredRow) × (row_at rows n ≡ Some r)
found_of rows n v q = by (row_at rows n) refl where
  by : (o : Option StoredRow) → row_at rows n ≡ o → (r : StoredRow) × (row_at rows n ≡ Some r)
  by (Some r) w = (r, w)
  by None w = (let bad : None ≡ Some v = sym (ap (λ o. elim o [ Some r ↦ Some r.values | None ↦ None ]) w) ∙ q in cc)

-- the row that a change replaces or takes out has a slot then
slot_after : (slots : List Slot) (c : Change) → values_at (live_rows slots) c.row ≡ c.old → has_slot_for c.old (slots_after c.table c.row c.new slots) c.row ≡ true
slot_after slots c e = by c.old e where
  by : (o : Option (List Value)) → values_at (live_rows slots) c.row ≡ o → has_slot_for o (slots_after c.table c.row c.new slots) c.row ≡ true
  by None q = refl
  by (Some v) q = (let w : (r : StoredRow) × (row_at (live_rows slots) c.row ≡ Some r) = found_of (live_rows slots) c.row v q in
      stays_after c.table c.row c.new c.row slots (found_slot c.row slots w.0 w.1))

-- and its number is filed before
filed_before : (rows : List StoredRow) (numbers : List Rows) (c : Change) → Covers rows numbers → values_at rows c.row ≡ c.old
    → IfSome (row_at rows c.row) (λ (r : StoredRow). r.table ≡ c.table) → IfSome c.old (λ _. is_filed numbers c.table c.row ≡ true)
filed_before rows numbers c f e own = by c.old e where
  by : (o : Option (List Value)) → values_at rows c.row ≡ o → IfSome o (λ _. is_filed numbers c.table c.row ≡ true)
  by None q = tt
  by (Some v) q =
      (let w : (r : StoredRow) × (row_at rows c.row ≡ Some r) = found_of rows c.row v q in
      subst (λ u. is_filed numbers u c.row ≡ true) (subst (λ (o : Option StoredRow). IfSome o (λ (r : StoredRow). r.table ≡ c.table)) w.1 own)
      (f c.row w.0 w.1))

-- the number of a row that was just put in or replaced is filed
filed_now : (rows : List StoredRow) (numbers : List Rows) (left : List Change) (c : Change) → Covers rows numbers → AllMade (left ++ c ∷ []) rows
    → IfSome c.new (λ _. is_filed numbers c.table c.row ≡ true)
filed_now rows numbers left c f made = by c.new (made_last left c rows made) where
  by : (o : Option (List Value)) → set_row c.table c.row o (rows_before c rows) ≡ rows → IfSome o (λ _. is_filed numbers c.table c.row ≡ true)
  by None q = tt
  by (Some v) q = f c.row (record { table = c.table; number = c.row; values = v })
      (sym (ap (λ (l : List StoredRow). row_at l c.row) q) ∙ row_after_set c.table c.row (Some v) (rows_before c rows))

-- ---- a change

after_is : (slots : List Slot) (next : ℕ) (j : List Change) (marks : List MarkedPoint) (c : Change) → SlotsRise 0 slots
    → history_of (slots_after c.table c.row c.new slots) (max (c.row + 1) next) (j ++ c ∷ []) marks ≡ history_after (history_of slots next j marks) c
after_is slots next j marks c h =
    ap (λ (l : List StoredRow). record { rows = l; next = max (c.row + 1) next; journal = j ++ c ∷ []; marks = marks })
    (live_after c.table c.row c.new slots h)

-- slots, the next number and the journal after a change that was noted and made
pub record Made (slots new : List Slot) (next higher : ℕ) (j noted : List Change) (c : Change) : Type 0 where
  pub slots_are : new ≡ slots_after c.table c.row c.new slots
  pub next_is : higher ≡ max (c.row + 1) next
  pub journal_is : noted ≡ j ++ c ∷ []

pub changed_view : (slots new : List Slot) (next higher : ℕ) (j noted : List Change) (marks : List MarkedPoint) (c : Change) → SlotsRise 0 slots
    → Made slots new next higher j noted c → history_of new higher noted marks ≡ history_after (history_of slots next j marks) c
changed_view slots new next higher j noted marks c h m =
    ap (λ (l : List Slot). history_of l higher noted marks) m.slots_are
    ∙ ap (λ n. history_of (slots_after c.table c.row c.new slots) n noted marks) m.next_is
    ∙ ap (λ (l : List Change). history_of (slots_after c.table c.row c.new slots) (max (c.row + 1) next) l marks) m.journal_is
    ∙ after_is slots next j marks c h

pub kept_changed : (slots new : List Slot) (old filed : List Rows) (next higher : ℕ) (j noted : List Change) (marks : List MarkedPoint) (c : Change)
    → Files slots old → OneChanged old filed c.table (held_after c.row c.new (held_for old c.table)) → Made slots new next higher j noted c
    → Fits (history_of slots next j marks) c → Kept slots old next j marks
    → Kept new filed higher noted marks
kept_changed slots new old filed next higher j noted marks c f o m fits k = record {
  sound = subst (λ (h : History). Sound h) (sym (changed_view slots new next higher j noted marks c f.rises m))
      (sound_after (history_of slots next j marks) c k.sound fits);
  undo = subst (λ (l : List Slot). HaveSlots l noted) (sym m.slots_are)
      (subst (λ (l : List Change). HaveSlots (slots_after c.table c.row c.new slots) l) (sym m.journal_is)
      (have_more (slots_after c.table c.row c.new slots) j c
      (have_still slots (slots_after c.table c.row c.new slots) j (λ n. stays_after c.table c.row c.new n slots) k.undo)
      (slot_after slots c fits.current)));
  room = subst (λ (l : List Change). EnoughRoom filed l) (sym m.journal_is)
      (enough_after old filed j c o (filed_before (live_rows slots) old c f.covers fits.current fits.own) k.room);
}

-- nothing was changed, and there may be more room
pub kept_refused : (slots same : List Slot) (old new : List Rows) (next : ℕ) (j left : List Change) (marks : List MarkedPoint) → same ≡ slots → left ≡ j
    → RoomStays old new
    → Kept slots old next j marks → Kept same new next left marks
kept_refused slots same old new next j left marks e f g k =
    subst (λ (l : List Slot). Kept l new next left marks) (sym e)
    (subst (λ (l : List Change). Kept slots new next l marks) (sym f) (record { sound = k.sound; undo = k.undo; room = enough_stays old new j g k.room }))

-- ---- one change is undone

pub undone_slot : (slots : List Slot) (j left : List Change) (c : Change) → j ≡ left ++ c ∷ [] → HaveSlots slots j → has_slot_for c.old slots c.row ≡ true
undone_slot slots j left c e u = have_last slots left c (subst (λ (l : List Change). HaveSlots slots l) e u)

pub undone_room : (rows : List StoredRow) (numbers : List Rows) (j left : List Change) (c : Change) → j ≡ left ++ c ∷ [] → Covers rows numbers → AllMade j rows
    → EnoughRoom numbers j → can_put_for c.old c.row (held_for numbers c.table) ≡ true
undone_room rows numbers j left c e f made u =
    can_back numbers left c (filed_now rows numbers left c f (subst (λ (l : List Change). AllMade l rows) e made))
    (subst (λ (l : List Change). EnoughRoom numbers l) e u)

pub undone_small : (next : ℕ) (j left : List Change) (c : Change) → j ≡ left ++ c ∷ [] → AllBelow next j → (0 < c.row) × (c.row < next)
undone_small next j left c e h = below_last next left c (subst (λ (l : List Change). AllBelow next l) e h)

pub undone_rows : (slots new : List Slot) (j left : List Change) (c : Change) → SlotsRise 0 slots → j ≡ left ++ c ∷ []
    → new ≡ slots_after c.table c.row c.old slots
    → live_rows new ≡ rows_before_last j (live_rows slots)
undone_rows slots new j left c h e s = ap live_rows s ∙ live_after c.table c.row c.old slots h ∙ sym (rows_before_is j left c (live_rows slots) e)

pub slots_left : (slots new : List Slot) (j left : List Change) (c : Change) → j ≡ left ++ c ∷ [] → new ≡ slots_after c.table c.row c.old slots
    → HaveSlots slots j → HaveSlots new left
slots_left slots new j left c e s u =
    subst (λ (l : List Slot). HaveSlots l left) (sym s)
    (have_still slots (slots_after c.table c.row c.old slots) left (λ n. stays_after c.table c.row c.old n slots)
    (have_fewer slots left c (subst (λ (l : List Change). HaveSlots slots l) e u)))

pub room_left : (rows : List StoredRow) (numbers new : List Rows) (j left : List Change) (c : Change) → j ≡ left ++ c ∷ [] → Covers rows numbers → AllMade j rows
    → OneChanged numbers new c.table (held_after c.row c.old (held_for numbers c.table)) → EnoughRoom numbers j → EnoughRoom new left
room_left rows numbers new j left c e f made o u =
    enough_back numbers new left c o (filed_now rows numbers left c f (subst (λ (l : List Change). AllMade l rows) e made))
    (subst (λ (l : List Change). EnoughRoom numbers l) e u)

pub stepped_view : (slots new : List Slot) (next : ℕ) (j left : List Change) (marks : List MarkedPoint) (place : ℕ)
    → live_rows new ≡ rows_before_last j (live_rows slots) → left ≡ take (length j - 1) j
    → history_of new next left (take (place + 1) marks) ≡ stepped_back (history_of slots next j marks) place
stepped_view slots new next j left marks place r e =
    ap (λ (l : List StoredRow). record { rows = l; next = next; journal = left; marks = take (place + 1) marks }) r
    ∙ ap (λ (l : List Change). record { rows = rows_before_last j (live_rows slots); next = next; journal = l; marks = take (place + 1) marks }) e

pub kept_stepped : (slots new : List Slot) (numbers filed : List Rows) (next : ℕ) (j left : List Change) (marks : List MarkedPoint) (place : ℕ)
    → live_rows new ≡ rows_before_last j (live_rows slots)
    → left ≡ take (length j - 1) j → HaveSlots new left → EnoughRoom filed left → place < length marks → noted_at marks place < length j → Kept slots numbers next j marks
    → Kept new filed next left (take (place + 1) marks)
kept_stepped slots new numbers filed next j left marks place r e u v t a k = record {
  sound = subst (λ (h : History). Sound h) (sym (stepped_view slots new next j left marks place r e))
      (sound_stepped (history_of slots next j marks) place t a k.sound);
  undo = u;
  room = v;
}

-- ---- marks

pub kept_arrived : (slots : List Slot) (numbers : List Rows) (next : ℕ) (j : List Change) (marks : List MarkedPoint) (place : ℕ) (m : MarkedPoint)
    → slice_get marks place ≡ Some m → length j ≤ m.noted
    → Kept slots numbers next j marks → Kept slots numbers m.next j (take (place + 1) marks)
kept_arrived slots numbers next j marks place m i l k = record { sound = sound_arrived (history_of slots next j marks) place m i l k.sound; undo = k.undo; room = k.room }

pub kept_marked : (slots : List Slot) (numbers : List Rows) (next : ℕ) (j : List Change) (marks : List MarkedPoint) (m : MarkedPoint)
    → m ≡ saved_of (history_of slots next j marks)
    → Kept slots numbers next j marks → Kept slots numbers next j (marks ++ m ∷ [])
kept_marked slots numbers next j marks m e k =
    subst (λ (x : MarkedPoint). Kept slots numbers next j (marks ++ x ∷ [])) (sym e)
    (record { sound = sound_with_mark (history_of slots next j marks) k.sound; undo = k.undo; room = k.room })

pub kept_taken : (slots : List Slot) (numbers : List Rows) (next : ℕ) (j : List Change) (marks : List MarkedPoint) (n : ℕ) → Kept slots numbers next j marks
    → Kept slots numbers next j (take n marks)
kept_taken slots numbers next j marks n k = record { sound = sound_taken (history_of slots next j marks) n k.sound; undo = k.undo; room = k.room }

pub kept_without : (slots : List Slot) (numbers : List Rows) (next : ℕ) (j : List Change) (marks : List MarkedPoint) (n : ℕ) → Kept slots numbers next j marks
    → Kept slots numbers next j (remove marks n)
kept_without slots numbers next j marks n k = record { sound = sound_without (history_of slots next j marks) n k.sound; undo = k.undo; room = k.room }
