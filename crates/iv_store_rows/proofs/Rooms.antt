-- Room for the numbers of rows that come back: after a change, and after one is undone.
use Rattle.std.proofs.Common.{◌≡◌, ℕ, ◌+◌, ◌-◌, ◌≤◌, ◌⊎◌, inl, inr, true, false, if◌then◌else◌, ◌==◌, Option, Some, None, IfSome, List, [], ◌∷◌, ◌++◌, arith, refl, ap, sym, subst, ◌∙◌}
use Rattle.std.proofs.lemmas.Bool.{cases_Bool, or_left, or_right}
use Rattle.std.specs.Prelude.{nat_lt}
use Rattle.iv_value.specs.declared.value.Value.{Value}
use Rattle.iv_numbers.specs.Rows.{Rows, has_row, put}
use Rattle.iv_expr.specs.declared.row.Change.{Change}
use Rattle.iv_store_rows.specs.Filing.{dropped, held_after, can_put_for, held_for, is_filed, OneChanged, RoomStays}
use Rattle.iv_store_rows.specs.Histories.{room_before, room_wanted, EnoughRoom}
use Rattle.iv_store_rows.proofs.ByNumber.{less, same_tells, equal_itself}
use Rattle.iv_store_rows.proofs.FilingLaws.{put_there, put_absent, dropped_there, dropped_absent}

-- ---- the room of one table

-- a number takes no more than one of the room
put_room : (n : ℕ) (h : Rows) → h.room ≤ (put n h).room + 1
put_room n h = by (cases_Bool (has_row n h.rows)) where
  by : (has_row n h.rows ≡ true) ⊎ (has_row n h.rows ≡ false) → h.room ≤ (put n h).room + 1
  by (inl e) = let is : (put n h).room ≡ h.room = ap (λ (x : Rows). x.room) (put_there n h e) in omega (arith, is)
  by (inr e) = let is : (put n h).room ≡ h.room - 1 = ap (λ (x : Rows). x.room) (put_absent n h e) in omega (arith, is)

-- none if it is there
put_none : (n : ℕ) (h : Rows) → has_row n h.rows ≡ true → h.room ≤ (put n h).room
put_none n h e = let is : (put n h).room ≡ h.room = ap (λ (x : Rows). x.room) (put_there n h e) in omega (arith, is)

-- a number that is there gives room
dropped_room : (n : ℕ) (h : Rows) → has_row n h.rows ≡ true → h.room + 1 ≤ (dropped n h).room
dropped_room n h e = let is : (dropped n h).room ≡ h.room + 1 = ap (λ (x : Rows). x.room) (dropped_there n h e) in omega (arith, is)

-- another one leaves it
dropped_none : (n : ℕ) (h : Rows) → h.room ≤ (dropped n h).room
dropped_none n h = by (cases_Bool (has_row n h.rows)) where
  by : (has_row n h.rows ≡ true) ⊎ (has_row n h.rows ≡ false) → h.room ≤ (dropped n h).room
  by (inl e) = let more : h.room + 1 ≤ (dropped n h).room = dropped_room n h e in omega (arith, more)
  by (inr e) = let is : (dropped n h).room ≡ h.room = ap (λ (x : Rows). x.room) (dropped_absent n h e) in omega (arith, is)

-- after a row is set, the room suffices for setting it back, if it sufficed for what is left then
room_after : (n : ℕ) (old new : Option (List Value)) (h : Rows) (left : ℕ) → IfSome old (λ _. has_row n h.rows ≡ true) → left ≤ h.room
    → room_before old new left ≤ (held_after n new h).room
room_after n (Some v) None h left e l = let more : h.room + 1 ≤ (dropped n h).room = dropped_room n h e in omega (arith, more, l)
room_after n None (Some w) h left e l = let more : h.room ≤ (put n h).room + 1 = put_room n h in omega (arith, more, l)
room_after n (Some v) (Some w) h left e l = let more : h.room ≤ (put n h).room = put_none n h e in omega (arith, more, l)
room_after n None None h left e l = let more : h.room ≤ (dropped n h).room = dropped_none n h in omega (arith, more, l)

-- after it is set back, so much is left
room_back : (n : ℕ) (old new : Option (List Value)) (h : Rows) (left : ℕ) → IfSome new (λ _. has_row n h.rows ≡ true) → room_before old new left ≤ h.room
    → left ≤ (held_after n old h).room
room_back n (Some v) None h left e l = let more : h.room ≤ (put n h).room + 1 = put_room n h in omega (arith, more, l)
room_back n None (Some w) h left e l = let more : h.room + 1 ≤ (dropped n h).room = dropped_room n h e in omega (arith, more, l)
room_back n (Some v) (Some w) h left e l = let more : h.room ≤ (put n h).room = put_none n h e in omega (arith, more, l)
room_back n None None h left e l = let more : h.room ≤ (dropped n h).room = dropped_none n h in omega (arith, more, l)

-- and it allocates nothing
back_without_memory : (n : ℕ) (old new : Option (List Value)) (h : Rows) (left : ℕ) → IfSome new (λ _. has_row n h.rows ≡ true)
    → room_before old new left ≤ h.room → can_put_for old n h ≡ true
back_without_memory n (Some v) None h left e l = or_right (has_row n h.rows) (nat_lt 0 h.room) (less 0 h.room (omega (arith, l))).0
back_without_memory n (Some v) (Some w) h left e l = or_left (has_row n h.rows) (nat_lt 0 h.room) e
back_without_memory n None new h left e l = refl

-- ---- the room of all tables

-- with a change more
wanted_more : (t : ℕ) (j : List Change) (c : Change) (room : ℕ)
    → room_wanted t (j ++ c ∷ []) room ≡ (if c.table == t then room_before c.old c.new (room_wanted t j room) else room_wanted t j room)
wanted_more t [] c room = refl
wanted_more t (x ∷ j) c room = wanted_more t j c (if x.table == t then room_before x.old x.new room else room)

wanted_own : (t : ℕ) (j : List Change) (c : Change) → (c.table == t) ≡ true → room_wanted t (j ++ c ∷ []) 0 ≡ room_before c.old c.new (room_wanted t j 0)
wanted_own t j c e = wanted_more t j c 0 ∙ ap (λ b. if b then room_before c.old c.new (room_wanted t j 0) else room_wanted t j 0) e

wanted_other : (t : ℕ) (j : List Change) (c : Change) → (c.table == t) ≡ false → room_wanted t (j ++ c ∷ []) 0 ≡ room_wanted t j 0
wanted_other t j c e = wanted_more t j c 0 ∙ ap (λ b. if b then room_before c.old c.new (room_wanted t j 0) else room_wanted t j 0) e

-- what the last change wants of its table is there
wanted_last : (numbers : List Rows) (j : List Change) (c : Change) → EnoughRoom numbers (j ++ c ∷ [])
    → room_before c.old c.new (room_wanted c.table j 0) ≤ (held_for numbers c.table).room
wanted_last numbers j c h = subst (λ k. k ≤ (held_for numbers c.table).room) (wanted_own c.table j c (equal_itself c.table)) (h c.table)

unlike : (t u : ℕ) → (t ≡ u → ⊥) → u ≡ t → ⊥
unlike t u d e = d (sym e)

-- there is enough room after a change, if a row that is replaced or taken out was filed
pub enough_after : (old new : List Rows) (j : List Change) (c : Change) → OneChanged old new c.table (held_after c.row c.new (held_for old c.table))
    → IfSome c.old (λ _. is_filed old c.table c.row ≡ true) → EnoughRoom old j → EnoughRoom new (j ++ c ∷ [])
enough_after old new j c o there h t = by (same_tells c.table t) where
  own : room_before c.old c.new (room_wanted c.table j 0) ≤ (held_after c.row c.new (held_for old c.table)).room
  own = room_after c.row c.old c.new (held_for old c.table) (room_wanted c.table j 0) there (h c.table)

  by : (((c.table == t) ≡ true) × (c.table ≡ t)) ⊎ (((c.table == t) ≡ false) × (c.table ≡ t → ⊥)) → room_wanted t (j ++ c ∷ []) 0 ≤ (held_for new t).room
  by (inl q) =
      subst (λ k. k ≤ (held_for new t).room) (sym (wanted_own t j c q.0))
      (subst (λ u. room_before c.old c.new (room_wanted u j 0) ≤ (held_for new u).room) q.1
      (subst (λ (x : Rows). room_before c.old c.new (room_wanted c.table j 0) ≤ x.room) (sym o.own) own))
  by (inr d) =
      subst (λ k. k ≤ (held_for new t).room) (sym (wanted_other t j c d.0))
      (subst (λ (x : Rows). room_wanted t j 0 ≤ x.room) (sym (o.others t (unlike c.table t d.1))) (h t))

-- and after the last one is undone, if a row that it put in or replaced is filed
pub enough_back : (old new : List Rows) (j : List Change) (c : Change) → OneChanged old new c.table (held_after c.row c.old (held_for old c.table))
    → IfSome c.new (λ _. is_filed old c.table c.row ≡ true) → EnoughRoom old (j ++ c ∷ []) → EnoughRoom new j
enough_back old new j c o there h t = by (same_tells c.table t) where
  by : (((c.table == t) ≡ true) × (c.table ≡ t)) ⊎ (((c.table == t) ≡ false) × (c.table ≡ t → ⊥)) → room_wanted t j 0 ≤ (held_for new t).room
  by (inl q) =
      subst (λ u. room_wanted u j 0 ≤ (held_for new u).room) q.1
      (subst (λ (x : Rows). room_wanted c.table j 0 ≤ x.room) (sym o.own)
      (room_back c.row c.old c.new (held_for old c.table) (room_wanted c.table j 0) there (wanted_last old j c h)))
  by (inr d) =
      subst (λ (x : Rows). room_wanted t j 0 ≤ x.room) (sym (o.others t (unlike c.table t d.1)))
      (subst (λ k. k ≤ (held_for old t).room) (wanted_other t j c d.0) (h t))

-- its number is put back without an allocation
pub can_back : (numbers : List Rows) (j : List Change) (c : Change) → IfSome c.new (λ _. is_filed numbers c.table c.row ≡ true)
    → EnoughRoom numbers (j ++ c ∷ []) → can_put_for c.old c.row (held_for numbers c.table) ≡ true
can_back numbers j c there h =
    back_without_memory c.row c.old c.new (held_for numbers c.table) (room_wanted c.table j 0) there (wanted_last numbers j c h)

-- more room suffices too
pub enough_stays : (old new : List Rows) (j : List Change) → RoomStays old new → EnoughRoom old j → EnoughRoom new j
enough_stays old new j s h t = let more = s t in let enough = h t in omega (arith, more, enough)
