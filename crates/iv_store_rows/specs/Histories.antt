-- A database with the changes that can be undone, and the marked databases that they lead back to.
use Rattle.std.specs.Prelude.{◌≡◌, ℕ, ◌+◌, ◌-◌, ◌<◌, ◌≤◌, max, true, if◌then◌else◌, ◌==◌, List, [], ◌∷◌, map, take, drop, length, ◌++◌, slice_get, Option, Some, None}
use Rattle.std.specs.List.{remove}
use Rattle.iv_value.specs.declared.value.Value.{Value}
use Rattle.iv_numbers.specs.Rows.{Rows}
use Rattle.iv_expr.specs.declared.row.StoredRow.{StoredRow}
use Rattle.iv_expr.specs.declared.row.Change.{Change}
use Rattle.iv_expr.specs.Changes.{wave_of}
use Rattle.iv_machine.specs.declared.database.Database.{Database}
use Rattle.iv_machine.specs.Databases.{database_after}
use Rattle.iv_store_rows.specs.declared.marked_point.MarkedPoint.{MarkedPoint}
use Rattle.iv_store_rows.specs.declared.slot.Slot.{Slot}
use Rattle.iv_machine.specs.SetRows.{InBounds, set_row}
use Rattle.iv_store_rows.specs.InSlots.{live_rows, has_slot_for}
use Rattle.iv_store_rows.specs.Filing.{held_for}

-- The rows and the next number; the changes that were made since no mark was there, in their order; and what each mark keeps.
pub record History : Type 0 where
  pub rows : List StoredRow
  pub next : ℕ
  pub journal : List Change
  pub marks : List MarkedPoint

-- ---- the databases

-- the database: as many changes are counted as are noted
abbrev pub database_of : History → Database
database_of h = record { rows = h.rows; next = h.next; count = length h.journal }

-- the rows before a change
abbrev pub rows_before : Change → List StoredRow → List StoredRow
rows_before c rows = set_row c.table c.row c.old rows

-- the rows before these changes, the last of which is undone first
abbrev pub rows_before_all : List Change → List StoredRow → List StoredRow
rows_before_all [] rows = rows
rows_before_all (c ∷ cs) rows = rows_before c (rows_before_all cs rows)

-- The database of a mark: the changes that are noted since are undone.
abbrev pub database_at : List Change → List StoredRow → MarkedPoint → Database
database_at journal rows m = record { rows = rows_before_all (drop m.noted journal) rows; next = m.next; count = m.noted }

abbrev pub databases_at : List Change → List StoredRow → List MarkedPoint → List Database
databases_at journal rows marks = map (database_at journal rows) marks

-- the marked databases, by the place of the mark
abbrev pub marked_databases : History → List Database
marked_databases h = databases_at h.journal h.rows h.marks

-- a database, and the databases that are marked
pub record Marked : Type 0 where
  pub base : Database
  pub marks : List Database

abbrev pub marked_of : History → Marked
marked_of h = record { base = database_of h; marks = marked_databases h }

-- ---- what calls leave

-- after a change of one row
abbrev pub after_change : Change → Marked → Marked
after_change c m = record m { base = database_after m.base (wave_of (c ∷ [])) }

-- with one more mark, at the database
abbrev pub with_mark : Marked → Marked
with_mark m = record m { marks = m.marks ++ m.base ∷ [] }

-- the database that the mark of this place is at
abbrev pub marked_database : Marked → ℕ → Database
marked_database m place = elim (slice_get m.marks place) [ Some db ↦ db | None ↦ m.base ]

-- back at a mark: it stays, and later ones go
abbrev pub at_mark : Marked → ℕ → Marked
at_mark m place = record { base = marked_database m place; marks = take (place + 1) m.marks }

-- back at a mark, which goes too
abbrev pub before_mark : Marked → ℕ → Marked
before_mark m place = record { base = marked_database m place; marks = take place m.marks }

-- without the mark of this place: each later one's place falls by one
abbrev pub without_mark : Marked → ℕ → Marked
without_mark m place = record m { marks = remove m.marks place }

-- without marks, and no change counted: the rows and the next number stay
abbrev pub settled : Marked → Marked
settled m = record { base = record m.base { count = 0 }; marks = [] }

-- ---- so of a history

-- one more change, which is noted
abbrev pub history_after : History → Change → History
history_after h c = record {
  rows = set_row c.table c.row c.new h.rows;
  next = max (c.row + 1) h.next;
  journal = h.journal ++ c ∷ [];
  marks = h.marks;
}

-- what a mark keeps
abbrev pub saved_of : History → MarkedPoint
saved_of h = record { noted = length h.journal; next = h.next }

-- the last change that is noted
abbrev pub last_change : List Change → Option Change
last_change journal = slice_get journal (length journal - 1)

-- how many changes were noted at the mark of this place
abbrev pub noted_at : List MarkedPoint → ℕ → ℕ
noted_at marks place = elim (slice_get marks place) [ Some m ↦ m.noted | None ↦ 0 ]

-- the rows before the last of these changes
abbrev pub rows_before_last : List Change → List StoredRow → List StoredRow
rows_before_last journal rows = elim (last_change journal) [ Some c ↦ rows_before c rows | None ↦ rows ]

-- The last change is undone, and the marks after that of this place are gone.
abbrev pub stepped_back : History → ℕ → History
stepped_back h place = record {
  rows = rows_before_last h.journal h.rows;
  next = h.next;
  journal = take (length h.journal - 1) h.journal;
  marks = take (place + 1) h.marks;
}

-- ---- what holds

-- the lengths of the journal at marks don't fall, from this one to that
abbrev pub NeverFalls : ℕ → List MarkedPoint → ℕ → Type 0
NeverFalls low [] top = low ≤ top
NeverFalls low (m ∷ marks) top = (low ≤ m.noted) × NeverFalls m.noted marks top

-- the changes are of rows from number 1 to below this one
abbrev pub AllBelow : ℕ → List Change → Type 0
AllBelow next [] = Unit {0}
AllBelow next (c ∷ cs) = (0 < c.row) × (c.row < next) × AllBelow next cs

-- the same of the changes before each mark, and its next number
abbrev pub EachBelow : List Change → List MarkedPoint → Type 0
EachBelow journal [] = Unit {0}
EachBelow journal (m ∷ marks) = AllBelow m.next (take m.noted journal) × EachBelow journal marks

-- each of these changes leads from the rows before it to those after it
abbrev pub AllMade : List Change → List StoredRow → Type 0
AllMade [] rows = Unit {0}
AllMade (c ∷ cs) rows = (set_row c.table c.row c.new (rows_before_all (c ∷ cs) rows) ≡ rows_before_all cs rows) × AllMade cs rows

abbrev pub EachInBounds : List Database → Type 0
EachInBounds [] = Unit {0}
EachInBounds (db ∷ dbs) = InBounds db × EachInBounds dbs

-- What holds of a database with its journal and marks.
pub record Sound (h : History) : Type 0 where
  pub base : InBounds (database_of h)
  pub marked : EachInBounds (marked_databases h)
  pub falls : NeverFalls 0 h.marks (length h.journal)
  pub made : AllMade h.journal h.rows
  pub below : AllBelow h.next h.journal
  pub before : EachBelow h.journal h.marks

-- each row that comes back when these changes are undone has a slot
abbrev pub HaveSlots : List Slot → List Change → Type 0
HaveSlots slots [] = Unit {0}
HaveSlots slots (c ∷ cs) = (has_slot_for c.old slots c.row ≡ true) × HaveSlots slots cs

-- How much room the numbers of a table want so that a row goes back from the later values to the earlier ones, and then
-- so much is left: a row that comes back takes room for its number, and one that goes gives it.
abbrev pub room_before : Option (List Value) → Option (List Value) → ℕ → ℕ
room_before (Some earlier) None room = room + 1
room_before None (Some later) room = room - 1
room_before (Some earlier) (Some later) room = room
room_before None None room = room

-- how much they want so that these changes are undone, the last one first, and then so much is left
abbrev pub room_wanted : ℕ → List Change → ℕ → ℕ
room_wanted t [] room = room
room_wanted t (c ∷ cs) room = room_wanted t cs (if c.table == t then room_before c.old c.new room else room)

-- the numbers of each table have room for those of the rows that come back
abbrev pub EnoughRoom : List Rows → List Change → Type 0
EnoughRoom numbers journal = (t : ℕ) → room_wanted t journal 0 ≤ (held_for numbers t).room

-- the history whose rows are in these slots
abbrev pub history_of : List Slot → ℕ → List Change → List MarkedPoint → History
history_of slots next journal marks = record { rows = live_rows slots; next = next; journal = journal; marks = marks }

-- What holds of a history whose rows are in slots: it can be undone, and no slot and no place for a number is added.
pub record Kept (slots : List Slot) (numbers : List Rows) (next : ℕ) (journal : List Change) (marks : List MarkedPoint) : Type 0 where
  pub sound : Sound (history_of slots next journal marks)
  pub undo : HaveSlots slots journal
  pub room : EnoughRoom numbers journal
