-- What holds of a database with its journal and marks: after a change, a step back, and marks that are made, reached and dropped.
use Rattle.std.proofs.Common.{◌≡◌, ℕ, zero, suc, ◌+◌, ◌-◌, ◌^◌, ◌<◌, ◌≤◌, max, Option, Some, None, IfSome, List, [], ◌∷◌, ◌++◌, length, length-append, take, remove, arith, refl, ap, sym, subst, ◌∙◌}
use Rattle.std.specs.Prelude.{slice_get}
use Rattle.iv_expr.specs.declared.row.StoredRow.{StoredRow}
use Rattle.std.proofs.lemmas.List.{length-map}
use Rattle.iv_expr.specs.declared.row.Change.{Change}
use Rattle.iv_expr.specs.Scopes.{Rises}
use Rattle.iv_expr.specs.Changes.{wave_of}
use Rattle.iv_machine.specs.declared.database.Database.{Database}
use Rattle.iv_machine.specs.Bounds.{last_row_number, most_changes_in_a_transaction}
use Rattle.iv_machine.specs.Databases.{row_at, rows_after, database_after}
use Rattle.iv_machine.specs.Waves.{values_at}
use Rattle.iv_store_rows.specs.declared.marked_point.MarkedPoint.{MarkedPoint}
use Rattle.iv_machine.specs.SetRows.{InBounds, set_row}
use Rattle.iv_store_rows.specs.Histories.{History, database_of, rows_before, database_at, databases_at, marked_databases, Marked, marked_of, after_change, marked_database, at_mark, before_mark, without_mark, history_after, saved_of, noted_at, stepped_back, last_change, NeverFalls, AllMade, AllBelow, EachBelow, EachInBounds, Sound}
use Rattle.iv_store_rows.proofs.Rows.{back_again}
use Rattle.iv_machine.proofs.OneChange.{rises, set_rises, rows_after_set, changed_is, changed_in_bounds}
use Rattle.iv_store_rows.proofs.Marks.{plus_one, Ends, ends, ends_of, last_is, front_is, made_more, made_fewer, made_last, rows_before_is, map_take, map_remove, map_more, take_taken, taken_at, removed_last, falls_more, falls_marked, falls_without, falls_taken, falls_to, falls_at, marked_with_change, marked_now, each_more, each_taken, each_without, below_higher, below_more, below_fewer, below_last, before_same, before_more, before_taken, before_without, before_at, noted_is, marked_at}

-- the rows rise
pub rows_rise : (h : History) → Sound h → Rises 0 h.rows
rows_rise h s = rises 0 h.rows h.next s.base.rising (below s.base.next) where
  below : h.next ≤ last_row_number + 1 → h.next ≤ 2 ^ 63
  below l = omega (arith, l)

-- the rows of changes have numbers that a row may have
pub small_rows : (h : History) → Sound h → AllBelow (2 ^ 63) h.journal
small_rows h s = below_higher h.next (2 ^ 63) h.journal (below s.base.next) s.below where
  below : h.next ≤ last_row_number + 1 → h.next ≤ 2 ^ 63
  below l = omega (arith, l)

-- ---- a change

-- a change of the rows that there are
pub record Fits (h : History) (c : Change) : Type 0 where
  pub current : values_at h.rows c.row ≡ c.old
  pub own : IfSome (row_at h.rows c.row) (λ row. row.table ≡ c.table)
  pub positive : 0 < c.row
  pub small : c.row ≤ last_row_number
  pub room : length h.journal < most_changes_in_a_transaction

pub back : (h : History) (c : Change) → Sound h → Fits h c → rows_before c (set_row c.table c.row c.new h.rows) ≡ h.rows
back h c s f = back_again c h.rows (rows_rise h s) f.current f.own

marks_stay : (h : History) (c : Change) → Sound h → Fits h c → marked_databases (history_after h c) ≡ marked_databases h
marks_stay h c s f = marked_with_change 0 h.marks h.journal c h.rows (set_row c.table c.row c.new h.rows) s.falls (back h c s f)

one_longer : (j : List Change) (c : Change) → length (j ++ c ∷ []) ≡ length j + 1
one_longer j c = length-append j (c ∷ [])

pub sound_after : (h : History) (c : Change) → Sound h → Fits h c → Sound (history_after h c)
sound_after h c s f = record {
  base = subst (λ n. InBounds (record { rows = set_row c.table c.row c.new h.rows; next = max (c.row + 1) h.next; count = n })) (sym (one_longer h.journal c))
      (changed_in_bounds (database_of h) c s.base f.positive f.small f.room);
  marked = subst (λ dbs. EachInBounds dbs) (sym (marks_stay h c s f)) s.marked;
  falls = falls_more 0 h.marks (length h.journal) (length (h.journal ++ c ∷ [])) (longer (one_longer h.journal c)) s.falls;
  made = made_more h.journal c h.rows (set_row c.table c.row c.new h.rows) (back h c s f) refl s.made;
  below = below_more (max (c.row + 1) h.next) h.journal c f.positive (omega arith)
      (below_higher h.next (max (c.row + 1) h.next) h.journal (omega arith) s.below);
  before = subst (λ T. T) (sym (before_same 0 h.marks h.journal c s.falls)) s.before;
} where
  longer : length (h.journal ++ c ∷ []) ≡ length h.journal + 1 → length h.journal ≤ length (h.journal ++ c ∷ [])
  longer e = omega (arith, e)

pub marked_after : (h : History) (c : Change) → Sound h → Fits h c → marked_of (history_after h c) ≡ after_change c (marked_of h)
marked_after h c s f =
    ap
    (λ n. record {
      base = record { rows = set_row c.table c.row c.new h.rows; next = max (c.row + 1) h.next; count = n };
      marks = marked_databases (history_after h c);
    })
    (one_longer h.journal c)
    ∙ ap (λ (db : Database). record { base = db; marks = marked_databases (history_after h c) }) (changed_is (database_of h) c s.base)
    ∙ ap (λ (dbs : List Database). record { base = database_after (database_of h) (wave_of (c ∷ [])); marks = dbs }) (marks_stay h c s f)

-- ---- a mark more, and fewer marks

abbrev pub history_with : History → List MarkedPoint → History
history_with h marks = record { rows = h.rows; next = h.next; journal = h.journal; marks = marks }

marks_more : (h : History) → marked_databases (history_with h (h.marks ++ saved_of h ∷ [])) ≡ marked_databases h ++ database_of h ∷ []
marks_more h =
    map_more (database_at h.journal h.rows) h.marks (saved_of h)
    ∙ ap (λ (db : Database). marked_databases h ++ db ∷ []) (marked_now h.journal h.rows (saved_of h) (omega arith))

pub sound_with_mark : (h : History) → Sound h → Sound (history_with h (h.marks ++ saved_of h ∷ []))
sound_with_mark h s = record {
  base = s.base;
  marked = subst (λ dbs. EachInBounds dbs) (sym (marks_more h)) (each_more (marked_databases h) (database_of h) s.marked (s.base, tt));
  falls = falls_marked 0 h.marks (length h.journal) (saved_of h) refl s.falls;
  made = s.made;
  below = s.below;
  before = before_more h.marks h.journal (saved_of h) (omega arith) s.below s.before;
}

pub sound_taken : (h : History) (n : ℕ) → Sound h → Sound (history_with h (take n h.marks))
sound_taken h n s = record {
  base = s.base;
  marked = subst (λ dbs. EachInBounds dbs) (sym (map_take (database_at h.journal h.rows) n h.marks)) (each_taken n (marked_databases h) s.marked);
  falls = falls_taken 0 h.marks n (length h.journal) s.falls;
  made = s.made;
  below = s.below;
  before = before_taken n h.marks h.journal s.before;
}

pub sound_without : (h : History) (n : ℕ) → Sound h → Sound (history_with h (remove h.marks n))
sound_without h n s = record {
  base = s.base;
  marked = subst (λ dbs. EachInBounds dbs) (sym (map_remove (database_at h.journal h.rows) h.marks n)) (each_without (marked_databases h) n s.marked);
  falls = falls_without 0 h.marks n (length h.journal) s.falls;
  made = s.made;
  below = s.below;
  before = before_without h.marks n h.journal s.before;
}

pub marked_without : (h : History) (n : ℕ) → marked_of (history_with h (remove h.marks n)) ≡ without_mark (marked_of h) n
marked_without h n = ap (λ (dbs : List Database). record { base = database_of h; marks = dbs }) (map_remove (database_at h.journal h.rows) h.marks n)

-- ---- a step back

-- one change less, and the marks up to a place
abbrev history_before : History → List Change → Change → ℕ → History
history_before h left c n = record { rows = rows_before c h.rows; next = h.next; journal = left; marks = take n h.marks }

stepped_is : (h : History) (place : ℕ) (left : List Change) (c : Change) → h.journal ≡ left ++ c ∷ []
    → stepped_back h place ≡ history_before h left c (place + 1)
stepped_is h place left c e =
    ap (λ (l : List StoredRow). record { rows = l; next = h.next; journal = take (length h.journal - 1) h.journal; marks = take (place + 1) h.marks })
    (rows_before_is h.journal left c h.rows e)
    ∙ ap (λ (l : List Change). record { rows = rows_before c h.rows; next = h.next; journal = l; marks = take (place + 1) h.marks })
    (front_is h.journal left c e)

-- the marks up to a place were made when no more was noted than before the last change
falls_left : (h : History) (place : ℕ) (m : MarkedPoint) (left : List Change) (c : Change) → slice_get h.marks place ≡ Some m → m.noted < length h.journal
    → h.journal ≡ left ++ c ∷ [] → Sound h
    → NeverFalls 0 (take (place + 1) h.marks) (length left)
falls_left h place m left c i l e s =
    subst (λ k. NeverFalls 0 (take k h.marks) (length left)) (sym (plus_one place))
    (falls_more 0 (take (suc place) h.marks) m.noted (length left) (shorter (ap length e ∙ one_longer left c))
    (falls_to 0 h.marks place (length h.journal) m i s.falls)) where
      shorter : length h.journal ≡ length left + 1 → m.noted ≤ length left
      shorter q = omega (arith, q, l)

marks_left : (h : History) (place : ℕ) (m : MarkedPoint) (left : List Change) (c : Change) → slice_get h.marks place ≡ Some m → m.noted < length h.journal
    → h.journal ≡ left ++ c ∷ [] → Sound h
    → marked_databases (history_before h left c (place + 1)) ≡ take (place + 1) (marked_databases h)
marks_left h place m left c i l e s =
    sym (marked_with_change 0 (take (place + 1) h.marks) left c (rows_before c h.rows) h.rows (falls_left h place m left c i l e s) refl)
    ∙ ap (λ (j : List Change). databases_at j h.rows (take (place + 1) h.marks)) (sym e)
    ∙ map_take (database_at h.journal h.rows) (place + 1) h.marks

sound_before : (h : History) (place : ℕ) (m : MarkedPoint) (left : List Change) (c : Change) → slice_get h.marks place ≡ Some m → m.noted < length h.journal
    → h.journal ≡ left ++ c ∷ [] → Sound h
    → Sound (history_before h left c (place + 1))
sound_before h place m left c i l e s = record {
  base = record {
    rising = set_rises h.rows h.next c.table c.row c.old s.base.rising (below_last h.next left c all).0 (below_last h.next left c all).1;
    next = s.base.next;
    count = fewer (ap length e ∙ one_longer left c) s.base.count;
  };
  marked = subst (λ dbs. EachInBounds dbs) (sym (marks_left h place m left c i l e s)) (each_taken (place + 1) (marked_databases h) s.marked);
  falls = falls_left h place m left c i l e s;
  made = made_fewer left c h.rows (subst (λ (j : List Change). AllMade j h.rows) e s.made);
  below = below_fewer h.next left c all;
  before = subst (λ T. T) (before_same 0 (take (place + 1) h.marks) left c (falls_left h place m left c i l e s))
      (subst (λ (j : List Change). EachBelow j (take (place + 1) h.marks)) e (before_taken (place + 1) h.marks h.journal s.before));
} where
  all : AllBelow h.next (left ++ c ∷ [])
  all = subst (λ (j : List Change). AllBelow h.next j) e s.below

  fewer : length h.journal ≡ length left + 1 → length h.journal ≤ most_changes_in_a_transaction → length left ≤ most_changes_in_a_transaction
  fewer q k = omega (arith, q, k)

-- the mark of a place that is there
pub there : (marks : List MarkedPoint) (place : ℕ) → place < length marks → (m : MarkedPoint) × (slice_get marks place ≡ Some m)
there [] place l = absurd (omega (arith, l))
there (m ∷ marks) zero l = (m, refl)
there (m ∷ marks) (suc place) l = there marks place (omega (arith, l))

pub sound_stepped : (h : History) (place : ℕ) → place < length h.marks → noted_at h.marks place < length h.journal → Sound h → Sound (stepped_back h place)
sound_stepped h place t a s = by (there h.marks place t) (ends_of h.journal (omega (arith, a))) where
  by : (m : MarkedPoint) × (slice_get h.marks place ≡ Some m) → Ends h.journal → Sound (stepped_back h place)
  by w (ends left c e) =
      subst (λ (k : History). Sound k) (sym (stepped_is h place left c e))
      (sound_before h place w.0 left c w.1 (subst (λ n. n < length h.journal) (noted_is h.marks place w.0 w.1) a) e s)

-- A step back leaves the marked databases up to the mark.
pub marked_stepped : (h : History) (place : ℕ) → place < length h.marks → noted_at h.marks place < length h.journal → Sound h
    → marked_databases (stepped_back h place) ≡ take (place + 1) (marked_databases h)
marked_stepped h place t a s = by (there h.marks place t) (ends_of h.journal (omega (arith, a))) where
  by : (m : MarkedPoint) × (slice_get h.marks place ≡ Some m) → Ends h.journal → marked_databases (stepped_back h place) ≡ take (place + 1) (marked_databases h)
  by w (ends left c e) =
      ap (λ (k : History). marked_databases k) (stepped_is h place left c e)
      ∙ marks_left h place w.0 left c w.1 (subst (λ n. n < length h.journal) (noted_is h.marks place w.0 w.1) a) e s

-- the rows are those after the last change
pub made_of_last : (h : History) (c : Change) → Sound h → last_change h.journal ≡ Some c → rows_after (rows_before c h.rows) (c ∷ []) ≡ h.rows
made_of_last h c s i = by h.journal s.below s.made i where
  made : (left : List Change) (d : Change) → d ≡ c → AllBelow h.next (left ++ d ∷ []) → AllMade (left ++ d ∷ []) h.rows
      → rows_after (rows_before c h.rows) (c ∷ []) ≡ h.rows
  made left d e b m =
      let below : (0 < c.row) × (c.row < h.next) = subst (λ (x : Change). (0 < x.row) × (x.row < h.next)) e (below_last h.next left d b) in
      rows_after_set (rows_before c h.rows) h.next c (set_rises h.rows h.next c.table c.row c.old s.base.rising below.0 below.1) below.1
      ∙ subst (λ (x : Change). set_row x.table x.row x.new (rows_before x h.rows) ≡ h.rows) e (made_last left d h.rows m)

  by : (j : List Change) → AllBelow h.next j → AllMade j h.rows → last_change j ≡ Some c → rows_after (rows_before c h.rows) (c ∷ []) ≡ h.rows
  by [] b m k = cc
  by (x ∷ j) b m k = ended (ends_of (x ∷ j) (omega arith)) where
    ended : Ends (x ∷ j) → rows_after (rows_before c h.rows) (c ∷ []) ≡ h.rows
    ended (ends left d e) =
        let same : Some d ≡ Some c = sym (last_is (x ∷ j) left d e) ∙ k in
        let it : d ≡ c = cc in
        made left d it (subst (λ (l : List Change). AllBelow h.next l) e b) (subst (λ (l : List Change). AllMade l h.rows) e m)

pub if_made : (h : History) (o : Option Change) → Sound h → o ≡ last_change h.journal → IfSome o (λ c. rows_after (rows_before c h.rows) (c ∷ []) ≡ h.rows)
if_made h None s e = tt
if_made h (Some c) s e = made_of_last h c s (sym e)

-- the rows before the last change rise
pub rises_before : (h : History) (c : Change) → Sound h → last_change h.journal ≡ Some c → Rises 0 (rows_before c h.rows)
rises_before h c s i = by h.journal s.below i where
  by : (j : List Change) → AllBelow h.next j → last_change j ≡ Some c → Rises 0 (rows_before c h.rows)
  by [] b k = cc
  by (x ∷ j) b k = ended (ends_of (x ∷ j) (omega arith)) where
    ended : Ends (x ∷ j) → Rises 0 (rows_before c h.rows)
    ended (ends left d e) =
        let same : Some d ≡ Some c = sym (last_is (x ∷ j) left d e) ∙ k in
        let it : d ≡ c = cc in
        let below : (0 < c.row) × (c.row < h.next) = subst (λ (y : Change). (0 < y.row) × (y.row < h.next)) it (below_last h.next left d (subst (λ (l : List Change). AllBelow h.next l) e b)) in
        rises 0 (rows_before c h.rows) h.next (set_rises h.rows h.next c.table c.row c.old s.base.rising below.0 below.1) s.base.next

pub if_rises : (h : History) (o : Option Change) → Sound h → o ≡ last_change h.journal → IfSome o (λ c. Rises 0 (rows_before c h.rows))
if_rises h None s e = tt
if_rises h (Some c) s e = rises_before h c s (sym e)

-- if a change is noted there is a last one
pub never_none : (journal : List Change) → 0 < length journal → last_change journal ≡ None → ⊥
never_none journal l e = by (ends_of journal l) where
  by : Ends journal → ⊥
  by (ends left c f) = (let bad : Some c ≡ None = sym (last_is journal left c f) ∙ e in cc)

pub if_some : {A P : Type 0} (o : Option A) → P → IfSome o (λ _. P)
if_some None p = tt
if_some (Some a) p = p

-- ---- back at a mark

-- nothing is noted since the mark
abbrev pub arrived : History → ℕ → MarkedPoint → History
arrived h place m = record { rows = h.rows; next = m.next; journal = h.journal; marks = take (place + 1) h.marks }

database_now : (h : History) (place : ℕ) (m : MarkedPoint) → slice_get h.marks place ≡ Some m → length h.journal ≤ m.noted → Sound h
    → database_at h.journal h.rows m ≡ database_of (arrived h place m)
database_now h place m i l s =
    marked_now h.journal h.rows m l
    ∙ ap (λ n. record { rows = h.rows; next = m.next; count = n }) (equal (falls_at 0 h.marks place (length h.journal) m i s.falls)) where
      equal : m.noted ≤ length h.journal → m.noted ≡ length h.journal
      equal k = omega (arith, k, l)

each_at : (dbs : List Database) (n : ℕ) (db : Database) → slice_get dbs n ≡ Some db → EachInBounds dbs → InBounds db
each_at [] n db e h = cc
each_at (x ∷ dbs) zero db e h = (let it : x ≡ db = cc in subst (λ (z : Database). InBounds z) it h.0)
each_at (x ∷ dbs) (suc n) db e h = each_at dbs n db e h.1

pub sound_arrived : (h : History) (place : ℕ) (m : MarkedPoint) → slice_get h.marks place ≡ Some m → length h.journal ≤ m.noted → Sound h → Sound (arrived h place m)
sound_arrived h place m i l s = record {
  base = subst (λ (db : Database). InBounds db) (database_now h place m i l s)
      (each_at (marked_databases h) place (database_at h.journal h.rows m) (marked_at h.journal h.rows h.marks place m i) s.marked);
  marked = taken.marked;
  falls = taken.falls;
  made = s.made;
  below = before_at h.marks place h.journal m i l s.before;
  before = taken.before;
} where
  taken : Sound (history_with h (take (place + 1) h.marks))
  taken = sound_taken h (place + 1) s

pub marked_arrived : (h : History) (place : ℕ) (m : MarkedPoint) → slice_get h.marks place ≡ Some m → length h.journal ≤ m.noted → Sound h
    → marked_of (arrived h place m) ≡ at_mark (marked_of h) place
marked_arrived h place m i l s =
    ap (λ (db : Database). record { base = db; marks = marked_databases (arrived h place m) }) (sym (database_now h place m i l s))
    ∙ ap (λ (dbs : List Database). record { base = database_at h.journal h.rows m; marks = dbs }) (map_take (database_at h.journal h.rows) (place + 1) h.marks)
    ∙ ap (λ o. record { base = elim o [ Some db ↦ db | None ↦ database_of h ]; marks = take (place + 1) (marked_databases h) })
    (sym (marked_at h.journal h.rows h.marks place m i))

-- There are as many marked databases as marks.
pub marked_length : (h : History) → length (marked_databases h) ≡ length h.marks
marked_length h = length-map h.marks (database_at h.journal h.rows)

-- If the marked databases up to a mark are the same, going back to it leads to the same.
pub same_at_mark : (a b : Marked) (place : ℕ) → take (place + 1) a.marks ≡ take (place + 1) b.marks → place < length b.marks → at_mark a place ≡ at_mark b place
same_at_mark a b place e l = by (slice_get b.marks place) refl where
  here : slice_get a.marks place ≡ slice_get b.marks place
  here = sym (taken_at place (place + 1) a.marks (omega arith)) ∙ ap (λ (dbs : List Database). slice_get dbs place) e
      ∙ taken_at place (place + 1) b.marks (omega arith)

  there : (xs : List Database) (n : ℕ) → n < length xs → slice_get xs n ≡ None → ⊥
  there [] n k f = omega (arith, k)
  there (x ∷ xs) zero k f = cc
  there (x ∷ xs) (suc n) k f = there xs n (omega (arith, k)) f

  by : (o : Option Database) → slice_get b.marks place ≡ o → at_mark a place ≡ at_mark b place
  by None f = absurd (there b.marks place l f)
  by (Some db) f =
      ap (λ o. record { base = elim o [ Some d ↦ d | None ↦ a.base ]; marks = take (place + 1) a.marks }) (here ∙ f)
      ∙ ap (λ (dbs : List Database). record { base = db; marks = dbs }) e
      ∙ sym (ap (λ o. record { base = elim o [ Some d ↦ d | None ↦ b.base ]; marks = take (place + 1) b.marks }) f)

-- Back at a mark and then without it is back before it.
pub without_at_mark : (m : Marked) (place : ℕ) → place < length m.marks → without_mark (at_mark m place) place ≡ before_mark m place
without_at_mark m place l =
    ap (λ (dbs : List Database). record { base = marked_database m place; marks = dbs })
    (ap (λ k. remove (take k m.marks) place) (plus_one place) ∙ removed_last place m.marks l)

pub marked_before : (h : History) (old : Marked) (n : ℕ) → marked_of h ≡ at_mark old n → marked_of (history_with h (take n h.marks)) ≡ before_mark old n
marked_before h old n e =
    ap (λ (dbs : List Database). record { base = database_of h; marks = dbs })
    (map_take (database_at h.journal h.rows) n h.marks ∙ ap (λ (m : Marked). take n m.marks) e ∙ take_taken n (n + 1) old.marks (omega arith))
    ∙ ap (λ (m : Marked). record { base = m.base; marks = take n old.marks }) e
