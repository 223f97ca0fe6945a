-- Journals and marks: changes that are undone, and the marked databases after a change is noted or undone.
use Rattle.std.proofs.Common.{◌≡◌, ℕ, zero, suc, ◌+◌, ◌-◌, ◌<◌, ◌≤◌, Some, None, List, [], ◌∷◌, ◌++◌, map, length, length-append, take, drop, remove, arith, refl, ap, sym, subst, ◌∙◌}
use Rattle.std.specs.Prelude.{slice_get, slice_index_or}
use Rattle.std.proofs.Math.Seq.{take-append_seam}
use Rattle.std.proofs.lemmas.List.{take-append-le}
use Rattle.iv_expr.specs.declared.row.StoredRow.{StoredRow}
use Rattle.iv_expr.specs.declared.row.Change.{Change}
use Rattle.iv_machine.specs.declared.database.Database.{Database}
use Rattle.iv_store_rows.specs.declared.marked_point.MarkedPoint.{MarkedPoint}
use Rattle.iv_machine.specs.SetRows.{set_row}
use Rattle.iv_store_rows.specs.Histories.{rows_before, rows_before_all, database_at, databases_at, last_change, noted_at, rows_before_last, NeverFalls, AllMade, AllBelow, EachBelow, EachInBounds}

-- ---- the last of a list

pub plus_one : (n : ℕ) → n + 1 ≡ suc n
plus_one n = omega arith

at_end : {A : Type 0} (xs : List A) (x : A) → slice_get (xs ++ x ∷ []) (length xs) ≡ Some x
at_end [] x = refl
at_end (y ∷ xs) x = at_end xs x

one_less : {A : Type 0} (xs : List A) (x : A) → length (xs ++ x ∷ []) - 1 ≡ length xs
one_less xs x = by (length-append xs (x ∷ [])) where
  by : length (xs ++ x ∷ []) ≡ length xs + 1 → length (xs ++ x ∷ []) - 1 ≡ length xs
  by e = omega (arith, e)

-- a list that isn't empty has a last item
pub data Ends {A : Type 0} (xs : List A) : Type 0 where
  ends : (front : List A) (last : A) → xs ≡ front ++ last ∷ [] → Ends xs

pub ends_of : {A : Type 0} (xs : List A) → 0 < length xs → Ends xs
ends_of [] l = absurd (omega (arith, l))
ends_of (x ∷ []) l = ends [] x refl
ends_of (x ∷ y ∷ xs) l = by (ends_of (y ∷ xs) (omega arith)) where
  by : Ends (y ∷ xs) → Ends (x ∷ y ∷ xs)
  by (ends front last e) = ends (x ∷ front) last (ap (λ l. x ∷ l) e)

pub last_is : (journal left : List Change) (c : Change) → journal ≡ left ++ c ∷ [] → last_change journal ≡ Some c
last_is journal left c e = ap last_change e ∙ ap (slice_get (left ++ c ∷ [])) (one_less left c) ∙ at_end left c

pub front_is : (journal left : List Change) (c : Change) → journal ≡ left ++ c ∷ [] → take (length journal - 1) journal ≡ left
front_is journal left c e =
    ap (λ (l : List Change). take (length l - 1) l) e ∙ ap (λ k. take k (left ++ c ∷ [])) (one_less left c) ∙ take-append_seam left (c ∷ [])

pub rows_before_is : (journal left : List Change) (c : Change) (rows : List StoredRow) → journal ≡ left ++ c ∷ []
    → rows_before_last journal rows ≡ rows_before c rows
rows_before_is journal left c rows e = ap (λ o. elim o [ Some c ↦ rows_before c rows | None ↦ rows ]) (last_is journal left c e)

-- ---- lists

pub map_take : {A B : Type 0} (f : A → B) (n : ℕ) (xs : List A) → map f (take n xs) ≡ take n (map f xs)
map_take f zero xs = refl
map_take f (suc n) [] = refl
map_take f (suc n) (x ∷ xs) = ap (λ l. f x ∷ l) (map_take f n xs)

pub map_remove : {A B : Type 0} (f : A → B) (xs : List A) (n : ℕ) → map f (remove xs n) ≡ remove (map f xs) n
map_remove f [] zero = refl
map_remove f [] (suc n) = refl
map_remove f (x ∷ xs) zero = refl
map_remove f (x ∷ xs) (suc n) = ap (λ l. f x ∷ l) (map_remove f xs n)

pub map_more : {A B : Type 0} (f : A → B) (xs : List A) (x : A) → map f (xs ++ x ∷ []) ≡ map f xs ++ f x ∷ []
map_more f [] x = refl
map_more f (y ∷ xs) x = ap (λ l. f y ∷ l) (map_more f xs x)

pub drop_all : {A : Type 0} (n : ℕ) (xs : List A) → length xs ≤ n → drop n xs ≡ []
drop_all zero [] le = refl
drop_all (suc n) [] le = refl
drop_all zero (x ∷ xs) le = absurd (omega (arith, le))
drop_all (suc n) (x ∷ xs) le = drop_all n xs (omega (arith, le))

pub take_all : {A : Type 0} (n : ℕ) (xs : List A) → length xs ≤ n → take n xs ≡ xs
take_all zero [] le = refl
take_all (suc n) [] le = refl
take_all zero (x ∷ xs) le = absurd (omega (arith, le))
take_all (suc n) (x ∷ xs) le = ap (λ l. x ∷ l) (take_all n xs (omega (arith, le)))

pub take_taken : {A : Type 0} (n m : ℕ) (xs : List A) → n ≤ m → take n (take m xs) ≡ take n xs
take_taken zero m xs le = refl
take_taken (suc n) zero xs le = absurd (omega (arith, le))
take_taken (suc n) (suc m) [] le = refl
take_taken (suc n) (suc m) (x ∷ xs) le = ap (λ l. x ∷ l) (take_taken n m xs (omega (arith, le)))

pub taken_at : {A : Type 0} (n m : ℕ) (xs : List A) → n < m → slice_get (take m xs) n ≡ slice_get xs n
taken_at n zero xs l = absurd (omega (arith, l))
taken_at n (suc m) [] l = refl
taken_at zero (suc m) (x ∷ xs) l = refl
taken_at (suc n) (suc m) (x ∷ xs) l = taken_at n m xs (omega (arith, l))

-- without the item of this place, if that is the last
pub removed_last : {A : Type 0} (n : ℕ) (xs : List A) → n < length xs → remove (take (suc n) xs) n ≡ take n xs
removed_last n [] l = absurd (omega (arith, l))
removed_last zero (x ∷ xs) l = refl
removed_last (suc n) (x ∷ xs) l = ap (λ l. x ∷ l) (removed_last n xs (omega (arith, l)))

pub indexed : {A : Type 0} (xs : List A) (n : ℕ) (d : A) → n < length xs → slice_get xs n ≡ Some (slice_index_or xs n d)
indexed [] n d l = absurd (omega (arith, l))
indexed (x ∷ xs) zero d l = refl
indexed (x ∷ xs) (suc n) d l = indexed xs n d (omega (arith, l))

-- ---- many changes

joined : (xs ys : List Change) (rows : List StoredRow) → rows_before_all (xs ++ ys) rows ≡ rows_before_all xs (rows_before_all ys rows)
joined [] ys rows = refl
joined (c ∷ xs) ys rows = ap (rows_before c) (joined xs ys rows)

drop_more : (a : ℕ) (xs : List Change) (c : Change) → a ≤ length xs → drop a (xs ++ c ∷ []) ≡ drop a xs ++ c ∷ []
drop_more zero xs c le = refl
drop_more (suc a) [] c le = absurd (omega (arith, le))
drop_more (suc a) (x ∷ xs) c le = drop_more a xs c (omega (arith, le))

-- each leads from the rows before it to those after it, with a change more
pub made_more : (j : List Change) (c : Change) (rows after : List StoredRow) → rows_before c after ≡ rows → set_row c.table c.row c.new rows ≡ after
    → AllMade j rows → AllMade (j ++ c ∷ []) after
made_more [] c rows after e f h = (ap (set_row c.table c.row c.new) e ∙ f, tt)
made_more (x ∷ j) c rows after e f h =
    (ap (set_row x.table x.row x.new) (back (x ∷ j)) ∙ h.0 ∙ sym (back j), made_more j c rows after e f h.1) where
      back : (l : List Change) → rows_before_all (l ++ c ∷ []) after ≡ rows_before_all l rows
      back l = joined l (c ∷ []) after ∙ ap (rows_before_all l) e

-- and with the last one undone
pub made_fewer : (left : List Change) (c : Change) (rows : List StoredRow) → AllMade (left ++ c ∷ []) rows → AllMade left (rows_before c rows)
made_fewer [] c rows h = tt
made_fewer (x ∷ left) c rows h =
    (sym (ap (set_row x.table x.row x.new) (joined (x ∷ left) (c ∷ []) rows)) ∙ h.0 ∙ joined left (c ∷ []) rows, made_fewer left c rows h.1)

pub made_last : (left : List Change) (c : Change) (rows : List StoredRow) → AllMade (left ++ c ∷ []) rows
    → set_row c.table c.row c.new (rows_before c rows) ≡ rows
made_last [] c rows h = h.0
made_last (x ∷ left) c rows h = made_last left c rows h.1

-- ---- the lengths of the journal at marks

pub top_above : (low : ℕ) (marks : List MarkedPoint) (top : ℕ) → NeverFalls low marks top → low ≤ top
top_above low [] top h = h
top_above low (m ∷ marks) top h = let le : m.noted ≤ top = top_above m.noted marks top h.1 in omega (arith, h.0, le)

pub falls_more : (low : ℕ) (marks : List MarkedPoint) (top higher : ℕ) → top ≤ higher → NeverFalls low marks top → NeverFalls low marks higher
falls_more low [] top higher le h = omega (arith, le, h)
falls_more low (m ∷ marks) top higher le h = (h.0, falls_more m.noted marks top higher le h.1)

pub falls_marked : (low : ℕ) (marks : List MarkedPoint) (top : ℕ) (m : MarkedPoint) → m.noted ≡ top → NeverFalls low marks top → NeverFalls low (marks ++ m ∷ []) top
falls_marked low [] top m e h = (omega (arith, e, h), omega (arith, e))
falls_marked low (x ∷ marks) top m e h = (h.0, falls_marked x.noted marks top m e h.1)

from_below : (low up : ℕ) (marks : List MarkedPoint) (top : ℕ) → low ≤ up → NeverFalls up marks top → NeverFalls low marks top
from_below low up [] top le h = omega (arith, le, h)
from_below low up (m ∷ marks) top le h = (omega (arith, le, h.0), h.1)

pub falls_without : (low : ℕ) (marks : List MarkedPoint) (n top : ℕ) → NeverFalls low marks top → NeverFalls low (remove marks n) top
falls_without low [] zero top h = h
falls_without low [] (suc n) top h = h
falls_without low (m ∷ marks) zero top h = from_below low m.noted marks top h.0 h.1
falls_without low (m ∷ marks) (suc n) top h = (h.0, falls_without m.noted marks n top h.1)

pub falls_taken : (low : ℕ) (marks : List MarkedPoint) (n top : ℕ) → NeverFalls low marks top → NeverFalls low (take n marks) top
falls_taken low marks zero top h = top_above low marks top h
falls_taken low [] (suc n) top h = h
falls_taken low (m ∷ marks) (suc n) top h = (h.0, falls_taken m.noted marks n top h.1)

-- the marks up to one, up to that one's length
pub falls_to : (low : ℕ) (marks : List MarkedPoint) (n top : ℕ) (m : MarkedPoint) → slice_get marks n ≡ Some m → NeverFalls low marks top
    → NeverFalls low (take (suc n) marks) m.noted
falls_to low [] n top m e h = cc
falls_to low (x ∷ marks) zero top m e h = (let it : x ≡ m = cc in subst (λ (z : MarkedPoint). (low ≤ x.noted) × (x.noted ≤ z.noted)) it (h.0, omega arith))
falls_to low (x ∷ marks) (suc n) top m e h = (h.0, falls_to x.noted marks n top m e h.1)

pub falls_at : (low : ℕ) (marks : List MarkedPoint) (n top : ℕ) (m : MarkedPoint) → slice_get marks n ≡ Some m → NeverFalls low marks top → m.noted ≤ top
falls_at low [] n top m e h = cc
falls_at low (x ∷ marks) zero top m e h = (let it : x ≡ m = cc in subst (λ (z : MarkedPoint). z.noted ≤ top) it (top_above x.noted marks top h.1))
falls_at low (x ∷ marks) (suc n) top m e h = falls_at x.noted marks n top m e h.1

-- ---- the marked databases

one_more_change : (j : List Change) (c : Change) (rows after : List StoredRow) (m : MarkedPoint) → m.noted ≤ length j → rows_before c after ≡ rows
    → database_at (j ++ c ∷ []) after m ≡ database_at j rows m
one_more_change j c rows after m le e =
    ap (λ (l : List StoredRow). record { rows = l; next = m.next; count = m.noted })
    (ap (λ l. rows_before_all l after) (drop_more m.noted j c le) ∙ joined (drop m.noted j) (c ∷ []) after ∙ ap (rows_before_all (drop m.noted j)) e)

-- A change that is noted leaves the marked databases; and so does one that is undone.
pub marked_with_change : (low : ℕ) (marks : List MarkedPoint) (j : List Change) (c : Change) (rows after : List StoredRow) → NeverFalls low marks (length j)
    → rows_before c after ≡ rows → databases_at (j ++ c ∷ []) after marks ≡ databases_at j rows marks
marked_with_change low [] j c rows after h e = refl
marked_with_change low (m ∷ marks) j c rows after h e =
    ap (λ d. d ∷ databases_at (j ++ c ∷ []) after marks) (one_more_change j c rows after m (top_above m.noted marks (length j) h.1) e)
    ∙ ap (λ l. database_at j rows m ∷ l) (marked_with_change m.noted marks j c rows after h.1 e)

-- if nothing is noted since a mark, its database has these rows
pub marked_now : (j : List Change) (rows : List StoredRow) (m : MarkedPoint) → length j ≤ m.noted
    → database_at j rows m ≡ record { rows = rows; next = m.next; count = m.noted }
marked_now j rows m le = ap (λ (l : List Change). record { rows = rows_before_all l rows; next = m.next; count = m.noted }) (drop_all m.noted j le)

pub each_more : (dbs : List Database) (db : Database) → EachInBounds dbs → EachInBounds (db ∷ []) → EachInBounds (dbs ++ db ∷ [])
each_more [] db h g = g
each_more (d ∷ dbs) db h g = (h.0, each_more dbs db h.1 g)

pub each_taken : (n : ℕ) (dbs : List Database) → EachInBounds dbs → EachInBounds (take n dbs)
each_taken zero dbs h = tt
each_taken (suc n) [] h = tt
each_taken (suc n) (db ∷ dbs) h = (h.0, each_taken n dbs h.1)

pub each_without : (dbs : List Database) (n : ℕ) → EachInBounds dbs → EachInBounds (remove dbs n)
each_without [] zero h = h
each_without [] (suc n) h = h
each_without (db ∷ dbs) zero h = h.1
each_without (db ∷ dbs) (suc n) h = (h.0, each_without dbs n h.1)

-- ---- the rows of changes are below a number

pub below_higher : (next higher : ℕ) (cs : List Change) → next ≤ higher → AllBelow next cs → AllBelow higher cs
below_higher next higher [] le h = tt
below_higher next higher (c ∷ cs) le h = (h.0, omega (arith, le, h.1), below_higher next higher cs le h.2)

pub below_more : (next : ℕ) (cs : List Change) (c : Change) → 0 < c.row → c.row < next → AllBelow next cs → AllBelow next (cs ++ c ∷ [])
below_more next [] c p l h = (p, l, tt)
below_more next (x ∷ cs) c p l h = (h.0, h.1, below_more next cs c p l h.2)

pub below_fewer : (next : ℕ) (cs : List Change) (c : Change) → AllBelow next (cs ++ c ∷ []) → AllBelow next cs
below_fewer next [] c h = tt
below_fewer next (x ∷ cs) c h = (h.0, h.1, below_fewer next cs c h.2)

pub below_last : (next : ℕ) (cs : List Change) (c : Change) → AllBelow next (cs ++ c ∷ []) → (0 < c.row) × (c.row < next)
below_last next [] c h = (h.0, h.1)
below_last next (x ∷ cs) c h = below_last next cs c h.2

-- the same before each mark, after a change more or less
pub before_same : (low : ℕ) (marks : List MarkedPoint) (j : List Change) (c : Change) → NeverFalls low marks (length j)
    → EachBelow (j ++ c ∷ []) marks ≡ EachBelow j marks
before_same low [] j c h = refl
before_same low (m ∷ marks) j c h =
    ap (λ (l : List Change). AllBelow m.next l × EachBelow (j ++ c ∷ []) marks) (take-append-le m.noted j (c ∷ []) (top_above m.noted marks (length j) h.1))
    ∙ ap (λ T. AllBelow m.next (take m.noted j) × T) (before_same m.noted marks j c h.1)

pub before_more : (marks : List MarkedPoint) (j : List Change) (m : MarkedPoint) → length j ≤ m.noted → AllBelow m.next j → EachBelow j marks
    → EachBelow j (marks ++ m ∷ [])
before_more [] j m le a h = (subst (λ (l : List Change). AllBelow m.next l) (sym (take_all m.noted j le)) a, tt)
before_more (x ∷ marks) j m le a h = (h.0, before_more marks j m le a h.1)

pub before_taken : (n : ℕ) (marks : List MarkedPoint) (j : List Change) → EachBelow j marks → EachBelow j (take n marks)
before_taken zero marks j h = tt
before_taken (suc n) [] j h = tt
before_taken (suc n) (m ∷ marks) j h = (h.0, before_taken n marks j h.1)

pub before_without : (marks : List MarkedPoint) (n : ℕ) (j : List Change) → EachBelow j marks → EachBelow j (remove marks n)
before_without [] zero j h = h
before_without [] (suc n) j h = h
before_without (m ∷ marks) zero j h = h.1
before_without (m ∷ marks) (suc n) j h = (h.0, before_without marks n j h.1)

pub before_at : (marks : List MarkedPoint) (n : ℕ) (j : List Change) (m : MarkedPoint) → slice_get marks n ≡ Some m → length j ≤ m.noted → EachBelow j marks
    → AllBelow m.next j
before_at [] n j m e le h = cc
before_at (x ∷ marks) zero j m e le h =
    (let it : x ≡ m = cc in
    subst (λ (l : List Change). AllBelow m.next l) (take_all m.noted j le) (subst (λ (z : MarkedPoint). AllBelow z.next (take z.noted j)) it h.0))
before_at (x ∷ marks) (suc n) j m e le h = before_at marks n j m e le h.1

-- ---- the mark of a place

pub noted_is : (marks : List MarkedPoint) (n : ℕ) (m : MarkedPoint) → slice_get marks n ≡ Some m → noted_at marks n ≡ m.noted
noted_is marks n m e = ap (λ o. elim o [ Some m ↦ m.noted | None ↦ 0 ]) e

pub marked_at : (j : List Change) (rows : List StoredRow) (marks : List MarkedPoint) (n : ℕ) (m : MarkedPoint) → slice_get marks n ≡ Some m
    → slice_get (databases_at j rows marks) n ≡ Some (database_at j rows m)
marked_at j rows [] n m e = cc
marked_at j rows (x ∷ marks) zero m e = (let it : x ≡ m = cc in ap (λ (z : MarkedPoint). Some (database_at j rows z)) it)
marked_at j rows (x ∷ marks) (suc n) m e = marked_at j rows marks n m e
