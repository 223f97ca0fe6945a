-- The kinds that rows are known to be of, change by change.
use Rattle.std.proofs.Common.{◌≡◌, refl, ℕ, zero, suc, ◌+◌, ◌<◌, Bool, true, false, not, if◌then◌else◌, Option, Some, None, option_map, Result, Ok, Err, OnOk, OnErr, List, [], ◌∷◌, ◌++◌, length, take, drop, slice_get, IfSome, sym, ap, subst, ◌∙◌}
use Rattle.std.specs.Bool.{◌==◌}
use Rattle.std.proofs.lemmas.Bool.{eqb-true}
use Rattle.std.proofs.lemmas.List.{length-append}
use Rattle.iv_store_index.specs.Types.{Value, StoredRow, Change, Table}
use Rattle.iv_store_index.specs.Kept.{HasTables, OfTables}
use Rattle.iv_store_index.specs.Known.{AreKnown, FitsWhereSaid, IsKnownToFit, IsKnownWhere, OldsAreKnown}
use Rattle.iv_store_index.specs.declared.kinds.ColumnKinds.{ColumnKinds}
use Rattle.iv_expr.specs.Scopes.{table_rows}
use Rattle.iv_expr.specs.Searches.{AllFit, Fits}
use Rattle.iv_machine.specs.SetRows.{set_row}
use Rattle.iv_laws_levels.specs.RisingRows.{Every}
use Rattle.iv_machine.specs.declared.database.Database.{Database}
use Rattle.iv_machine.specs.Databases.{row_at}
use Rattle.iv_machine.specs.Waves.{values_at}
use Rattle.iv_store_rows.specs.Histories.{History, Marked, at_mark, history_after, marked_of, noted_at, rows_before_all}
use Rattle.iv_store_rows.proofs.Histories.{there}
use Rattle.iv_store_rows.proofs.Marks as rows
use Rattle.iv_store_index.proofs.Keeping.{or_base}
use Rattle.iv_store_index.proofs.Tables.{every_filter, every_with}

abbrev pub is_known : List ColumnKinds → StoredRow → Type 0
is_known known r = IsKnownToFit known r.table r.values

-- ---- changes

known_set : (known : List ColumnKinds) (table number : ℕ) (values : Option (List Value)) (rows : List StoredRow) → IsKnownWhere known table values → Every (is_known known) rows
    → Every (is_known known) (set_row table number values rows)
known_set known table number (Some values) rows fit h = every_with (is_known known) (record { table = table; number = number; values = values }) rows fit h
known_set known table number None rows fit h = every_filter (is_known known) (λ r. not (number == r.number)) rows h

known_before : (known : List ColumnKinds) (changes : List Change) (rows : List StoredRow) → OldsAreKnown known changes → Every (is_known known) rows → Every (is_known known) (rows_before_all changes rows)
known_before known [] rows o h = h
known_before known (c ∷ changes) rows o h = known_set known c.table c.row c.old (rows_before_all changes rows) o.0 (known_before known changes rows o.1 h)

olds_dropped : (known : List ColumnKinds) (n : ℕ) (changes : List Change) → OldsAreKnown known changes → OldsAreKnown known (drop n changes)
olds_dropped known zero changes o = o
olds_dropped known (suc n) [] o = tt
olds_dropped known (suc n) (c ∷ changes) o = olds_dropped known n changes o.1

olds_taken : (known : List ColumnKinds) (n : ℕ) (changes : List Change) → OldsAreKnown known changes → OldsAreKnown known (take n changes)
olds_taken known zero changes o = tt
olds_taken known (suc n) [] o = tt
olds_taken known (suc n) (c ∷ changes) o = (o.0, olds_taken known n changes o.1)

olds_more : (known : List ColumnKinds) (changes : List Change) (c : Change) → IsKnownWhere known c.table c.old → OldsAreKnown known changes → OldsAreKnown known (changes ++ c ∷ [])
olds_more known [] c fit o = (fit, tt)
olds_more known (x ∷ changes) c fit o = (o.0, olds_more known changes c fit o.1)

every_at : (P : StoredRow → Type 0) (rows : List StoredRow) (n : ℕ) (r : StoredRow) → row_at rows n ≡ Some r → Every P rows → P r
every_at P [] n r e h = absurd (none e)
  where
    none : ◌≡◌ {A = Option StoredRow} None (Some r) → ⊥
    none x = cc
every_at P (x ∷ rows) n r e h = by (x.number == n) e (λ g. every_at P rows n r g h.1)
  where
    some_row : (a b : StoredRow) → ◌≡◌ {A = Option StoredRow} (Some a) (Some b) → a ≡ b
    some_row a b q = cc

    by : (b : Bool) → (if b then Some x else row_at rows n) ≡ Some r → (row_at rows n ≡ Some r → P r) → P r
    by true q more = subst P (some_row x r q) h.0
    by false q more = more q

-- what a change takes away is a row that was there
old_known : (known : List ColumnKinds) (rows : List StoredRow) (c : Change) → values_at rows c.row ≡ c.old → IfSome (row_at rows c.row) (λ row. row.table ≡ c.table) → Every (is_known known) rows
    → IsKnownWhere known c.table c.old
old_known known rows c current own h = subst (λ (o : Option (List Value)). IsKnownWhere known c.table o) current (by (row_at rows c.row) refl own)
  where
    by : (o : Option StoredRow) → row_at rows c.row ≡ o → IfSome o (λ row. row.table ≡ c.table) → IsKnownWhere known c.table (option_map (λ r. r.values) o)
    by None e t = tt
    by (Some r) e t = subst (λ n. IsKnownToFit known n r.values) t (every_at (is_known known) rows c.row r e h)

known_after : (known : List ColumnKinds) (h : History) (c : Change) → values_at h.rows c.row ≡ c.old → IfSome (row_at h.rows c.row) (λ row. row.table ≡ c.table) → IsKnownWhere known c.table c.new
    → AreKnown known h → AreKnown known (history_after h c)
known_after known h c current own new k = record {
  rows = known_set known c.table c.row c.new h.rows new k.rows;
  olds = olds_more known h.journal c (old_known known h.rows c current own k.rows) k.olds;
}

-- ---- what is known later

every_stays : (old new : List ColumnKinds) (rows : List StoredRow) → ((t : ℕ) (row : List Value) → IsKnownToFit old t row → IsKnownToFit new t row) → Every (is_known old) rows → Every (is_known new) rows
every_stays old new [] stays h = tt
every_stays old new (r ∷ rows) stays h = (stays r.table r.values h.0, every_stays old new rows stays h.1)

olds_stay : (old new : List ColumnKinds) (changes : List Change) → ((t : ℕ) (row : List Value) → IsKnownToFit old t row → IsKnownToFit new t row) → OldsAreKnown old changes → OldsAreKnown new changes
olds_stay old new [] stays o = tt
olds_stay old new (c ∷ changes) stays o = (by c.old o.0, olds_stay old new changes stays o.1)
  where
    by : (v : Option (List Value)) → IsKnownWhere old c.table v → IsKnownWhere new c.table v
    by None h = tt
    by (Some row) h = stays c.table row h

known_stays : (old new : List ColumnKinds) (h : History) → ((t : ℕ) (row : List Value) → IsKnownToFit old t row → IsKnownToFit new t row) → AreKnown old h → AreKnown new h
known_stays old new h stays k = record { rows = every_stays old new h.rows stays k.rows; olds = olds_stay old new h.journal stays k.olds }

-- after a change that may be refused
pub known_made : {A E : Type 0} (r : Result A E) (old new : List ColumnKinds) (h later : History) (c : Change) → ((t : ℕ) (row : List Value) → IsKnownToFit old t row → IsKnownToFit new t row)
    → IsKnownWhere new c.table c.new → OnOk r (later ≡ history_after h c) → OnErr r (later ≡ h) → values_at h.rows c.row ≡ c.old → IfSome (row_at h.rows c.row) (λ row. row.table ≡ c.table)
    → AreKnown old h → AreKnown new later
known_made (Ok a) old new h later c stays fit ok err current own k = subst (λ (x : History). AreKnown new x) (sym ok) (known_after new h c current own fit (known_stays old new h stays k))
known_made (Err e) old new h later c stays fit ok err current own k = subst (λ (x : History). AreKnown new x) (sym err) (known_stays old new h stays k)

-- ---- a table more

every_added : (old new : List ColumnKinds) (rows : List StoredRow) → ((t : ℕ) → t < length old → slice_get new t ≡ slice_get old t) → Every (λ r. r.table < length old) rows → Every (is_known old) rows
    → Every (is_known new) rows
every_added old new [] same t h = tt
every_added old new (r ∷ rows) same t h =
    (subst (FitsWhereSaid r.values) (sym (same r.table t.0)) h.0, every_added old new rows same t.1 h.1)

olds_added : (old new : List ColumnKinds) (changes : List Change) → ((t : ℕ) → t < length old → slice_get new t ≡ slice_get old t) → OfTables (length old) changes → OldsAreKnown old changes
    → OldsAreKnown new changes
olds_added old new [] same t o = tt
olds_added old new (c ∷ changes) same t o = (by c.old o.0, olds_added old new changes same t.1 o.1)
  where
    by : (v : Option (List Value)) → IsKnownWhere old c.table v → IsKnownWhere new c.table v
    by None h = tt
    by (Some row) h = subst (FitsWhereSaid row) (sym (same c.table t.0)) h

pub known_added : (old new : List ColumnKinds) (tables : ℕ) (h : History) → length old ≡ tables → ((t : ℕ) → t < length old → slice_get new t ≡ slice_get old t)
    → HasTables tables h → AreKnown old h → AreKnown new h
known_added old new tables h count same t k =
    let own : HasTables (length old) h = subst (λ n. HasTables n h) (sym count) t in
    record { rows = every_added old new h.rows same own.rows k.rows; olds = olds_added old new h.journal same own.journal k.olds }

-- as many as there are tables
pub as_many : {A E : Type 0} (r : Result A E) (old new : List ColumnKinds) (olds news : List Table) (table : Table) → OnOk r (length new ≡ length old + 1) → OnErr r (length new ≡ length old)
    → OnOk r (news ≡ olds ++ table ∷ []) → OnErr r (news ≡ olds) → length old ≡ length olds → length new ≡ length news
as_many (Ok a) old new olds news table longer same ok err count =
    longer ∙ ap (λ n. n + 1) count ∙ sym (ap (λ (l : List Table). length l) ok ∙ length-append olds (table ∷ []))
as_many (Err e) old new olds news table longer same ok err count = same ∙ count ∙ sym (ap (λ (l : List Table). length l) err)

-- ---- marks

pub known_same : (known : List ColumnKinds) (h new : History) → new.rows ≡ h.rows → new.journal ≡ h.journal → AreKnown known h → AreKnown known new
known_same known h new rows journal k = record {
  rows = subst (λ (l : List StoredRow). Every (is_known known) l) (sym rows) k.rows;
  olds = subst (λ (l : List Change). OldsAreKnown known l) (sym journal) k.olds;
}

pub known_back : (known : List ColumnKinds) (place : ℕ) (h new : History) → place < length h.marks → marked_of new ≡ at_mark (marked_of h) place → new.journal ≡ take (noted_at h.marks place) h.journal
    → AreKnown known h → AreKnown known new
known_back known place h new less at journal k =
    let m = there h.marks place less in
    let rows_are : new.rows ≡ rows_before_all (drop m.0.noted h.journal) h.rows = ap (λ (x : Marked). x.base.rows) at
    ∙ ap (λ (o : Option Database). (or_base (marked_of h).base o).rows) (rows.marked_at h.journal h.rows h.marks place m.0 m.1) in
    record {
      rows = subst (λ (l : List StoredRow). Every (is_known known) l) (sym rows_are)
          (known_before known (drop m.0.noted h.journal) h.rows (olds_dropped known m.0.noted h.journal k.olds) k.rows);
      olds = subst (λ (l : List Change). OldsAreKnown known l) (sym journal) (olds_taken known (noted_at h.marks place) h.journal k.olds);
    }

-- ---- what a search is told

pub all_fit_of : (known : List ColumnKinds) (k : ColumnKinds) (table : ℕ) (rows : List StoredRow) → slice_get known table ≡ Some k → k.all_fit ≡ true → Every (is_known known) rows
    → AllFit k.kinds.items (table_rows rows table)
all_fit_of known k table [] at fit h = tt
all_fit_of known k table (r ∷ rows) at fit h = by (r.table == table) refl (all_fit_of known k table rows at fit h.1)
  where
    own : r.table ≡ table → Fits k.kinds.items r.values
    own e =
        subst (FitsWhereSaid r.values) (ap (slice_get known) e ∙ at) h.0 fit

    by : (b : Bool) → (r.table == table) ≡ b → AllFit k.kinds.items (table_rows rows table) → AllFit k.kinds.items (if b then r ∷ table_rows rows table else table_rows rows table)
    by true e rest = (own (eqb-true r.table table e), rest)
    by false e rest = rest
