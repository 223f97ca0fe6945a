-- The tables of rows and changes.
use Rattle.std.proofs.Common.{◌≡◌, refl, ℕ, zero, suc, ◌+◌, ◌<◌, ◌≤◌, Bool, true, false, ◌&&◌, not, if◌then◌else◌, Option, Some, None, Result, Ok, Err, OnOk, OnErr, List, [], ◌∷◌, ◌++◌, length, take, drop, filter, slice_get, arith, sym, ap, subst, ◌∙◌}
use Rattle.std.specs.Bool.{◌==◌, nat_lt}
use Rattle.std.proofs.lemmas.List.{length-append}
use Rattle.std.proofs.lemmas.Bool.{eqb-true}
use Rattle.iv_store_index.specs.Types.{Value, StoredRow, Change, Table, Constraint}
use Rattle.iv_store_index.specs.Kept.{HasTables, OfTables}
use Rattle.iv_value.specs.Values.{all_same}
use Rattle.iv_catalogue.specs.Catalogues.{AllOn}
use Rattle.iv_laws_levels.specs.RisingRows.{Every}
use Rattle.iv_machine.specs.Databases.{rows_with, satisfies, violates}
use Rattle.iv_store.specs.Stores.{numbers_of}
use Rattle.iv_machine.specs.SetRows.{set_row}
use Rattle.iv_store_rows.specs.Histories.{History, history_after, rows_before_all}
use Rattle.iv_laws_kept.specs.Kept.{is_kept_under, kept_key}
use Rattle.iv_store_faults.specs.Watching.{NoneViolates}

abbrev pub of_tables : ℕ → StoredRow → Type 0
of_tables tables r = r.table < tables

pub every_with : (P : StoredRow → Type 0) (x : StoredRow) (rows : List StoredRow) → P x → Every P rows → Every P (rows_with x rows)
every_with P x [] p h = (p, tt)
every_with P x (r ∷ rows) p h = by (nat_lt x.number r.number) (x.number == r.number) (every_with P x rows p h.1)
  where
    by : (a b : Bool) → Every P (rows_with x rows) → Every P (if a then x ∷ r ∷ rows else (if b then x ∷ rows else r ∷ rows_with x rows))
    by true b more = (p, h)
    by false true more = (p, h.1)
    by false false more = (h.0, more)

pub every_filter : (P : StoredRow → Type 0) (p : StoredRow → Bool) (rows : List StoredRow) → Every P rows → Every P (filter p rows)
every_filter P p [] h = tt
every_filter P p (r ∷ rows) h = by (p r) (every_filter P p rows h.1)
  where
    by : (b : Bool) → Every P (filter p rows) → Every P (if b then r ∷ filter p rows else filter p rows)
    by true more = (h.0, more)
    by false more = more

pub every_set : (tables table number : ℕ) (values : Option (List Value)) (rows : List StoredRow) → table < tables → Every (of_tables tables) rows → Every (of_tables tables) (set_row table number values rows)
every_set tables table number (Some values) rows less h = every_with (of_tables tables) (record { table = table; number = number; values = values }) rows less h
every_set tables table number None rows less h = every_filter (of_tables tables) (λ r. not (number == r.number)) rows h

-- the tables of the rows before changes
pub every_before : (tables : ℕ) (changes : List Change) (rows : List StoredRow) → OfTables tables changes → Every (of_tables tables) rows → Every (of_tables tables) (rows_before_all changes rows)
every_before tables [] rows o h = h
every_before tables (c ∷ changes) rows o h = every_set tables c.table c.row c.old (rows_before_all changes rows) o.0 (every_before tables changes rows o.1 h)

of_dropped : (tables n : ℕ) (changes : List Change) → OfTables tables changes → OfTables tables (drop n changes)
of_dropped tables zero changes o = o
of_dropped tables (suc n) [] o = tt
of_dropped tables (suc n) (c ∷ changes) o = of_dropped tables n changes o.1

pub of_taken : (tables n : ℕ) (changes : List Change) → OfTables tables changes → OfTables tables (take n changes)
of_taken tables zero changes o = tt
of_taken tables (suc n) [] o = tt
of_taken tables (suc n) (c ∷ changes) o = (o.0, of_taken tables n changes o.1)

pub every_at : (tables n : ℕ) (journal : List Change) (rows : List StoredRow) → OfTables tables journal → Every (of_tables tables) rows → Every (of_tables tables) (rows_before_all (drop n journal) rows)
every_at tables n journal rows o h = every_before tables (drop n journal) rows (of_dropped tables n journal o) h

of_more : (tables : ℕ) (changes : List Change) (c : Change) → c.table < tables → OfTables tables changes → OfTables tables (changes ++ c ∷ [])
of_more tables [] c less o = (less, tt)
of_more tables (x ∷ changes) c less o = (o.0, of_more tables changes c less o.1)

-- after one change more
pub tables_after : (tables : ℕ) (h : History) (c : Change) → c.table < tables → HasTables tables h → HasTables tables (history_after h c)
tables_after tables h c less t = record {
  rows = every_set tables c.table c.row c.new h.rows less t.rows;
  journal = of_more tables h.journal c less t.journal;
}

-- with more tables
every_more : (some more : ℕ) (rows : List StoredRow) → some ≤ more → Every (of_tables some) rows → Every (of_tables more) rows
every_more some more [] le h = tt
every_more some more (r ∷ rows) le h = (omega (arith, le, h.0), every_more some more rows le h.1)

of_higher : (some more : ℕ) (changes : List Change) → some ≤ more → OfTables some changes → OfTables more changes
of_higher some more [] le o = tt
of_higher some more (c ∷ changes) le o = (omega (arith, le, o.0), of_higher some more changes le o.1)

pub tables_more : (some more : ℕ) (h : History) → some ≤ more → HasTables some h → HasTables more h
tables_more some more h le t = record { rows = every_more some more h.rows le t.rows; journal = of_higher some more h.journal le t.journal }

-- ---- a table of no row

other_table : (a b n : ℕ) → a < n → b ≡ n → (a == b) ≡ false
other_table a b n less e = by (a == b) refl
  where
    by : (x : Bool) → (a == b) ≡ x → x ≡ false
    by true s = let is : a ≡ b = eqb-true a b s in absurd (omega (arith, less, e, is))
    by false s = refl

none_pass : (p : StoredRow → Bool) (tables table : ℕ) (rows : List StoredRow) → table ≡ tables → Every (of_tables tables) rows → ((r : StoredRow) → (r.table == table) ≡ false → p r ≡ false)
    → ◌≡◌ {A = List StoredRow} (filter p rows) []
none_pass p tables table [] e h other = refl
none_pass p tables table (r ∷ rows) e h other =
    ap (λ b. if b then r ∷ filter p rows else filter p rows) (other r (other_table r.table table tables h.0 e)) ∙ none_pass p tables table rows e h.1 other

pub none_kept : (tables : ℕ) (c : Constraint) (key : List Value) (rows : List StoredRow) → c.table ≡ tables → Every (of_tables tables) rows → numbers_of (filter (is_kept_under c key) rows) ≡ []
none_kept tables c key rows e h =
    ap numbers_of (none_pass (is_kept_under c key) tables c.table rows e h (λ r other. ap (λ b. b && elim (kept_key c.rule r.values) [ Some k ↦ all_same k key | None ↦ false ]) other))

all_on : (table : ℕ) (constraints : List Constraint) (k : ℕ) (c : Constraint) → AllOn table constraints → slice_get constraints k ≡ Some c → c.table ≡ table
all_on table [] k c o e = absurd (none k e)
  where
    none : (k : ℕ) → slice_get {X = Constraint} [] k ≡ Some c → ⊥
    none zero e = cc
    none (suc k) e = cc
all_on table (x ∷ constraints) zero c o e = (let it : x ≡ c = cc in subst (λ (y : Constraint). y.table ≡ table) it o.0)
all_on table (x ∷ constraints) (suc k) c o e = all_on table constraints k c o.1 e

pub none_violates : (tables : ℕ) (constraints : List Constraint) (rows : List StoredRow) → AllOn tables constraints → Every (of_tables tables) rows → NoneViolates rows constraints
none_violates tables constraints rows on h k c at =
    none_pass (violates rows c) tables c.table rows (all_on tables constraints k c on at) h (λ r other. ap (λ b. b && not (satisfies rows c r)) other)

pub own_table : (table : ℕ) (constraints : List Constraint) (k : ℕ) (c : Constraint) → AllOn table constraints → slice_get constraints k ≡ Some c → c.table ≡ table
own_table = all_on

-- after a call that may be refused
pub tables_made : {A E : Type 0} (r : Result A E) (tables : ℕ) (h new : History) (c : Change) → OnOk r (new ≡ history_after h c) → OnErr r (new ≡ h) → c.table < tables → HasTables tables h → HasTables tables new
tables_made (Ok a) tables h new c ok err less t = subst (λ (x : History). HasTables tables x) (sym ok) (tables_after tables h c less t)
tables_made (Err e) tables h new c ok err less t = subst (λ (x : History). HasTables tables x) (sym err) t

pub tables_added : {A E : Type 0} (r : Result A E) (olds new : List Table) (table : Table) (h : History) → OnOk r (new ≡ olds ++ table ∷ []) → OnErr r (new ≡ olds) → HasTables (length olds) h → HasTables (length new) h
tables_added (Ok a) olds new table h ok err t =
    let longer : length new ≡ length olds + 1 = ap (λ (l : List Table). length l) ok ∙ length-append olds (table ∷ []) in
    tables_more (length olds) (length new) h (omega (arith, longer)) t
tables_added (Err e) olds new table h ok err t = subst (λ (l : List Table). HasTables (length l) h) (sym err) t
