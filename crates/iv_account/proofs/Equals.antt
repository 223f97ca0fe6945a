-- The first row that passes a test among rows of a table, found by one look after another; and that it is the first of the whole table.
use Rattle.std.proofs.Common.{◌≡◌, refl, ◌∙◌, ℕ, ◌==◌, Bool, true, false, if◌then◌else◌, Option, Some, None, IfSome, option_map, List, [], ◌∷◌, filter, find, ap, sym}
use Rattle.std.specs.Prelude.{nat_lt}
use Rattle.std.proofs.lemmas.Bool.{eqb-true}
use Rattle.iv_expr.specs.declared.row.StoredRow.{StoredRow}
use Rattle.iv_value.specs.declared.value.Value.{Value}
use Rattle.iv_expr.specs.Found.{AreThere, searched}
use Rattle.iv_expr.specs.Scopes.{Rises, row_above, numbered, table_rows}
use Rattle.iv_expr.specs.Searches.{AreAmong, AreHolders, has_all, is_among, numbers_of, rows_among}
use Rattle.iv_expr.proofs.Scan.{rows_above, above_next, found_row, found_none, above_none}
use Rattle.iv_expr.proofs.Sought.{among_is}

-- ---- rows of one table

abbrev pub AllOn : ℕ → List StoredRow → Type 0
AllOn t [] = Unit {0}
AllOn t (r ∷ rows) = (r.table ≡ t) × AllOn t rows

table_on : (t : ℕ) (rows : List StoredRow) → AllOn t (table_rows rows t)
table_on t [] = tt
table_on t (r ∷ rows) = by (r.table == t) refl (table_on t rows)
  where
    by : (b : Bool) → (r.table == t) ≡ b → AllOn t (table_rows rows t) → AllOn t (if b then r ∷ table_rows rows t else table_rows rows t)
    by true e h = (eqb-true r.table t e, h)
    by false e h = h

part_on : (t : ℕ) (p : StoredRow → Bool) (rows : List StoredRow) → AllOn t rows → AllOn t (filter p rows)
part_on t p [] h = tt
part_on t p (r ∷ rows) h = by (p r) (part_on t p rows h.1)
  where
    by : (b : Bool) → AllOn t (filter p rows) → AllOn t (if b then r ∷ filter p rows else filter p rows)
    by true rest = (h.0, rest)
    by false rest = rest

pub searched_on : (found : Option (List ℕ)) (t : ℕ) (rows : List StoredRow) → AllOn t (searched found (table_rows rows t))
searched_on None t rows = table_on t rows
searched_on (Some numbers) t rows = part_on t (λ r. is_among numbers r.number) (table_rows rows t) (table_on t rows)

above_on : (t n : ℕ) (rows : List StoredRow) (r : StoredRow) → AllOn t rows → row_above n rows ≡ Some r → r.table ≡ t
above_on t n [] r on h = cc
above_on t n (x ∷ rows) r on h = by (nat_lt n x.number) h (λ e. above_on t n rows r on.1 e)
  where
    some_is : (a b : StoredRow) → ◌≡◌ {A = Option StoredRow} (Some a) (Some b) → a ≡ b
    some_is a b e = cc

    by : (b : Bool) → (if b then Some x else row_above n rows) ≡ Some r → (row_above n rows ≡ Some r → r.table ≡ t) → r.table ≡ t
    by true e further = ap (λ (y : StoredRow). y.table) (sym (some_is x r e)) ∙ on.0
    by false e further = further e

-- ---- one look after another

-- what a look found, as a row of the table
row_at_look : (t n : ℕ) (rows : List StoredRow) (p : ℕ × List Value) → AllOn t rows → Rises 0 rows → Some p ≡ option_map numbered (row_above n rows)
    → rows_above n rows ≡ record { table = t; number = p.0; values = p.1 } ∷ rows_above p.0 rows
row_at_look t n rows p on up h =
    let f = found_row (row_above n rows) p h in
    let same : f.0 ≡ record { table = t; number = p.0; values = p.1 } = λ i. record { table = above_on t n rows f.0 on f.1 i; number = f.2 i; values = f.3 i } in
    above_next 0 n rows f.0 up f.1 ∙ ap (λ (r : StoredRow). r ∷ rows_above r.number rows) same

-- the look found a row that passes
pub passes : (test : StoredRow → Bool) (t n : ℕ) (rows : List StoredRow) (p : ℕ × List Value) → AllOn t rows → Rises 0 rows
    → Some p ≡ option_map numbered (row_above n rows) → test (record { table = t; number = p.0; values = p.1 }) ≡ true
    → (said : Option StoredRow) → find test (rows_above n rows) ≡ said → Some (record { table = t; number = p.0; values = p.1 }) ≡ said
passes test t n rows p on up h e said so_far =
    let r : StoredRow = record { table = t; number = p.0; values = p.1 } in
    sym (ap (find test) (row_at_look t n rows p on up h) ∙ ap (λ b. if b then Some r else find test (rows_above p.0 rows)) e) ∙ so_far

-- one that doesn't
pub passes_by : (test : StoredRow → Bool) (t n : ℕ) (rows : List StoredRow) (p : ℕ × List Value) → AllOn t rows → Rises 0 rows
    → Some p ≡ option_map numbered (row_above n rows) → test (record { table = t; number = p.0; values = p.1 }) ≡ false
    → (said : Option StoredRow) → find test (rows_above n rows) ≡ said → find test (rows_above p.0 rows) ≡ said
passes_by test t n rows p on up h e said so_far =
    let r : StoredRow = record { table = t; number = p.0; values = p.1 } in
    sym (ap (find test) (row_at_look t n rows p on up h) ∙ ap (λ b. if b then Some r else find test (rows_above p.0 rows)) e) ∙ so_far

-- no row is left
pub none_passes : (test : StoredRow → Bool) (n : ℕ) (rows : List StoredRow) → None ≡ option_map numbered (row_above n rows)
    → (said : Option StoredRow) → find test (rows_above n rows) ≡ said → None ≡ said
none_passes test n rows h said so_far = sym (ap (find test) (above_none n rows (found_none (row_above n rows) h))) ∙ so_far

-- ---- the first of the whole table

-- a row that passes is none of those that are left out
find_kept : (test p : StoredRow → Bool) (rows : List StoredRow) → ((r : StoredRow) → test r ≡ true → p r ≡ true) → find test (filter p rows) ≡ find test rows
find_kept test p [] h = refl
find_kept test p (r ∷ rows) h = by (p r) refl (find_kept test p rows h)
  where
    not_both : (b : Bool) → b ≡ true → b ≡ false → ⊥
    not_both b x y = cc

    fails : p r ≡ false → (b : Bool) → test r ≡ b → find test rows ≡ (if b then Some r else find test rows)
    fails out false e = refl
    fails out true e = absurd (not_both (p r) (h r e) out)

    by : (b : Bool) → p r ≡ b → find test (filter p rows) ≡ find test rows
        → find test (if b then r ∷ filter p rows else filter p rows) ≡ (if test r then Some r else find test rows)
    by true e rest = ap (λ (o : Option StoredRow). if test r then Some r else o) rest
    by false e rest = rest ∙ fails e (test r) refl

among_kept : (Has : List Value → Type 0) (rows : List StoredRow) (numbers : List ℕ) → Rises 0 rows → (held : AreAmong Has rows numbers)
    → rows_among numbers rows ≡ filter (λ r. held.0 r.values) rows
among_kept Has rows numbers up held =
    ap (λ (l : List ℕ). rows_among l rows) held.1 ∙ among_is 0 (λ r. held.0 r.values) rows up

pub are_there : (Has : List Value → Type 0) (rows : List StoredRow) (found : Option (List ℕ)) → Rises 0 rows → IfSome found (λ h. AreAmong Has rows h) → AreThere found rows
are_there Has rows None up held = tt
are_there Has rows (Some numbers) up held = held.1 ∙ sym (ap numbers_of (among_kept Has rows numbers up held))

pub first_of_all : (test : StoredRow → Bool) (Has : List Value → Type 0) (rows : List StoredRow) (found : Option (List ℕ)) → Rises 0 rows
    → IfSome found (λ h. AreAmong Has rows h) → ((r : StoredRow) → test r ≡ true → Has r.values)
    → find test (searched found rows) ≡ find test rows
first_of_all test Has rows None up held has = refl
first_of_all test Has rows (Some numbers) up held has =
    ap (find test) (among_kept Has rows numbers up held)
    ∙ find_kept test (λ r. held.0 r.values) rows (λ r e. held.2 r.values (has r e))

-- rows with the values asked for are among those with something, if what has it has these values
pub holders_among : (asked : List Value) (Has : List Value → Type 0) (rows : List StoredRow) (found : Option (List ℕ))
    → ((other : List Value) → Has other → has_all asked other ≡ true) → IfSome found (λ h. AreHolders asked rows h) → IfSome found (λ h. AreAmong Has rows h)
holders_among asked Has rows None has held = tt
holders_among asked Has rows (Some numbers) has held = (held.0, held.1, λ row h. held.2 row (has row h))

pub none_found : (test : StoredRow → Bool) (rows : List StoredRow) → ((r : StoredRow) → test r ≡ false) → None ≡ find test rows
none_found test [] h = refl
none_found test (r ∷ rows) h = none_found test rows h ∙ sym (ap (λ b. if b then Some r else find test rows) (h r))
