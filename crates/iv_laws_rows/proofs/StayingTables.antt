-- A row stays of its table, over a wave and over a chain of waves.
use Rattle.std.proofs.Common.{◌≡◌, ℕ, ◌<◌, ◌≤◌, Bool, true, false, if◌then◌else◌, List, [], ◌∷◌, ◌∙◌, Option, Some, None, refl, sym, ap, subst, inl, inr, arith}
use Rattle.iv_laws_rows.specs.Types.{Value, StoredRow, Change, Database}
use Rattle.iv_expr.specs.Changes.{Wave}
use Rattle.iv_machine.specs.Databases.{row_at, has_change, next_after, database_after}
use Rattle.iv_laws_levels.specs.FittingWaves.{old_row, Current, NumbersFrom, Numbered, FitsDatabase, Chain}
use Rattle.iv_laws_levels.proofs.RowNumbers.{some_none, some_same, number_of_row_at}
use Rattle.iv_laws_levels.proofs.AppliedRows.{row_of, news, row_at_rows_after}
use Rattle.iv_laws_levels.proofs.NumberedRows.{Below, parts_of}
use Rattle.iv_laws_levels.proofs.Members.{In, Member, of_filter_map, in_rows}

-- the row of a number is of one table in both lists, if both have one
abbrev pub TablesStay : List StoredRow → List StoredRow → Type 0
TablesStay rows later = (n : ℕ) (r s : StoredRow) → row_at rows n ≡ Some r → row_at later n ≡ Some s → s.table ≡ r.table

-- ---- a change of a wave

current_in : (rows : List StoredRow) (changes : List Change) (c : Change) → Current rows changes → In c changes → row_at rows c.row ≡ old_row c
current_in rows [] c h i = absurd i
current_in rows (d ∷ changes) c h (inl is) = ap (λ (x : Change). row_at rows x.row) is ∙ h.0 ∙ ap old_row (sym is)
current_in rows (d ∷ changes) c h (inr i) = current_in rows changes c h.1 i

numbers_in : (next : ℕ) (changes : List Change) (c : Change) → NumbersFrom next changes → In c changes → c.old ≡ None → next ≤ c.row
numbers_in next [] c h i e = absurd i
numbers_in next (d ∷ changes) c h (inl is) e =
    subst (λ (x : Change). next ≤ x.row) (sym is) (h.0 (ap (λ (x : Change). x.old) (sym is) ∙ e))
numbers_in next (d ∷ changes) c h (inr i) e = numbers_in next changes c h.1 i e

-- the table of a row that a change took away, or left
side_table : (c : Change) (side : Option (List Value)) (r : StoredRow) → row_of c side ≡ Some r → (r.table ≡ c.table) × (r.number ≡ c.row)
side_table c None r e = absurd (some_none r (sym e))
side_table c (Some values) r e =
    let same = some_same (record { table = c.table; number = c.row; values = values }) r e in
    (sym (ap (λ (x : StoredRow). x.table) same), sym (ap (λ (x : StoredRow). x.number) same))

no_row : (c : Change) (side : Option (List Value)) → row_of c side ≡ None → side ≡ None
no_row c None h = refl
no_row c (Some values) h = absurd (some_none _ h)

-- the change that left a row
left_by : (changes : List Change) (n : ℕ) (s : StoredRow) → row_at (news changes) n ≡ Some s → Member changes (λ c. (s.table ≡ c.table) × (c.row ≡ n))
left_by changes n s e =
    let found = of_filter_map (λ (c : Change). row_of c c.new) s changes (in_rows (news changes) n s e) in
    let sides = side_table found.element found.element.new s found.holds in
    record { element = found.element; is_in = found.is_in; holds = (sides.0, sym sides.1 ∙ number_of_row_at (news changes) n s e) }

-- ---- over a wave

pub tables_stay_applied : (db : Database) (wave : Wave) → Current db.rows wave.changes → TablesStay db.rows (database_after db wave).rows
tables_stay_applied db wave current n r s e f = by (has_change wave.changes n) (sym (row_at_rows_after db.rows wave.changes n) ∙ f)
  where
    by : (b : Bool) → (if b then row_at (news wave.changes) n else row_at db.rows n) ≡ Some s → s.table ≡ r.table
    by false g = ap (λ (x : StoredRow). x.table) (some_same s r (sym g ∙ e))
    by true g =
        let change = left_by wave.changes n s g in
        let c = change.element in
        let was : old_row c ≡ Some r =
        sym (current_in db.rows wave.changes c current change.is_in) ∙ ap (row_at db.rows) change.holds.1 ∙ e in
        change.holds.0 ∙ sym (side_table c c.old r was).0

-- ---- over a chain

next_rises : (next : ℕ) (changes : List Change) → next ≤ next_after next changes
next_rises next [] = omega arith
next_rises next (c ∷ changes) = omega (arith, next_rises next changes)

-- a number below the next one that no row has, none has after a wave
gone_after : (db : Database) (wave : Wave) (n : ℕ) → FitsDatabase db wave → n < db.next → row_at db.rows n ≡ None
    → row_at (database_after db wave).rows n ≡ None
gone_after db wave n fits less e = by (row_at (database_after db wave).rows n) refl
  where
    none_left : (s : StoredRow) (b : Bool) → (if b then row_at (news wave.changes) n else row_at db.rows n) ≡ Some s → ⊥
    none_left s false g = some_none s (sym g ∙ e)
    none_left s true g =
        let change = left_by wave.changes n s g in
        let c = change.element in
        let was : row_of c c.old ≡ None =
        sym (current_in db.rows wave.changes c fits.current change.is_in) ∙ ap (row_at db.rows) change.holds.1 ∙ e in
        let new = numbers_in db.next wave.changes c fits.new change.is_in (no_row c c.old was) in
        let here = change.holds.1 in
        absurd (omega (arith, new, here, less))

    by : (o : Option StoredRow) → row_at (database_after db wave).rows n ≡ o → o ≡ None
    by None f = refl
    by (Some s) f = absurd (none_left s (has_change wave.changes n) (sym (row_at_rows_after db.rows wave.changes n) ∙ f))

gone_stays : (db last : Database) (waves : List Wave) (n : ℕ) → Chain db waves last → n < db.next → row_at db.rows n ≡ None → row_at last.rows n ≡ None
gone_stays db last [] n h less e = ap (λ (x : Database). row_at x.rows n) (sym h.1) ∙ e
gone_stays db last (wave ∷ waves) n h less e =
    let rises = next_rises db.next wave.changes in
    gone_stays (database_after db wave) last waves n h.2 (omega (arith, less, rises)) (gone_after db wave n h.1 less e)

below_in : (next : ℕ) (rows : List StoredRow) (r : StoredRow) → Below next rows → In r rows → r.number < next
below_in next [] r b i = absurd i
below_in next (s ∷ rows) r b (inl is) = subst (λ (x : StoredRow). x.number < next) (sym is) b.0
below_in next (s ∷ rows) r b (inr i) = below_in next rows r b.1 i

-- a row of a numbered database has a number below the next one
number_below : (db : Database) (n : ℕ) (r : StoredRow) → Numbered db → row_at db.rows n ≡ Some r → n < db.next
number_below db n r h e =
    let below = below_in db.next db.rows r (parts_of 0 db.rows db.next h).below (in_rows db.rows n r e) in
    let here = number_of_row_at db.rows n r e in
    omega (arith, below, here)

pub tables_stay_chain : (db last : Database) (waves : List Wave) → Chain db waves last → TablesStay db.rows last.rows
tables_stay_chain db last [] h n r s e f =
    ap (λ (x : StoredRow). x.table) (some_same s r (sym f ∙ ap (λ (x : Database). row_at x.rows n) (sym h.1) ∙ e))
tables_stay_chain db last (wave ∷ waves) h n r s e f =
    by (row_at (database_after db wave).rows n) refl (tables_stay_chain (database_after db wave) last waves h.2)
  where
    by : (o : Option StoredRow) → row_at (database_after db wave).rows n ≡ o → TablesStay (database_after db wave).rows last.rows → s.table ≡ r.table
    by (Some m) g rest = rest n m s g f ∙ tables_stay_applied db wave h.1.current n r m e g
    by None g rest =
        let rises = next_rises db.next wave.changes in
        let less = number_below db n r h.0 e in
        absurd (some_none s (sym f ∙ gone_stays (database_after db wave) last waves n h.2 (omega (arith, less, rises)) g))
