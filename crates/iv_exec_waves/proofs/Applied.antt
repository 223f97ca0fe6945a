-- A wave that is applied change by change.
use Rattle.std.proofs.Common.{◌≡◌, refl, ℕ, ◌+◌, ◌*◌, ◌<◌, ◌≤◌, true, false, ◌||◌, ◌&&◌, if◌then◌else◌, List, [], ◌∷◌, length, drop, get_or, Option, Some, None, IfSome, is_some, sym, ap, subst, ◌∙◌, arith}
use Rattle.std.specs.Bool.{nat_lt, ◌==◌}
use Rattle.std.proofs.lemmas.List.{drop_all, drop_more}
use Rattle.std.proofs.Math.Nat.{mul-add, mul-one}
use Rattle.std.proofs.lemmas.Bool.{or_parts, and_parts}
use Rattle.std.proofs.lemmas.Bool.Decides.{nat_tests}
use Rattle.iv_value.specs.declared.value.Value.{Value}
use Rattle.iv_expr.specs.declared.row.StoredRow.{StoredRow}
use Rattle.iv_expr.specs.declared.row.Change.{Change}
use Rattle.iv_expr.specs.Changes.{wave_of}
use Rattle.iv_catalogue.specs.declared.catalogue.Table.{Table}
use Rattle.iv_machine.specs.declared.database.Database.{Database}
use Rattle.iv_machine.specs.Bounds.{last_row_number, most_changes_in_a_transaction}
use Rattle.iv_machine.specs.Databases.{row_at, has_change, database_after}
use Rattle.iv_machine.specs.Waves.{values_at, is_beyond_last_row}
use Rattle.iv_store.specs.Stores.{StoreState, fits_table, most_lookups, store_after}
use Rattle.iv_laws_fitting.specs.PlanShapes.{is_there}
use Rattle.iv_laws_levels.specs.FittingWaves.{old_row, Current, Numbered}
use Rattle.iv_laws_levels.specs.Reorderings.{Distinct, after_changes, one_by_one}
use Rattle.iv_laws_levels.proofs.AnyOrder.{applied_one_by_one}
use Rattle.iv_laws_levels.proofs.AppliedRows.{news, row_at_rows_after}
use Rattle.iv_laws_levels.proofs.NumberedRows.{Positive, parts_of}
use Rattle.iv_laws_levels.proofs.FittingWaves.{rising_distinct, rising_positive}
use Rattle.iv_laws_rows.specs.RowFits.{side_fits, change_fits, changes_fit}
use Rattle.iv_laws_rows.specs.Changing.{with_database}
use Rattle.iv_exec_waves.specs.Applying.{Applicable, IsNext}

-- ---- what is still to be applied, and to what

pub record Applying (tables : List Table) (start : Database) (changes : List Change) (now : Database) (rest : List Change) : Type 0 where
  pub so_far : one_by_one now rest ≡ one_by_one start changes
  pub distinct : Distinct rest
  pub current : Current now.rows rest
  pub positive : Positive rest
  pub small : is_beyond_last_row rest ≡ false
  pub room : now.count + length rest ≤ most_changes_in_a_transaction
  pub fit : changes_fit tables rest ≡ true

pub applying_starts : (tables : List Table) (db : Database) (changes : List Change) → Applicable tables db changes → Applying tables db changes db changes
applying_starts tables db changes h = record {
  so_far = refl;
  distinct = rising_distinct changes h.rising;
  current = h.current;
  positive = rising_positive changes h.rising;
  small = h.small;
  room = h.room;
  fit = h.fit;
}

-- ---- tests that are joined

eqb_turned : (a b : ℕ) → (a == b) ≡ false → (b == a) ≡ false
eqb_turned a b e = grind (arith, nat_tests)

pub least : (n m : ℕ) → nat_lt n m ≡ false → m ≤ n
least n m e = grind (arith, nat_tests)

less : (n m : ℕ) → nat_lt n m ≡ true → n < m
less n m e = grind (arith, nat_tests)

-- ---- one more change

current_after : (db : Database) (c : Change) (rest : List Change) → has_change rest c.row ≡ false → Current db.rows rest → Current (after_changes db (c ∷ [])).rows rest
current_after db c [] e h = tt
current_after db c (d ∷ rest) e h =
    let out = or_parts (d.row == c.row) (has_change rest c.row) e in (
      row_at_rows_after db.rows (c ∷ []) d.row
          ∙ ap (λ b. if b || false then row_at (news (c ∷ [])) d.row else row_at db.rows d.row) (eqb_turned d.row c.row out.0)
          ∙ h.0,
      current_after db c rest out.1 h.1,
    )

abbrev values_of : Option StoredRow → Option (List Value)
values_of o = elim o [ Some r ↦ Some r.values | None ↦ None ]

abbrev old_of : Change → Option (List Value) → Option StoredRow
old_of c old = elim old [ Some values ↦ Some (record { table = c.table; number = c.row; values = values }) | None ↦ None ]

-- the values and the table of the row that a change is of
current_values : (rows : List StoredRow) (c : Change) → row_at rows c.row ≡ old_row c → values_at rows c.row ≡ c.old
current_values rows c e = ap values_of e ∙ of_old c.old
  where
    of_old : (old : Option (List Value)) → values_of (old_of c old) ≡ old
    of_old None = refl
    of_old (Some values) = refl

own_table : (rows : List StoredRow) (c : Change) → row_at rows c.row ≡ old_row c → IfSome (row_at rows c.row) (λ row. row.table ≡ c.table)
own_table rows c e = subst (λ o. IfSome o (λ (row : StoredRow). row.table ≡ c.table)) (sym e) (of_old c.old)
  where
    of_old : (old : Option (List Value)) → IfSome (old_of c old) (λ (row : StoredRow). row.table ≡ c.table)
    of_old None = tt
    of_old (Some values) = refl

new_fits : (tables : List Table) (c : Change) (new : Option (List Value)) → side_fits tables c.table new ≡ true
    → IfSome new (λ values. fits_table tables c.table values ≡ true)
new_fits tables c None e = tt
new_fits tables c (Some values) e = e

pub next_of : (s : StoreState) (start : Database) (changes : List Change) (c : Change) (rest : List Change)
    → Applying s.tables start changes s.base (c ∷ rest) → IsNext s c
next_of s start changes c rest h =
    let fits = and_parts (change_fits s.tables c) (changes_fit s.tables rest) h.fit in
    let there = and_parts (is_there s.tables c.table) ((is_some c.old || is_some c.new) && (side_fits s.tables c.table c.old && side_fits s.tables c.table c.new)) fits.0 in
    let some = and_parts (is_some c.old || is_some c.new) (side_fits s.tables c.table c.old && side_fits s.tables c.table c.new) there.1 in
    let sides = and_parts (side_fits s.tables c.table c.old) (side_fits s.tables c.table c.new) some.1 in
    record {
      added = less c.table (length s.tables) there.0;
      current = current_values s.base.rows c h.current.0;
      own = own_table s.base.rows c h.current.0;
      fits = new_fits s.tables c c.new sides.1;
      positive = h.positive.0;
      small = least last_row_number c.row (or_parts (nat_lt last_row_number c.row) (is_beyond_last_row rest) h.small).0;
      room = omega (arith, h.room);
    }

pub applying_more : (tables : List Table) (start : Database) (changes : List Change) (now : Database) (c : Change) (rest : List Change)
    → Applying tables start changes now (c ∷ rest) → Applying tables start changes (after_changes now (c ∷ [])) rest
applying_more tables start changes now c rest h = record {
  so_far = h.so_far;
  distinct = h.distinct.1;
  current = current_after now c rest h.distinct.0 h.current.1;
  positive = h.positive.1;
  small = (or_parts (nat_lt last_row_number c.row) (is_beyond_last_row rest) h.small).1;
  room = omega (arith, h.room);
  fit = (and_parts (change_fits tables c) (changes_fit tables rest) h.fit).1;
}

-- ---- all

pub applied_all : (tables : List Table) (start : Database) (changes : List Change) (now : Database) → Numbered start → Distinct changes
    → Applying tables start changes now [] → now ≡ database_after start (wave_of changes)
applied_all tables start changes now h d a = a.so_far ∙ applied_one_by_one start changes (parts_of 0 start.rows start.next h).order d

-- ---- one more change, as the loop has it

pub next_read : (xs : List Change) (i : ℕ) (x : Change) → x ≡ get_or xs i x → i < length xs → drop i xs ≡ x ∷ drop (i + 1) xs
next_read xs i x is within = drop_more xs i x within ∙ ap (λ y. y ∷ drop (i + 1) xs) (sym is)

pub looked_more : (old now : StoreState) (i first here next : ℕ) → now ≡ with_database old now.base
    → here ≤ first + most_lookups * length old.constraints * i → next ≤ here + most_lookups * length now.constraints
    → next ≤ first + most_lookups * length old.constraints * (i + 1)
looked_more old now i first here next kept h g =
    let same : length now.constraints ≡ length old.constraints = ap (λ s. length s.constraints) kept in
    let more : next ≤ here + most_lookups * length old.constraints = subst (λ n. next ≤ here + most_lookups * n) same g in
    let split : most_lookups * length old.constraints * (i + 1) ≡ most_lookups * length old.constraints * i + most_lookups * length old.constraints * 1 =
    mul-add (most_lookups * length old.constraints) i 1 in
    let one : most_lookups * length old.constraints * 1 ≡ most_lookups * length old.constraints = mul-one (most_lookups * length old.constraints) in
    omega (arith, h, more, split, one)

pub kept_more : (old now later : StoreState) (c : Change) → now ≡ with_database old now.base → later ≡ store_after now c → later ≡ with_database old later.base
kept_more old now later c kept is = is ∙ ap (λ s. with_database s (after_changes now.base (c ∷ []))) kept ∙ ap (λ s. with_database old s.base) (sym is)

pub step_applied : (tables : List Table) (start : Database) (changes : List Change) (now later : StoreState) (i : ℕ) (c : Change)
    → c ≡ get_or changes i c → i < length changes → later ≡ store_after now c
    → Applying tables start changes now.base (drop i changes) → Applying tables start changes later.base (drop (i + 1) changes)
step_applied tables start changes now later i c is within after h =
    subst (λ db. Applying tables start changes db (drop (i + 1) changes)) (sym (ap (λ s. s.base) after))
    (applying_more tables start changes now.base c (drop (i + 1) changes)
    (subst (Applying tables start changes now.base) (next_read changes i c is within) h))

pub step_taken : (start : Database) (old : StoreState) (changes : List Change) (now : StoreState) (i : ℕ) (c : Change) → c ≡ get_or changes i c → i < length changes
    → now ≡ with_database old now.base → Applying old.tables start changes now.base (drop i changes) → IsNext now c
step_taken start old changes now i c is within kept h =
    next_of now start changes c (drop (i + 1) changes)
    (subst (λ tables. Applying tables start changes now.base (c ∷ drop (i + 1) changes)) (sym (ap (λ s. s.tables) kept))
    (subst (Applying old.tables start changes now.base) (next_read changes i c is within) h))

pub all_applied : (tables : List Table) (start : Database) (changes : List Change) (now : Database) (i : ℕ) → Applicable tables start changes → length changes ≤ i
    → Applying tables start changes now (drop i changes) → now ≡ database_after start (wave_of changes)
all_applied tables start changes now i h end a =
    applied_all tables start changes now h.numbered (rising_distinct changes h.rising) (subst (Applying tables start changes now) (drop_all i changes end) a)
