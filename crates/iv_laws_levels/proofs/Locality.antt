-- A change of one row alters few pairs of a constraint and a row.
use Rattle.std.proofs.Common.{◌≡◌, refl, ℕ, Bool, true, false, ◌&&◌, ◌||◌, not, if◌then◌else◌, List, [], ◌∷◌, filter, Option, Some, None, sym, ap, ◌∙◌}
use mathlib.Core.Bool.{or-false, and-false}
use Rattle.std.specs.Bool.{◌==◌}
use Rattle.std.specs.List.{list_any}
use Rattle.std.proofs.lemmas.Bool.{eqb-true, or_parts}
use Rattle.iv_laws_levels.specs.Types.{Value, StoredRow, Change, Constraint, Rule, ForeignKey, Database}
use Rattle.iv_laws_levels.specs.Types.rule
use Rattle.iv_value.specs.Values.{all_same}
use Rattle.iv_expr.specs.Scopes.{table_rows}
use Rattle.iv_syntax.specs.declared.table.NullTreatment.{NullTreatment}
use Rattle.iv_syntax.specs.declared.table.NullTreatment.TheVariants.{Distinct, NotDistinct}
use Rattle.iv_syntax.specs.declared.table.MatchType.{MatchType}
use Rattle.iv_syntax.specs.declared.table.MatchType.TheVariants.{Simple, Full}
use Rattle.iv_key.specs.Keys.{key_of, none_null, all_null, holds_key}
use Rattle.iv_machine.specs.Databases.{row_at, holds_key_with, is_unique, has_referenced, matches, obeys, satisfies}
use Rattle.iv_laws_levels.specs.Reorderings.{after_changes}
use Rattle.iv_laws_levels.specs.RisingRows.{InOrder}
use Rattle.iv_laws_levels.specs.FittingWaves.{old_row}
use Rattle.iv_laws_levels.specs.Locality.{holds_side, holds_old_or_new, concerns_by, concerns}
use Rattle.iv_laws_levels.proofs.RowNumbers.{passing, in_order_filter, same_rows, row_at_filter_in_order}
use Rattle.iv_laws_levels.proofs.AppliedRows.{row_of, side_here, news, row_at_rows_after, rows_after_in_order}
use Rattle.iv_laws_levels.proofs.Keys.{and_second, all_same_is, all_same_swap, same_test}
use Rattle.iv_laws_levels.proofs.Filters.{any_of_filter, any_filter}

-- a test that neither side of a change passes finds the same rows before and after
unmoved : (db : Database) (c : Change) (p : StoredRow → Bool) → InOrder db.rows → row_at db.rows c.row ≡ old_row c
    → passing p (row_of c c.old) ≡ None → passing p (row_of c c.new) ≡ None → filter p (after_changes db (c ∷ [])).rows ≡ filter p db.rows
unmoved db c p h current old new =
    same_rows (filter p (after_changes db (c ∷ [])).rows) (filter p db.rows) (in_order_filter p (after_changes db (c ∷ [])).rows (rows_after_in_order db.rows (c ∷ []))) (in_order_filter p db.rows h) (λ n.
    row_at_filter_in_order p (after_changes db (c ∷ [])).rows n (rows_after_in_order db.rows (c ∷ []))
    ∙ ap (passing p) (row_at_rows_after db.rows (c ∷ []) n)
    ∙ ap (λ b. passing p (if b then row_at (news (c ∷ [])) n else row_at db.rows n)) (or-false (c.row == n))
    ∙ elim (c.row == n) as (λ b. (c.row == n) ≡ b → passing p (if b then row_at (news (c ∷ [])) n else row_at db.rows n) ≡ passing p (row_at db.rows n)) [
      | true ↦ λ e.
          let is = eqb-true c.row n e in
          ap (passing p) (side_here c c.new [] n e refl) ∙ new ∙ sym old ∙ ap (passing p) (sym current ∙ ap (row_at db.rows) is)
      | false ↦ λ _. refl
    ] refl
    ∙ sym (row_at_filter_in_order p db.rows n h))

-- a test of a table's rows that neither side passes finds one before if it finds one after
same_any : (db : Database) (c : Change) (t : ℕ) (p : StoredRow → Bool) → InOrder db.rows → row_at db.rows c.row ≡ old_row c
    → passing (λ r. (r.table == t) && p r) (row_of c c.old) ≡ None → passing (λ r. (r.table == t) && p r) (row_of c c.new) ≡ None
    → list_any p (table_rows (after_changes db (c ∷ [])).rows t) ≡ list_any p (table_rows db.rows t)
same_any db c t p h current old new =
    as_filter (after_changes db (c ∷ [])).rows
    ∙ ap (list_any (λ _. true)) (unmoved db c (λ r. (r.table == t) && p r) h current old new)
    ∙ sym (as_filter db.rows)
  where
    as_filter : (rows : List StoredRow) → list_any p (table_rows rows t) ≡ list_any (λ _. true) (filter (λ r. (r.table == t) && p r) rows)
    as_filter rows = any_filter p (λ r. r.table == t) rows ∙ any_of_filter (λ r. (r.table == t) && p r) rows

-- ---- keys

-- two non-null keys that are the same
pub held_swap : (key other : List Value) → (none_null key && all_same key other) ≡ (none_null other && all_same other key)
held_swap key other = same_test (none_null key && all_same key other) (none_null other && all_same other key) (turned key other) (turned other key)
  where
    turned : (a b : List Value) → (none_null a && all_same a b) ≡ true → (none_null b && all_same b a) ≡ true
    turned a b e =
        let same = all_same_is a b (and_second (none_null a) (all_same a b) e) in
        (λ i. none_null (sym same i) && all_same (sym same i) (same i)) ∙ e

-- two keys that are the same, even if nulls are not distinct
held_with_swap : (nulls : NullTreatment) (columns : List ℕ) (values other : List Value)
    → holds_key_with nulls columns (key_of columns values) other ≡ holds_key_with nulls columns (key_of columns other) values
held_with_swap Distinct columns values other = held_swap (key_of columns other) (key_of columns values)
held_with_swap NotDistinct columns values other = all_same_swap (key_of columns other) (key_of columns values)

-- the row of a change with these values
abbrev row_with : Change → List Value → StoredRow
row_with c values = record { table = c.table; number = c.row; values = values }

-- if a side's key isn't held, the side passes no test of that key
side_fails : (c : Change) (side : Option (List Value)) (t : ℕ) (nulls : NullTreatment) (columns key : List ℕ) (r : StoredRow) (p : StoredRow → Bool)
    → ((values : List Value) → holds_key_with nulls columns (key_of key values) r.values ≡ false → p (row_with c values) ≡ false)
    → ((c.table == t) && holds_side nulls columns key r side) ≡ false
    → passing (λ x. (x.table == t) && p x) (row_of c side) ≡ None
side_fails c None t nulls columns key r p h e = refl
side_fails c (Some values) t nulls columns key r p h e =
    elim (c.table == t) as (λ b. (b && holds_key_with nulls columns (key_of key values) r.values) ≡ false
    → (if b && p (row_with c values) then Some (row_with c values) else None) ≡ None) [
      | true ↦ λ f. ap (λ b. if b then Some (row_with c values) else None) (h values f)
      | false ↦ λ f. refl
    ] e

-- neither side is held
parts_fail : (b x y : Bool) → (b && (x || y)) ≡ false → ((b && x) ≡ false) × ((b && y) ≡ false)
parts_fail true x y e = or_parts x y e
parts_fail false x y e = (refl, refl)

-- ---- the rules

same_unique : (db : Database) (c : Change) (t : ℕ) (nulls : NullTreatment) (columns : List ℕ) (r : StoredRow) → InOrder db.rows → row_at db.rows c.row ≡ old_row c
    → ((c.table == t) && holds_old_or_new nulls columns columns r c) ≡ false
    → is_unique (after_changes db (c ∷ [])).rows t nulls columns r ≡ is_unique db.rows t nulls columns r
same_unique db c t nulls columns r h current e =
    let parts = parts_fail (c.table == t) (holds_side nulls columns columns r c.old) (holds_side nulls columns columns r c.new) e in
    ap not (same_any db c t other h current
    (side_fails c c.old t nulls columns columns r other fails parts.0)
    (side_fails c c.new t nulls columns columns r other fails parts.1))
  where
    other : StoredRow → Bool
    other x = not (x.number == r.number) && holds_key_with nulls columns (key_of columns r.values) x.values

    fails : (values : List Value) → holds_key_with nulls columns (key_of columns values) r.values ≡ false → other (row_with c values) ≡ false
    fails values f =
        ap (λ b. not (c.row == r.number) && b) (held_with_swap nulls columns r.values values ∙ f)
        ∙ and-false (not (c.row == r.number))

same_referenced : (db : Database) (c : Change) (fk : ForeignKey) (r : StoredRow) → InOrder db.rows → row_at db.rows c.row ≡ old_row c
    → ((c.table == fk.referenced) && holds_old_or_new Distinct fk.columns fk.key r c) ≡ false → none_null (key_of fk.columns r.values) ≡ true
    → has_referenced (after_changes db (c ∷ [])).rows fk (key_of fk.columns r.values) ≡ has_referenced db.rows fk (key_of fk.columns r.values)
same_referenced db c fk r h current e given =
    let parts = parts_fail (c.table == fk.referenced) (holds_side Distinct fk.columns fk.key r c.old) (holds_side Distinct fk.columns fk.key r c.new) e in
    same_any db c fk.referenced has h current
    (side_fails c c.old fk.referenced Distinct fk.columns fk.key r has fails parts.0)
    (side_fails c c.new fk.referenced Distinct fk.columns fk.key r has fails parts.1)
  where
    has : StoredRow → Bool
    has x = all_same (key_of fk.key x.values) (key_of fk.columns r.values)

    fails : (values : List Value) → holds_key fk.columns (key_of fk.key values) r.values ≡ false → has (row_with c values) ≡ false
    fails values f =
        all_same_swap (key_of fk.key values) (key_of fk.columns r.values)
        ∙ ap (λ b. b && all_same (key_of fk.columns r.values) (key_of fk.key values)) (sym given) ∙ f

same_matches : (db : Database) (c : Change) (fk : ForeignKey) (m : MatchType) (r : StoredRow) → InOrder db.rows → row_at db.rows c.row ≡ old_row c
    → ((c.table == fk.referenced) && holds_old_or_new Distinct fk.columns fk.key r c) ≡ false
    → matches m (after_changes db (c ∷ [])).rows fk (key_of fk.columns r.values) ≡ matches m db.rows fk (key_of fk.columns r.values)
same_matches db c fk m r h current e = by_given (none_null (key_of fk.columns r.values)) refl
  where
    before : Bool
    before = has_referenced db.rows fk (key_of fk.columns r.values)

    after : Bool
    after = has_referenced (after_changes db (c ∷ [])).rows fk (key_of fk.columns r.values)

    by_match : (b : Bool) → none_null (key_of fk.columns r.values) ≡ b → (not b || after) ≡ (not b || before) → (b && after) ≡ (b && before) → (m : MatchType)
        → matches m (after_changes db (c ∷ [])).rows fk (key_of fk.columns r.values) ≡ matches m db.rows fk (key_of fk.columns r.values)
    by_match b g simple full Simple = ap (λ x. not x || after) g ∙ simple ∙ ap (λ x. not x || before) (sym g)
    by_match b g simple full Full =
        ap (λ x. all_null (key_of fk.columns r.values) || x) (ap (λ x. x && after) g ∙ full ∙ ap (λ x. x && before) (sym g))

    by_given : (b : Bool) → none_null (key_of fk.columns r.values) ≡ b
        → matches m (after_changes db (c ∷ [])).rows fk (key_of fk.columns r.values) ≡ matches m db.rows fk (key_of fk.columns r.values)
    by_given true g = let same = same_referenced db c fk r h current e g in by_match true g same same m
    by_given false g = by_match false g refl refl m

same_obeys : (db : Database) (c : Change) (t : ℕ) (k : Rule) (r : StoredRow) → InOrder db.rows → row_at db.rows c.row ≡ old_row c
    → concerns_by c t k r ≡ false → obeys (after_changes db (c ∷ [])).rows t k r ≡ obeys db.rows t k r
same_obeys db c t (rule.NotNull column) r h current e = refl
same_obeys db c t (rule.Check condition) r h current e = refl
same_obeys db c t (rule.Unique nulls columns) r h current e = same_unique db c t nulls columns r h current e
same_obeys db c t (rule.PrimaryKey columns) r h current e = ap (λ b. none_null (key_of columns r.values) && b) (same_unique db c t Distinct columns r h current e)
same_obeys db c t (rule.ForeignKey fk) r h current e = same_matches db c fk fk.matching r h current e

pub change_is_local : (db : Database) (c : Change) (k : Constraint) (r : StoredRow) → InOrder db.rows → row_at db.rows c.row ≡ old_row c
    → concerns c k r ≡ false → satisfies (after_changes db (c ∷ [])).rows k r ≡ satisfies db.rows k r
change_is_local db c k r h current e = same_obeys db c k.table k.rule r h current e
