-- Which constraints may be violated: after a change of one row, with more tables or constraints, and among marks.
use Rattle.std.proofs.Common.{◌≡◌, ℕ, zero, suc, ◌+◌, ◌*◌, ◌<◌, ◌≤◌, ◌⊎◌, inl, inr, Bool, true, false, not, ◌&&◌, ◌||◌, if◌then◌else◌, ◌==◌, Option, Some, None, List, [], ◌∷◌, ◌++◌, ◌∙◌, max, option_map, map, filter, length, length-append, take, drop, remove, arith, refl, ap, sym, subst, IfSome}
use Rattle.std.proofs.Math.Numerals.{add-one}
use Rattle.std.proofs.lemmas.Bool.{cases_Bool, or_parts}
use Rattle.std.specs.Prelude.{nat_lt, find, slice_get, slice_index_or}
use Rattle.std.specs.List.{list_any}
use Rattle.std.proofs.lemmas.Bool.Decides.{nat_tests}
use Rattle.iv_value.specs.declared.value.Value.{Value}
use Rattle.iv_value.specs.Values.{all_same}
use Rattle.iv_expr.specs.declared.row.StoredRow.{StoredRow}
use Rattle.iv_expr.specs.declared.row.Change.{Change}
use Rattle.iv_expr.specs.Changes.{wave_of}
use Rattle.iv_expr.specs.Scopes.{Rises, table_rows}
use Rattle.iv_syntax.specs.declared.table.MatchType.{MatchType}
use Rattle.iv_syntax.specs.declared.table.MatchType.TheVariants as matching
use Rattle.iv_syntax.specs.declared.table.NullTreatment.TheVariants.{Distinct}
use Rattle.iv_catalogue.specs.Catalogues.{AllOn}
use Rattle.iv_catalogue.specs.declared.cause.Fault.{Fault}
use Rattle.iv_catalogue.specs.declared.constraint.Constraint.{Constraint}
use Rattle.iv_catalogue.specs.declared.constraint.ForeignKey.{ForeignKey}
use Rattle.iv_catalogue.specs.declared.constraint.Rule.{Rule}
use Rattle.iv_catalogue.specs.declared.constraint.Rule.TheVariants as rule
use Rattle.iv_catalogue.specs.declared.limits.TheConstants.{MOST_CONSTRAINTS, MOST_TABLES}
use Rattle.iv_machine.specs.declared.database.Database.{Database}
use Rattle.iv_key.specs.Keys.{key_of, none_null, all_null}
use Rattle.iv_machine.specs.Databases.{row_at, shares_key, matches, obeys, satisfies, violates, fault_at, violations, scan, first, rows_with, database_after}
use Rattle.iv_machine.proofs.Scans.{scan_from, left_empty, right_empty}
use Rattle.iv_store.specs.Stores.{StoreState, marked_database, store_before_mark}
use Rattle.iv_store_plain.proofs.Places.{all_others}
use Rattle.iv_machine.proofs.OneChange.{rows_after_set, higher, rises}
use Rattle.iv_machine.specs.SetRows.{InBounds, set_row, without_row}
use Rattle.iv_store_plain.specs.Suspects.{refers_to, is_about, is_suspect, violating, Clean, EachClean, Watched, with_table, with_new}

-- ---- more tables

any_left : (p : ℕ → Bool) (xs ys : List ℕ) → list_any p (xs ++ ys) ≡ false → list_any p xs ≡ false
any_left p [] ys h = refl
any_left p (x ∷ xs) ys h =
    let parts : (p x ≡ false) × (list_any p (xs ++ ys) ≡ false) = or_parts (p x) (list_any p (xs ++ ys)) h in
    ap (λ b. b || list_any p xs) parts.0 ∙ any_left p xs ys parts.1

any_last : (p : ℕ → Bool) (xs : List ℕ) (y : ℕ) → list_any p (xs ++ y ∷ []) ≡ false → p y ≡ false
any_last p [] y h = (or_parts (p y) false h).0
any_last p (x ∷ xs) y h = any_last p xs y (or_parts (p x) (list_any p (xs ++ y ∷ [])) h).1

fewer : (table : ℕ) (touched : List ℕ) (c : Constraint) → is_suspect (with_table table touched) c ≡ false → is_suspect touched c ≡ false
fewer table touched c h = by (list_any (λ t. t == table) touched) h where
  by : (b : Bool) → list_any (is_about c) (if b then touched else touched ++ table ∷ []) ≡ false → list_any (is_about c) touched ≡ false
  by true g = g
  by false g = any_left (is_about c) touched (table ∷ []) g

pub clean_with_table : (table : ℕ) (touched : List ℕ) (rows : List StoredRow) (cs : List Constraint) → Clean touched rows cs → Clean (with_table table touched) rows cs
clean_with_table table touched rows [] h = tt
clean_with_table table touched rows (c ∷ cs) h = ((λ e. h.0 (fewer table touched c e)), clean_with_table table touched rows cs h.1)

pub each_with_table : (table : ℕ) (touched : List ℕ) (cs : List Constraint) (dbs : List Database) → EachClean touched cs dbs → EachClean (with_table table touched) cs dbs
each_with_table table touched cs [] h = tt
each_with_table table touched cs (db ∷ dbs) h = (clean_with_table table touched db.rows cs h.0, each_with_table table touched cs dbs h.1)

same_number : (a b : ℕ) → (a == b) ≡ true → a ≡ b
same_number a b h = grind (arith, nat_tests)

equal_itself : (a : ℕ) → (a == a) ≡ true
equal_itself a = grind (arith, nat_tests)

any_same : (p : ℕ → Bool) (table : ℕ) (touched : List ℕ) → list_any (λ t. t == table) touched ≡ true → list_any p touched ≡ false → p table ≡ false
any_same p table [] e h = cc
any_same p table (t ∷ ts) e h =
    let parts : (p t ≡ false) × (list_any p ts ≡ false) = or_parts (p t) (list_any p ts) h in
    elim (cases_Bool (t == table)) [
      | inl s ↦ ap p (sym (same_number t table s)) ∙ parts.0
      | inr d ↦ any_same p table ts (ap (λ b. b || list_any (λ u. u == table) ts) (sym d) ∙ e) parts.1
    ]

-- a constraint that isn't about one of these tables isn't about this one
apart : (table : ℕ) (touched : List ℕ) (c : Constraint) → is_suspect (with_table table touched) c ≡ false → is_about c table ≡ false
apart table touched c h = by (cases_Bool (list_any (λ t. t == table) touched)) where
  by : (list_any (λ t. t == table) touched ≡ true) ⊎ (list_any (λ t. t == table) touched ≡ false) → is_about c table ≡ false
  by (inl e) = any_same (is_about c) table touched e (fewer table touched c h)
  by (inr e) = any_last (is_about c) touched table (ap (λ b. list_any (is_about c) (if b then touched else touched ++ table ∷ [])) (sym e) ∙ h)

-- ---- a change of one row

-- the rows of another table, with a row of this one
others_with : (u : ℕ) (x : StoredRow) (rows : List StoredRow) → (x.table == u) ≡ false → IfSome (row_at rows x.number) (λ r. r.table ≡ x.table)
    → table_rows (rows_with x rows) u ≡ table_rows rows u
others_with u x [] d own = ap (λ b. if b then x ∷ [] else []) d
others_with u x (r ∷ rows) d own = by (cases_Bool (nat_lt x.number r.number)) (cases_Bool (x.number == r.number)) (others_with u x rows d) where
  of_same : x.number ≡ r.number → IfSome (if r.number == x.number then Some r else row_at rows x.number) (λ (q : StoredRow). q.table ≡ x.table) → r.table ≡ x.table
  of_same e h = (let t : (r.number == x.number) ≡ true = grind (arith, nat_tests) in subst (λ b. IfSome (if b then Some r else row_at rows x.number) (λ (q : StoredRow). q.table ≡ x.table)) t h)

  of_rest : (x.number == r.number) ≡ false → IfSome (row_at rows x.number) (λ (q : StoredRow). q.table ≡ x.table)
  of_rest e = (let t : (r.number == x.number) ≡ false = grind (arith, nat_tests) in subst (λ b. IfSome (if b then Some r else row_at rows x.number) (λ (q : StoredRow). q.table ≡ x.table)) t own)

  dropped : (rs : List StoredRow) → table_rows (x ∷ rs) u ≡ table_rows rs u
  dropped rs = ap (λ b. if b then x ∷ table_rows rs u else table_rows rs u) d

  by : (nat_lt x.number r.number ≡ true) ⊎ (nat_lt x.number r.number ≡ false) → ((x.number == r.number) ≡ true) ⊎ ((x.number == r.number) ≡ false)
      → (IfSome (row_at rows x.number) (λ (q : StoredRow). q.table ≡ x.table) → table_rows (rows_with x rows) u ≡ table_rows rows u)
      → table_rows (rows_with x (r ∷ rows)) u ≡ table_rows (r ∷ rows) u
  by (inl l) s more = rw l (dropped (r ∷ rows))
  by (inr l) (inl s) more =
      let e : r.table ≡ x.table = of_same (same_number x.number r.number s) own in
      rw (l, s) (dropped rows ∙ sym (ap (λ b. if b then r ∷ table_rows rows u else table_rows rows u) (ap (λ t. t == u) e ∙ d)))
  by (inr l) (inr s) more = rw (l, s) (ap (λ (q : List StoredRow). if r.table == u then r ∷ q else q) (more (of_rest s)))

others_without : (low number u t : ℕ) (rows : List StoredRow) → Rises low rows → (t == u) ≡ false → IfSome (row_at rows number) (λ r. r.table ≡ t)
    → table_rows (without_row number rows) u ≡ table_rows rows u
others_without low number u t [] h d own = refl
others_without low number u t (r ∷ rows) h d own = by (cases_Bool (number == r.number)) (others_without r.number number u t rows h.2 d) where
  turned : (b : Bool) → (number == r.number) ≡ b → (r.number == number) ≡ b
  turned true e = grind (arith, nat_tests)
  turned false e = grind (arith, nat_tests)

  now : (b : Bool) → (number == r.number) ≡ b → IfSome (if b then Some r else row_at rows number) (λ (q : StoredRow). q.table ≡ t)
  now b e = subst (λ x. IfSome (if x then Some r else row_at rows number) (λ (q : StoredRow). q.table ≡ t)) (turned b e) own

  by : ((number == r.number) ≡ true) ⊎ ((number == r.number) ≡ false)
      → (IfSome (row_at rows number) (λ (q : StoredRow). q.table ≡ t) → table_rows (without_row number rows) u ≡ table_rows rows u)
      → table_rows (without_row number (r ∷ rows)) u ≡ table_rows (r ∷ rows) u
  by (inl e) more =
      ap (λ b. table_rows (if not b then r ∷ without_row number rows else without_row number rows) u) e
      ∙ ap (λ (l : List StoredRow). table_rows l u) (all_others r.number number rows h.2 (omega (arith, same_number number r.number e)))
      ∙ sym (ap (λ b. if b then r ∷ table_rows rows u else table_rows rows u) (ap (λ v. v == u) (now true e) ∙ d))
  by (inr e) more =
      ap (λ b. table_rows (if not b then r ∷ without_row number rows else without_row number rows) u) e
      ∙ ap (λ (l : List StoredRow). if r.table == u then r ∷ l else l) (more (now false e))

-- The rows of the other tables stay.
others_set : (low number u t : ℕ) (values : Option (List Value)) (rows : List StoredRow) → Rises low rows → (t == u) ≡ false
    → IfSome (row_at rows number) (λ r. r.table ≡ t) → table_rows (set_row t number values rows) u ≡ table_rows rows u
others_set low number u t (Some values) rows h d own = others_with u (record { table = t; number = number; values = values }) rows d own
others_set low number u t None rows h d own = others_without low number u t rows h d own

both_filters : (p q : StoredRow → Bool) (rows : List StoredRow) → filter q (filter p rows) ≡ filter (λ r. p r && q r) rows
both_filters p q [] = refl
both_filters p q (r ∷ rows) = by (p r) (both_filters p q rows)
  where
    by : (a : Bool) → filter q (filter p rows) ≡ filter (λ x. p x && q x) rows
        → filter q (if a then r ∷ filter p rows else filter p rows) ≡ (if a && q r then r ∷ filter (λ x. p x && q x) rows else filter (λ x. p x && q x) rows)
    by true e = ap (λ l. if q r then r ∷ l else l) e
    by false e = e

-- the rows of a table that don't obey a rule on it
abbrev pub disobeying : List StoredRow → ℕ → Rule → List StoredRow
disobeying rows table rl = filter (λ r. not (obeys rows table rl r)) (table_rows rows table)

-- the referenced rows of a rule that is a foreign key stay
abbrev pub ReferencedStay : List StoredRow → List StoredRow → Rule → Type 0
ReferencedStay rows after (rule.ForeignKey fk) = table_rows after fk.referenced ≡ table_rows rows fk.referenced
ReferencedStay rows after _ = Unit {0}

matched_same : (rows after : List StoredRow) (fk : ForeignKey) (m : MatchType) (given : List StoredRow) → table_rows after fk.referenced ≡ table_rows rows fk.referenced
    → filter (λ (r : StoredRow). not (matches m after fk (key_of fk.columns r.values))) given ≡ filter (λ (r : StoredRow). not (matches m rows fk (key_of fk.columns r.values))) given
matched_same rows after fk matching.Simple given e =
    ap (λ (l : List StoredRow). filter (λ (r : StoredRow). not (not (none_null (key_of fk.columns r.values))
    || list_any (λ (q : StoredRow). all_same (key_of fk.key q.values) (key_of fk.columns r.values)) l)) given) e
matched_same rows after fk matching.Full given e =
    ap (λ (l : List StoredRow). filter (λ (r : StoredRow). not (all_null (key_of fk.columns r.values)
    || (none_null (key_of fk.columns r.values) && list_any (λ (q : StoredRow). all_same (key_of fk.key q.values) (key_of fk.columns r.values)) l))) given) e

disobeying_same : (rows after : List StoredRow) (table : ℕ) (rl : Rule) → table_rows after table ≡ table_rows rows table → ReferencedStay rows after rl
    → disobeying after table rl ≡ disobeying rows table rl
disobeying_same rows after table (rule.NotNull column) e f = ap (λ (l : List StoredRow). filter (λ (r : StoredRow). not (obeys rows table (rule.NotNull column) r)) l) e
disobeying_same rows after table (rule.Check condition) e f = ap (λ (l : List StoredRow). filter (λ (r : StoredRow). not (obeys rows table (rule.Check condition) r)) l) e
disobeying_same rows after table (rule.Unique nulls columns) e f =
    ap (λ (l : List StoredRow). filter (λ (r : StoredRow). not (not (list_any (shares_key nulls columns r) l))) l) e
disobeying_same rows after table (rule.PrimaryKey columns) e f =
    ap (λ (l : List StoredRow). filter (λ (r : StoredRow). not (none_null (key_of columns r.values) && not (list_any (shares_key Distinct columns r) l))) l) e
disobeying_same rows after table (rule.ForeignKey fk) e f =
    matched_same rows after fk fk.matching (table_rows after table) f
    ∙ ap (λ (l : List StoredRow). filter (λ (r : StoredRow). not (obeys rows table (rule.ForeignKey fk) r)) l) e

-- Whether rows violate a constraint depends on the rows of its table and of the referenced one.
violating_same : (rows after : List StoredRow) (c : Constraint) → table_rows after c.table ≡ table_rows rows c.table → ReferencedStay rows after c.rule
    → violating after c ≡ violating rows c
violating_same rows after c e f =
    sym (both_filters (λ r. r.table == c.table) (λ r. not (obeys after c.table c.rule r)) after)
    ∙ disobeying_same rows after c.table c.rule e f
    ∙ both_filters (λ r. r.table == c.table) (λ r. not (obeys rows c.table c.rule r)) rows

turned_false : (a b : ℕ) → (a == b) ≡ false → (b == a) ≡ false
turned_false a b e = grind (arith, nat_tests)

referenced_stay : (rows after : List StoredRow) (t : ℕ) (rl : Rule) → refers_to t rl ≡ false → ((u : ℕ) → (t == u) ≡ false → table_rows after u ≡ table_rows rows u) → ReferencedStay rows after rl
referenced_stay rows after t (rule.NotNull column) e stay = tt
referenced_stay rows after t (rule.Check condition) e stay = tt
referenced_stay rows after t (rule.Unique nulls columns) e stay = tt
referenced_stay rows after t (rule.PrimaryKey columns) e stay = tt
referenced_stay rows after t (rule.ForeignKey fk) e stay = stay fk.referenced (turned_false fk.referenced t e)

clean_after : (t : ℕ) (touched : List ℕ) (rows after : List StoredRow) (cs : List Constraint) → ((u : ℕ) → (t == u) ≡ false → table_rows after u ≡ table_rows rows u)
    → Clean touched rows cs → Clean (with_table t touched) after cs
clean_after t touched rows after [] stay h = tt
clean_after t touched rows after (c ∷ cs) stay h = (head, clean_after t touched rows after cs stay h.1) where
  head : is_suspect (with_table t touched) c ≡ false → violating after c ≡ []
  head e =
      let about : ((c.table == t) ≡ false) × (refers_to t c.rule ≡ false) = or_parts (c.table == t) (refers_to t c.rule) (apart t touched c e) in
      violating_same rows after c (stay c.table (turned_false c.table t about.0)) (referenced_stay rows after t c.rule about.1 stay)
      ∙ h.0 (fewer t touched c e)

-- After a change of one row only constraints about its table may be violated besides.
pub watched_after : (touched : List ℕ) (cs : List Constraint) (db : Database) (dbs : List Database) (c : Change) → Watched touched cs db dbs → InBounds db
    → IfSome (row_at db.rows c.row) (λ r. r.table ≡ c.table) → Watched (with_table c.table touched) cs (database_after db (wave_of (c ∷ []))) dbs
watched_after touched cs db dbs c h bounds own = record {
  few = h.few;
  base = clean_after c.table touched db.rows (database_after db (wave_of (c ∷ []))).rows cs stay h.base;
  marks = each_with_table c.table touched cs dbs h.marks;
} where
  set : (database_after db (wave_of (c ∷ []))).rows ≡ set_row c.table c.row c.new db.rows
  set = rows_after_set db.rows (max (c.row + 1) db.next) c (higher db c bounds) (omega arith)

  stay : (u : ℕ) → (c.table == u) ≡ false → table_rows (database_after db (wave_of (c ∷ []))).rows u ≡ table_rows db.rows u
  stay u d = ap (λ (l : List StoredRow). table_rows l u) set ∙ others_set 0 c.row u c.table c.new db.rows (rises 0 db.rows db.next bounds.rising bounds.next) d own

pub watched_touched : (table : ℕ) (touched : List ℕ) (cs : List Constraint) (db : Database) (dbs : List Database) → Watched touched cs db dbs → Watched (with_table table touched) cs db dbs
watched_touched table touched cs db dbs h = record { few = h.few; base = clean_with_table table touched db.rows cs h.base; marks = each_with_table table touched cs dbs h.marks }

-- ---- more constraints

clean_more : (touched : List ℕ) (rows : List StoredRow) (cs ks : List Constraint) → Clean touched rows cs → Clean touched rows ks → Clean touched rows (cs ++ ks)
clean_more touched rows [] ks h g = g
clean_more touched rows (c ∷ cs) ks h g = (h.0, clean_more touched rows cs ks h.1 g)

clean_with_new : (rows : List StoredRow) (new : List Constraint) (touched : List ℕ) (cs : List Constraint) → Clean touched rows cs → Clean (with_new rows new touched) rows cs
clean_with_new rows [] touched cs h = h
clean_with_new rows (c ∷ new) touched cs h = by (list_any (λ r. r.table == c.table) rows) where
  by : (b : Bool) → Clean (if b then with_table c.table touched else touched) rows cs
  by true = clean_with_table c.table touched rows cs h
  by false = h

none_of_table : (all rows : List StoredRow) (c : Constraint) → list_any (λ r. r.table == c.table) rows ≡ false → filter (violates all c) rows ≡ []
none_of_table all [] c e = refl
none_of_table all (r ∷ rows) c e =
    let p : ((r.table == c.table) ≡ false) × (list_any (λ q. q.table == c.table) rows ≡ false) = or_parts (r.table == c.table) (list_any (λ q. q.table == c.table) rows) e in
    ap (λ b. if b && not (satisfies all c r) then r ∷ filter (violates all c) rows else filter (violates all c) rows) p.0
    ∙ none_of_table all rows c p.1

new_unless_rows : (touched : List ℕ) (rows : List StoredRow) (t : ℕ) (cs : List Constraint) → list_any (λ r. r.table == t) rows ≡ false → AllOn t cs → Clean touched rows cs
new_unless_rows touched rows t [] e on = tt
new_unless_rows touched rows t (c ∷ cs) e on =
    ((λ _. none_of_table rows rows c (ap (λ u. list_any (λ (r : StoredRow). r.table == u) rows) on.0 ∙ e)), new_unless_rows touched rows t cs e on.1)

all_suspect : (touched : List ℕ) (rows : List StoredRow) (t : ℕ) (cs : List Constraint) → AllOn t cs → Clean (with_table t touched) rows cs
all_suspect touched rows t [] on = tt
all_suspect touched rows t (c ∷ cs) on = (head, all_suspect touched rows t cs on.1) where
  head : is_suspect (with_table t touched) c ≡ false → violating rows c ≡ []
  head e = absurd (impossible (sym (ap (λ u. u == t) on.0 ∙ equal_itself t) ∙ (or_parts (c.table == t) (refers_to t c.rule) (apart t touched c e)).0)) where
    impossible : true ≡ false → ⊥
    impossible x = cc

new_clean : (rows : List StoredRow) (n : ℕ) (new : List Constraint) (touched : List ℕ) → AllOn n new → Clean (with_new rows new touched) rows new
new_clean rows n [] touched on = tt
new_clean rows n (c ∷ new) touched on = by (cases_Bool (list_any (λ r. r.table == c.table) rows)) where
  here : (ks : List Constraint) → AllOn n ks → AllOn c.table ks
  here ks a = subst (λ t. AllOn t ks) (sym on.0) a

  by : (list_any (λ r. r.table == c.table) rows ≡ true) ⊎ (list_any (λ r. r.table == c.table) rows ≡ false)
      → Clean (if list_any (λ r. r.table == c.table) rows then with_table c.table touched else touched) rows (c ∷ new)
  by (inl e) = subst (λ b. Clean (if b then with_table c.table touched else touched) rows (c ∷ new)) (sym e) (all_suspect touched rows c.table (c ∷ new) (here (c ∷ new) on))
  by (inr e) = subst (λ b. Clean (if b then with_table c.table touched else touched) rows (c ∷ new)) (sym e) (new_unless_rows touched rows c.table (c ∷ new) e (here (c ∷ new) on))

-- The tables that were changed, if new constraints are of a table that has no rows.
pub new_else : (rows : List StoredRow) (cs : List Constraint) (d : Constraint) (touched : List ℕ) → 1 ≤ length cs → d ≡ slice_index_or cs 0 d
    → false ≡ list_any (λ r. r.table == d.table) rows → touched ≡ with_new rows cs touched
new_else rows [] d touched l e f = absurd (omega (arith, l))
new_else rows (c ∷ cs) d touched l e f =
    ap (λ b. if b then with_table c.table touched else touched) (f ∙ ap (λ (k : Constraint). list_any (λ (r : StoredRow). r.table == k.table) rows) e)

pub watched_with_new : (new cs : List Constraint) (touched : List ℕ) (db : Database) (dbs : List Database) → dbs ≡ [] → Watched touched cs db dbs
    → Watched (with_new db.rows new touched) cs db dbs
watched_with_new new cs touched db dbs e h = record {
  few = h.few;
  base = clean_with_new db.rows new touched cs h.base;
  marks = subst (λ l. EachClean (with_new db.rows new touched) cs l) (sym e) tt;
}

pub watched_more : (new cs : List Constraint) (n : ℕ) (touched : List ℕ) (db : Database) (dbs : List Database) → dbs ≡ [] → AllOn n new
    → length cs + length new ≤ MOST_TABLES * MOST_CONSTRAINTS → Watched touched cs db dbs → Watched (with_new db.rows new touched) (cs ++ new) db dbs
watched_more new cs n touched db dbs e on few h = record {
  few = subst (λ k. k ≤ MOST_TABLES * MOST_CONSTRAINTS) (sym (length-append cs new)) few;
  base = clean_more (with_new db.rows new touched) db.rows cs new (clean_with_new db.rows new touched cs h.base) (new_clean db.rows n new touched on);
  marks = subst (λ l. EachClean (with_new db.rows new touched) (cs ++ new) l) (sym e) tt;
}

none_found : (p : StoredRow → Bool) (rows : List StoredRow) → option_map (λ (r : StoredRow). r.number) (find p rows) ≡ None → filter p rows ≡ []
none_found p [] e = refl
none_found p (r ∷ rows) e = by (p r) e (none_found p rows) where
  by : (b : Bool) → option_map (λ (q : StoredRow). q.number) (if b then Some r else find p rows) ≡ None
      → (option_map (λ (q : StoredRow). q.number) (find p rows) ≡ None → filter p rows ≡ []) → (if b then r ∷ filter p rows else filter p rows) ≡ []
  by true f more = cc
  by false f more = more f

pub watched_one_more : (c : Constraint) (cs : List Constraint) (touched : List ℕ) (db : Database) (dbs : List Database) → dbs ≡ []
    → option_map (λ (r : StoredRow). r.number) (find (violates db.rows c) db.rows) ≡ None
    → length cs < MOST_TABLES * MOST_CONSTRAINTS → Watched touched cs db dbs → Watched touched (cs ++ c ∷ []) db dbs
watched_one_more c cs touched db dbs e none few h = record {
  few = subst (λ k. k ≤ MOST_TABLES * MOST_CONSTRAINTS) (sym (length-append cs (c ∷ []))) (omega (arith, few));
  base = clean_more touched db.rows cs (c ∷ []) h.base ((λ _. none_found (violates db.rows c) db.rows none), tt);
  marks = subst (λ l. EachClean touched (cs ++ c ∷ []) l) (sym e) tt;
}

-- ---- where nothing is violated

no_first : (faults : List Fault) → first faults ≡ None → faults ≡ []
no_first [] e = refl
no_first (x ∷ xs) e = cc

no_items : (id : ℕ) (rows : List StoredRow) → map (fault_at id) rows ≡ [] → rows ≡ []
no_items id [] e = refl
no_items id (r ∷ rows) e = cc

clean_from : (touched : List ℕ) (rows : List StoredRow) (id : ℕ) (cs : List Constraint) → scan_from rows (λ _. true) id cs ≡ [] → Clean touched rows cs
clean_from touched rows id [] e = tt
clean_from touched rows id (c ∷ cs) e = (
  (λ _. no_items id (violating rows c) (left_empty (violations rows id c) (scan_from rows (λ _. true) (id + 1) cs) e)),
  clean_from touched rows (id + 1) cs (right_empty (violations rows id c) (scan_from rows (λ _. true) (id + 1) cs) e),
)

-- If the scan of all constraints finds none, none is violated.
pub none_violated : (touched : List ℕ) (rows : List StoredRow) (cs : List Constraint) → first (scan rows cs (λ _. true)) ≡ None → Clean touched rows cs
none_violated touched rows cs e = clean_from touched rows 0 cs (no_first (scan rows cs (λ _. true)) e)

-- ---- marks

each_more : (touched : List ℕ) (cs : List Constraint) (dbs : List Database) (db : Database) → EachClean touched cs dbs → Clean touched db.rows cs → EachClean touched cs (dbs ++ db ∷ [])
each_more touched cs [] db h g = (g, tt)
each_more touched cs (d ∷ dbs) db h g = (h.0, each_more touched cs dbs db h.1 g)

each_but_last : (touched : List ℕ) (cs : List Constraint) (dbs : List Database) (db : Database) → EachClean touched cs (dbs ++ db ∷ []) → EachClean touched cs dbs × Clean touched db.rows cs
each_but_last touched cs [] db h = (tt, h.0)
each_but_last touched cs (d ∷ dbs) db h = (let p : EachClean touched cs dbs × Clean touched db.rows cs = each_but_last touched cs dbs db h.1 in ((h.0, p.0), p.1))

each_taken : (touched : List ℕ) (cs : List Constraint) (n : ℕ) (dbs : List Database) → EachClean touched cs dbs → EachClean touched cs (take n dbs)
each_taken touched cs zero dbs h = tt
each_taken touched cs (suc n) [] h = tt
each_taken touched cs (suc n) (db ∷ dbs) h = (h.0, each_taken touched cs n dbs h.1)

each_dropped : (touched : List ℕ) (cs : List Constraint) (n : ℕ) (dbs : List Database) → EachClean touched cs dbs → EachClean touched cs (drop n dbs)
each_dropped touched cs zero dbs h = h
each_dropped touched cs (suc n) [] h = tt
each_dropped touched cs (suc n) (db ∷ dbs) h = each_dropped touched cs n dbs h.1

each_joined : (touched : List ℕ) (cs : List Constraint) (dbs more : List Database) → EachClean touched cs dbs → EachClean touched cs more → EachClean touched cs (dbs ++ more)
each_joined touched cs [] more h g = g
each_joined touched cs (db ∷ dbs) more h g = (h.0, each_joined touched cs dbs more h.1 g)

each_removed : (touched : List ℕ) (cs : List Constraint) (n : ℕ) (dbs : List Database) → EachClean touched cs dbs → EachClean touched cs (remove dbs n)
each_removed touched cs n dbs h = each_joined touched cs (take n dbs) (drop (suc n) dbs) (each_taken touched cs n dbs h) (each_dropped touched cs (suc n) dbs h)

each_at : (touched : List ℕ) (cs : List Constraint) (n : ℕ) (dbs : List Database) (d : Database) → n < length dbs → EachClean touched cs dbs → Clean touched (slice_index_or dbs n d).rows cs
each_at touched cs n [] d l h = absurd (omega (arith, l))
each_at touched cs zero (db ∷ dbs) d l h = h.0
each_at touched cs (suc n) (db ∷ dbs) d l h = each_at touched cs n dbs d (omega (arith, l)) h.1

pub watched_with_mark : (touched : List ℕ) (cs : List Constraint) (db : Database) (dbs : List Database) → Watched touched cs db dbs → Watched touched cs db (dbs ++ db ∷ [])
watched_with_mark touched cs db dbs h = record { few = h.few; base = h.base; marks = each_more touched cs dbs db h.marks h.base }

pub watched_without_mark : (touched : List ℕ) (cs : List Constraint) (db : Database) (dbs : List Database) (n : ℕ) → Watched touched cs db dbs → Watched touched cs db (remove dbs n)
watched_without_mark touched cs db dbs n h = record { few = h.few; base = h.base; marks = each_removed touched cs n dbs h.marks }

pub watched_at_mark : (touched : List ℕ) (cs : List Constraint) (db d : Database) (dbs : List Database) (n : ℕ) → n < length dbs → Watched touched cs db dbs
    → Watched touched cs (slice_index_or dbs n d) (take (n + 1) dbs)
watched_at_mark touched cs db d dbs n l h = record { few = h.few; base = each_at touched cs n dbs d l h.marks; marks = each_taken touched cs (n + 1) dbs h.marks }

pub watched_before_mark : (touched : List ℕ) (cs : List Constraint) (db last : Database) (dbs earlier : List Database) (n : ℕ) → take (n + 1) dbs ≡ earlier ++ last ∷ []
    → Watched touched cs db dbs → Watched touched cs last earlier
watched_before_mark touched cs db last dbs earlier n e h =
    let p : EachClean touched cs earlier × Clean touched last.rows cs = each_but_last touched cs earlier last (subst (λ l. EachClean touched cs l) e (each_taken touched cs (n + 1) dbs h.marks)) in
    record { few = h.few; base = p.1; marks = p.0 }

-- the last of so many marks is that of the place, and the others are those before it
split_at : (dbs earlier : List Database) (n : ℕ) (last base : Database) → n < length dbs → take (suc n) dbs ≡ earlier ++ last ∷ []
    → (elim (slice_get dbs n) [ Some db ↦ db | None ↦ base ] ≡ last) × (take n dbs ≡ earlier)
split_at [] earlier n last base l e = absurd (omega (arith, l))
split_at (db ∷ dbs) [] zero last base l e = (cc, refl)
split_at (db ∷ []) (x ∷ xs) zero last base l e = absurd (one_more_left xs e) where
  one_more_left : (ys : List Database) → db ∷ [] ≡ x ∷ (ys ++ last ∷ []) → ⊥
  one_more_left [] f = cc
  one_more_left (y ∷ ys) f = cc
split_at (db ∷ d ∷ dbs) (x ∷ xs) zero last base l e = absurd (one_more_left xs e) where
  one_more_left : (ys : List Database) → db ∷ [] ≡ x ∷ (ys ++ last ∷ []) → ⊥
  one_more_left [] f = cc
  one_more_left (y ∷ ys) f = cc
split_at (db ∷ []) earlier (suc n) last base l e = absurd (omega (arith, l))
split_at (db ∷ d ∷ dbs) [] (suc n) last base l e = cc
split_at (db ∷ d ∷ dbs) (x ∷ xs) (suc n) last base l e =
    let first_is : db ≡ x = cc in
    let rest_is : take (suc n) (d ∷ dbs) ≡ xs ++ last ∷ [] = cc in
    let p : (elim (slice_get (d ∷ dbs) n) [ Some found ↦ found | None ↦ base ] ≡ last) × (take n (d ∷ dbs) ≡ xs) = split_at (d ∷ dbs) xs n last base (omega (arith, l)) rest_is in
    (p.0, ap (λ (k : List Database). db ∷ k) p.1 ∙ ap (λ (k : Database). k ∷ xs) first_is)

pub undone_is : (s : StoreState) (n : ℕ) (last : Database) (earlier : List Database) → n < length s.marks → take (n + 1) s.marks ≡ earlier ++ last ∷ []
    → record { tables = s.tables; constraints = s.constraints; base = last; marks = earlier } ≡ store_before_mark s n
undone_is s n last earlier l e =
    let p : (marked_database s n ≡ last) × (take n s.marks ≡ earlier) = split_at s.marks earlier n last s.base l (subst (λ k. take k s.marks ≡ earlier ++ last ∷ []) (add-one n) e) in
    ap (λ (db : Database). record { tables = s.tables; constraints = s.constraints; base = db; marks = earlier }) (sym p.0)
    ∙ ap (λ (dbs : List Database). record { tables = s.tables; constraints = s.constraints; base = marked_database s n; marks = dbs }) (sym p.1)

-- the mark of a place is there
pub marked_is : (dbs : List Database) (n : ℕ) (d base : Database) → n < length dbs → slice_index_or dbs n d ≡ elim (slice_get dbs n) [ Some db ↦ db | None ↦ base ]
marked_is [] n d base l = absurd (omega (arith, l))
marked_is (db ∷ dbs) zero d base l = refl
marked_is (db ∷ dbs) (suc n) d base l = marked_is dbs n d base (omega (arith, l))
