-- The groups of a constraint, filled row by row, and the first row that violates it.
use Rattle.std.proofs.Common.{◌≡◌, refl, ℕ, zero, suc, ◌<◌, ◌≤◌, Bool, true, false, ◌&&◌, ◌||◌, not, if◌then◌else◌, List, [], ◌∷◌, ◌++◌, length, map, filter, find, slice_get, option_map, Option, Some, None, sym, ap, subst, ◌∙◌, arith}
use Rattle.std.specs.Bool.{◌==◌, nat_lt}
use Rattle.std.specs.Prelude.{◌≢◌}
use Rattle.std.proofs.lemmas.Bool.{true≢false, eqb-true, eq-eqb, or_right}
use Rattle.std.proofs.lemmas.Bool.Decides.{nat_tests}
use Rattle.iv_store_faults.specs.Types.{Value, StoredRow, Rule, Constraint, ForeignKey}
use Rattle.iv_store_faults.specs.Types.rule
use Rattle.iv_value.specs.Values.{all_same}
use Rattle.iv_key.specs.Keys.{key_of, none_null}
use Rattle.iv_expr.specs.Scopes.{Rises, row_above, table_rows, numbered}
use Rattle.iv_expr.proofs.Scan.{rows_above, above_all, above_next, scan_next, scan_none, found_row, table_rises}
use Rattle.iv_machine.specs.Databases.{row_at, satisfies, violates}
use Rattle.iv_store.specs.Stores.{numbers_of}
use Rattle.iv_laws_levels.specs.RisingRows.{Above, InOrder}
use Rattle.iv_laws_levels.proofs.RowNumbers.{in_order_filter, passing, row_at_filter_in_order, some_none, some_same}
use Rattle.iv_store_groups.specs.Groups.{Contents, GroupOf, groups_of}
use Rattle.iv_store_violating.specs.Shown.{shown, shown_group, shown_of}
use Rattle.iv_store_violating.proofs.Shown.{groups_shown}
use Rattle.iv_laws_kept.specs.Numbers.{has, with_number}
use Rattle.iv_laws_kept.specs.Kept.{AllNamed, Group, Show, is_kept_under, is_referenced, kept_key, null_key, null_key_where, is_free, rows_in, rows_under}
use Rattle.iv_laws_kept.proofs.Holding.{violate_at}
use Rattle.iv_laws_kept.proofs.RisingNumbers.{has_append, has_head}
use Rattle.iv_laws_kept.proofs.RowByRow.{violates_is}
use Rattle.iv_laws_kept.proofs.Rows.{passes}
use Rattle.iv_store_following.specs.declared.reference.KeyReference.{KeyReference}
use Rattle.iv_store_faults.specs.Violating.{IsReferring, violates_by}
use Rattle.iv_store_following.specs.KeyGroups.{violate_by}
use Rattle.iv_store_following.specs.References.{AreReferences, IsReference, TellsReferenced, reference_at}
use Rattle.iv_store_following.specs.BorrowedChange.{come, is_key}
use Rattle.std.proofs.lemmas.List.{length-append}
use Rattle.std.proofs.lemmas.Option.{slice_get_within}
use Rattle.iv_store_following.proofs.Follows.{named_there}
use Rattle.iv_store_following.proofs.Whole.{referenced_by, same_violating}

-- ---- rows by rising number

all_above : (n low : ℕ) (rows : List StoredRow) → n ≤ low → Rises low rows → Above n rows
all_above n low [] le h = tt
all_above n low (r ∷ rows) le h = (omega (arith, le, h.0), all_above n r.number rows (omega (arith, le, h.0)) h.2)

pub in_order : (low : ℕ) (rows : List StoredRow) → Rises low rows → InOrder rows
in_order low [] h = tt
in_order low (r ∷ rows) h = (all_above r.number r.number rows (omega arith) h.2, in_order r.number rows h.2)

-- the first row above a number is the one of its own number
first_above : (n : ℕ) (rows : List StoredRow) (r : StoredRow) → InOrder rows → row_above n rows ≡ Some r → row_at rows r.number ≡ Some r
first_above n [] r h e = absurd (some_none r (sym e))
first_above n (x ∷ rows) r h e =
    elim (nat_lt n x.number) as (λ b. (if b then Some x else row_above n rows) ≡ Some r → (if x.number == r.number then Some x else row_at rows r.number) ≡ Some r) [
      | true ↦ λ s. let is = some_same x r s in ap (λ b. if b then Some x else row_at rows r.number) (eq-eqb x.number r.number (ap (λ q. q.number) is)) ∙ ap (λ q. Some q) is
      | false ↦ λ s. let rest = first_above n rows r h.1 s in
          ap (λ b. if b then Some x else row_at rows r.number) (apart r (there rows r rest) h.0) ∙ rest
    ] e
  where
    there : (rows : List StoredRow) (r : StoredRow) → row_at rows r.number ≡ Some r → (low : ℕ) → Above low rows → low < r.number
    there [] r e low a = absurd (some_none r (sym e))
    there (y ∷ rows) r e low a =
        elim (y.number == r.number) as (λ b. (y.number == r.number) ≡ b → (if b then Some y else row_at rows r.number) ≡ Some r → low < r.number) [
          | true ↦ λ same s. subst (λ m. low < m) (eqb-true y.number r.number same) a.0
          | false ↦ λ same s. there rows r s low a.1
        ] refl e

    apart : (r : StoredRow) → ((low : ℕ) → Above low rows → low < r.number) → Above x.number rows → (x.number == r.number) ≡ false
    apart r up a = let less : x.number < r.number = up x.number a in grind (arith, nat_tests)

-- a row that a scan found, by its number
pub found_at : (rows : List StoredRow) (t n : ℕ) (p : ℕ × List Value) → Rises 0 rows → Some p ≡ option_map numbered (row_above n (table_rows rows t))
    → (r : StoredRow) × (rows_above n (table_rows rows t) ≡ r ∷ rows_above p.0 (table_rows rows t)) × (row_at rows p.0 ≡ Some r) × (r.values ≡ p.1) × (r.number ≡ p.0) × ((r.table == t) ≡ true)
found_at rows t n p h e =
    let f = found_row (row_above n (table_rows rows t)) p e in
    let own : row_at (table_rows rows t) f.0.number ≡ Some f.0 = first_above n (table_rows rows t) f.0 sorted f.1 in
    let whole = passed (row_at rows f.0.number) (sym (row_at_filter_in_order (λ r. r.table == t) rows f.0.number (in_order 0 rows h)) ∙ own) in
    (f.0, above_next 0 n (table_rows rows t) f.0 (table_rises 0 t rows h) f.1 ∙ ap (λ k. f.0 ∷ rows_above k (table_rows rows t)) f.2, ap (row_at rows) (sym f.2) ∙ whole.0, f.3, f.2, whole.1)
  where
    found : StoredRow
    found = (found_row (row_above n (table_rows rows t)) p e).0

    sorted : InOrder (table_rows rows t)
    sorted = in_order_filter (λ r. r.table == t) rows (in_order 0 rows h)

    passed : (o : Option StoredRow) → passing (λ r. r.table == t) o ≡ Some found → (o ≡ Some found) × ((found.table == t) ≡ true)
    passed None s = absurd (some_none found (sym s))
    passed (Some x) s =
        elim (x.table == t) as (λ b. (x.table == t) ≡ b → (if b then Some x else None) ≡ Some found → (Some x ≡ Some found) × ((found.table == t) ≡ true)) [
          | true ↦ λ own q. (q, ap (λ r. r.table == t) (sym (some_same x found q)) ∙ own)
          | false ↦ λ own q. absurd (some_none found (sym q))
        ] refl s

-- ---- numbers that come one after the other

with_last : (n : ℕ) (numbers : List ℕ) → ((m : ℕ) → has m numbers ≡ true → m < n) → with_number n numbers ≡ numbers ++ n ∷ []
with_last n [] h = refl
with_last n (m ∷ numbers) h =
    let less : m < n = h m (has_head m numbers) in
    let later : nat_lt n m ≡ false = grind (arith, nat_tests) in
    let other : (m == n) ≡ false = grind (arith, nat_tests) in
    ap (λ b. if b then n ∷ m ∷ numbers else (if m == n then m ∷ numbers else m ∷ with_number n numbers)) later
    ∙ ap (λ b. if b then m ∷ numbers else m ∷ with_number n numbers) other
    ∙ ap (λ l. m ∷ l) (with_last n numbers (λ k there. h k (or_right (m == k) (has k numbers) there)))

-- the numbers under a key, after these rows have come one after the other
abbrev pub filled : Rule → List Value → List StoredRow → List ℕ → List ℕ
filled k key [] numbers = numbers
filled k key (r ∷ rows) numbers = filled k key rows (come (is_key (kept_key k r.values) key) r.number numbers)

append_none : (xs : List ℕ) → xs ++ [] ≡ xs
append_none [] = refl
append_none (x ∷ xs) = ap (λ l. x ∷ l) (append_none xs)

append_twice : (xs ys zs : List ℕ) → (xs ++ ys) ++ zs ≡ xs ++ (ys ++ zs)
append_twice [] ys zs = refl
append_twice (x ∷ xs) ys zs = ap (λ l. x ∷ l) (append_twice xs ys zs)

is_one : (o : Option (List Value)) (key : List Value) → is_key o key ≡ elim o [ Some k ↦ all_same k key | None ↦ false ]
is_one None key = refl
is_one (Some k) key = refl

pub filled_is : (c : Constraint) (key : List Value) (low : ℕ) (rows : List StoredRow) (numbers : List ℕ) → Rises low rows → ((m : ℕ) → has m numbers ≡ true → m ≤ low)
    → filled c.rule key (table_rows rows c.table) numbers ≡ numbers ++ numbers_of (filter (is_kept_under c key) rows)
filled_is c key low [] numbers h below = sym (append_none numbers)
filled_is c key low (r ∷ rows) numbers h below =
    by_table (λ later under. filled_is c key r.number rows later h.2 under) (r.table == c.table) (is_key (kept_key c.rule r.values) key) refl
    ∙ ap (λ b. numbers ++ numbers_of (if (r.table == c.table) && b then r ∷ filter (is_kept_under c key) rows else filter (is_kept_under c key) rows)) (is_one (kept_key c.rule r.values) key)
  where
    own : List StoredRow
    own = filter (is_kept_under c key) rows

    lower : (m : ℕ) → has m numbers ≡ true → m ≤ r.number
    lower m e = let le : m ≤ low = below m e in omega (arith, h.0, le)

    next : (m : ℕ) → has m (numbers ++ r.number ∷ []) ≡ true → m ≤ r.number
    next m e = by_parts (has m numbers) (has m (r.number ∷ [])) refl refl (sym (has_append m numbers (r.number ∷ [])) ∙ e)
      where
        by_parts : (a b : Bool) → has m numbers ≡ a → has m (r.number ∷ []) ≡ b → (a || b) ≡ true → m ≤ r.number
        by_parts true b e f g = lower m e
        by_parts false b e f g = by_same (r.number == m) refl (f ∙ g)
          where
            by_same : (x : Bool) → (r.number == m) ≡ x → (x || false) ≡ true → m ≤ r.number
            by_same true s q = let is : r.number ≡ m = eqb-true r.number m s in omega (arith, is)
            by_same false s q = absurd (true≢false (sym q))

    by_table : ((later : List ℕ) → ((m : ℕ) → has m later ≡ true → m ≤ r.number) → filled c.rule key (table_rows rows c.table) later ≡ later ++ numbers_of own)
        → (b k : Bool) → is_key (kept_key c.rule r.values) key ≡ k
        → filled c.rule key (if b then r ∷ table_rows rows c.table else table_rows rows c.table) numbers ≡ numbers ++ numbers_of (if b && is_key (kept_key c.rule r.values) key then r ∷ own else own)
    by_table more false k e = more numbers lower
    by_table more true true e =
        ap (λ b. filled c.rule key (table_rows rows c.table) (come b r.number numbers)) e
        ∙ ap (filled c.rule key (table_rows rows c.table)) (with_last r.number numbers (λ m there. let le : m ≤ low = below m there in omega (arith, h.0, le)))
        ∙ more (numbers ++ r.number ∷ []) next
        ∙ append_twice numbers (r.number ∷ []) (numbers_of own)
        ∙ ap (λ b. numbers ++ numbers_of (if b then r ∷ own else own)) (sym e)
    by_table more true false e =
        ap (λ b. filled c.rule key (table_rows rows c.table) (come b r.number numbers)) e
        ∙ more numbers lower
        ∙ ap (λ b. numbers ++ numbers_of (if b then r ∷ own else own)) (sym e)

-- a row that was scanned comes first
pub filled_next : (k : Rule) (key : List Value) (rs : List StoredRow) (n : ℕ) (p : ℕ × List Value) (numbers : List ℕ) → Rises 0 rs → Some p ≡ option_map numbered (row_above n rs)
    → filled k key (rows_above n rs) numbers ≡ filled k key (rows_above p.0 rs) (come (is_key (kept_key k p.1) key) p.0 numbers)
filled_next k key rs n p numbers h s =
    let r = scan_next n rs p h s in
    ap (λ (rows : List StoredRow). filled k key rows numbers) r.1
    ∙ ap (λ (m : ℕ). filled k key (rows_above p.0 rs) (come (is_key (kept_key k r.0.values) key) m numbers)) r.2
    ∙ ap (λ (v : List Value). filled k key (rows_above p.0 rs) (come (is_key (kept_key k v) key) p.0 numbers)) r.3

pub filled_all : (k : Rule) (key : List Value) (rs : List StoredRow) (n : ℕ) (numbers : List ℕ) → None ≡ option_map numbered (row_above n rs) → filled k key (rows_above n rs) numbers ≡ numbers
filled_all k key rs n numbers s = ap (λ (rows : List StoredRow). filled k key rows numbers) (scan_none n rs s)

-- ---- the first row that violates

-- a test that only rows of a table pass finds the same row among only these
pub found_in_table : (p : StoredRow → Bool) (t : ℕ) (rows : List StoredRow) → ((r : StoredRow) → (r.table == t) ≡ false → p r ≡ false) → find p (table_rows rows t) ≡ find p rows
found_in_table p t [] h = refl
found_in_table p t (r ∷ rows) h =
    elim (r.table == t) as (λ b. (r.table == t) ≡ b → find p (if b then r ∷ table_rows rows t else table_rows rows t) ≡ (if p r then Some r else find p rows)) [
      | true ↦ λ e. ap (λ o. if p r then Some r else o) (found_in_table p t rows h)
      | false ↦ λ e. found_in_table p t rows h ∙ ap (λ b. if b then Some r else find p rows) (sym (h r e))
    ] refl

-- a row violates a constraint if those that are kept with it do
pub violates_at : (rows : List StoredRow) (constraints : List Constraint) (gs : List (List GroupOf)) (id : ℕ) (c : Constraint) (n : ℕ) (r : StoredRow)
    → Rises 0 rows → AllNamed constraints → Show rows constraints (shown gs) → slice_get constraints id ≡ Some c → row_at rows n ≡ Some r → (r.table == c.table) ≡ true
    → violates rows c r ≡ violates_by constraints (shown gs) id c (kept_key c.rule r.values)
violates_at rows constraints gs id c n r h all show at here table =
    ap (passes (violates rows c)) (sym here) ∙ violates_is rows constraints (shown gs) id c n (in_order 0 rows h) all show at
    ∙ ap (λ o. violate_at constraints (shown gs) id c (elim o [ Some r ↦ if r.table == c.table then kept_key c.rule r.values else None | None ↦ None ])) here
    ∙ ap (λ b. violate_at constraints (shown gs) id c (if b then kept_key c.rule r.values else None)) table
    ∙ said (kept_key c.rule r.values)
  where
    said : (o : Option (List Value)) → violate_at constraints (shown gs) id c o ≡ violates_by constraints (shown gs) id c o
    said None = refl
    said (Some key) = refl

-- ---- whether the rows under a key violate

-- a foreign key keeps a row under a key without nulls if it is that of its columns
own_key : (fk : ForeignKey) (values key : List Value) → kept_key (rule.ForeignKey fk) values ≡ Some key → none_null key ≡ true → key ≡ key_of fk.columns values
own_key fk values key e given =
    elim (none_null (key_of fk.columns values)) as (λ b. (if b then Some (key_of fk.columns values) else null_key_where (not (is_free fk.matching (key_of fk.columns values)))) ≡ Some key → key ≡ key_of fk.columns values) [
      | true ↦ λ q. sym (some_same (key_of fk.columns values) key q)
      | false ↦ λ q. absurd (not_null_key (not (is_free fk.matching (key_of fk.columns values))) q)
    ] e
  where
    not_null_key : (b : Bool) → null_key_where b ≡ Some key → ⊥
    not_null_key true h = true≢false (sym given ∙ ap none_null (sym (some_same null_key key h)))
    not_null_key false h = some_none key (sym h)

-- what is told by the count of the rows and by whether the key is referenced
pub told_violating : (constraints : List Constraint) (gs : List (List GroupOf)) (id : ℕ) (c : Constraint) (reference : Option KeyReference) (values key : List Value) (count : ℕ) (referenced said : Bool)
    → AllNamed constraints → slice_get constraints id ≡ Some c → IsReferring constraints c reference → kept_key c.rule values ≡ Some key
    → count ≡ length (rows_in (shown_of gs id) key)
    → ((r : KeyReference) → reference ≡ Some r → TellsReferenced r values (shown_of gs r.named) referenced)
    → ((is_referenced : List Value → Bool) → (none_null key ≡ true → is_referenced key ≡ referenced) → said ≡ violate_by is_referenced c.rule key count)
    → said ≡ violates_by constraints (shown gs) id c (Some key)
told_violating constraints gs id c reference values key count referenced said all at is e counted told by = by_rule c.rule refl
  where
    numbers : List ℕ
    numbers = rows_under (shown gs) id key

    g : Group
    g = record { key = key; rows = numbers }

    same_count : count ≡ length numbers
    same_count = counted ∙ ap (λ own. length (rows_in own key)) (sym (groups_shown gs id))

    -- of a rule that isn't a foreign key nothing is asked
    plain : (k : Rule) → c.rule ≡ k → violate_by (λ _. referenced) k key count ≡ violate_by (referenced_by constraints (shown gs) k) k key count → said ≡ violates_by constraints (shown gs) id c (Some key)
    plain k f same =
        by (λ _. referenced) (λ _. refl) ∙ ap (λ (x : Rule). violate_by (λ _. referenced) x key count) f ∙ same ∙ ap (violate_by (referenced_by constraints (shown gs) k) k key) same_count
        ∙ sym (same_violating constraints (shown gs) c k g f)

    by_rule : (k : Rule) → c.rule ≡ k → said ≡ violates_by constraints (shown gs) id c (Some key)
    by_rule (rule.NotNull column) f = plain (rule.NotNull column) f refl
    by_rule (rule.Check condition) f = plain (rule.Check condition) f refl
    by_rule (rule.Unique nulls columns) f = plain (rule.Unique nulls columns) f refl
    by_rule (rule.PrimaryKey columns) f = plain (rule.PrimaryKey columns) f refl
    by_rule (rule.ForeignKey fk) f =
        let r = is.there fk f in
        let ref : IsReference constraints c r.0 = is.is r.0 r.1 in
        by (is_referenced constraints (shown gs) fk)
        (λ given. refers r.0 ref (sym f ∙ ref.rule_is) (own_key fk values key (ap (λ k. kept_key k values) (sym f) ∙ e) given) (told r.0 r.1))
        ∙ ap (λ (x : Rule). violate_by (is_referenced constraints (shown gs) fk) x key count) f ∙ ap (violate_by (is_referenced constraints (shown gs) fk) (rule.ForeignKey fk) key) same_count
        ∙ sym (same_violating constraints (shown gs) c (rule.ForeignKey fk) g f)
      where
        columns_of : Rule → ForeignKey
        columns_of (rule.ForeignKey x) = x
        columns_of _ = fk

        refers : (r : KeyReference) → IsReference constraints c r → rule.ForeignKey fk ≡ rule.ForeignKey r.key → key ≡ key_of fk.columns values → TellsReferenced r values (shown_of gs r.named) referenced
            → is_referenced constraints (shown gs) fk key ≡ referenced
        refers r ref same own tells =
            let fk_is : fk ≡ r.key = ap columns_of same in
            (λ i. is_referenced constraints (shown gs) (fk_is i) ((own ∙ ap (λ x. key_of x.columns values) fk_is) i))
            ∙ tells constraints id c (shown gs) all at ref (groups_shown gs r.named)

-- ---- the constraint behind the others

behind : {A : Type 0} (olds : List A) (x : A) → slice_get (olds ++ x ∷ []) (length olds) ≡ Some x
behind [] x = refl
behind (y ∷ olds) x = behind olds x

among : {A : Type 0} (olds : List A) (x d : A) (k : ℕ) (P : Type 0) → slice_get (olds ++ x ∷ []) k ≡ Some d → (slice_get olds k ≡ Some d → k < length olds → P) → (k ≡ length olds → x ≡ d → P) → P
among [] x d zero P e old new = new refl (some_same x d e)
among [] x d (suc k) P e old new = absurd (some_none d (sym e))
among (y ∷ olds) x d zero P e old new = old e (omega arith)
among (y ∷ olds) x d (suc k) P e old new = among olds x d k P e (λ at less. old at (omega (arith, less))) (λ is. new (ap suc is))

pub added_at : (olds : List Constraint) (c : Constraint) → slice_get (olds ++ c ∷ []) (length olds) ≡ Some c
added_at olds c = behind olds c

-- the groups show the rows of the old constraints and of the new one
pub all_shown : (olds : List Constraint) (c : Constraint) (rows : List StoredRow) (gs new : List (List GroupOf)) → Show rows olds (shown gs)
    → ((k : ℕ) → (k ≡ length olds → ⊥) → groups_of new k ≡ groups_of gs k)
    → ((key : List Value) → rows_in (shown_of new (length olds)) key ≡ numbers_of (filter (is_kept_under c key) rows))
    → Show rows (olds ++ c ∷ []) (shown new)
all_shown olds c rows gs new show others own id d key at =
    among olds c d id (rows_under (shown new) id key ≡ numbers_of (filter (is_kept_under d key) rows)) at
    (λ old less. under new ∙ ap (λ own. rows_in (map shown_group own) key) (others id (λ is. omega (arith, less, is))) ∙ sym (under gs) ∙ show id d key old)
    (λ is same. under new ∙ ap (λ n. rows_in (shown_of new n) key) is ∙ own key ∙ ap (λ x. numbers_of (filter (is_kept_under x key) rows)) same)
  where
    under : (x : List (List GroupOf)) → rows_under (shown x) id key ≡ rows_in (shown_of x id) key
    under x = ap (λ own. rows_in own key) (groups_shown x id)

-- the reference of the constraint behind the others is its own
pub referring : (olds : List Constraint) (c : Constraint) (old news : List (Option KeyReference)) → length old ≡ length olds → AreReferences (olds ++ c ∷ []) (old ++ news)
    → IsReferring (olds ++ c ∷ []) c (reference_at news 0)
referring olds c old news count are = record {
  is = λ r e.
      let found = are.are (length olds) r (at ∙ e) in
      subst (λ d. IsReference (olds ++ c ∷ []) d r) (some_same found.0 c (sym found.1 ∙ behind olds c)) found.2;
  there = λ fk e. let found = are.all (length olds) c fk (behind olds c) e in (found.0, sym at ∙ found.1);
}
  where
    along : (old : List (Option KeyReference)) → reference_at (old ++ news) (length old) ≡ reference_at news 0
    along [] = refl
    along (x ∷ old) = along old

    at : reference_at (old ++ news) (length olds) ≡ reference_at news 0
    at = ap (reference_at (old ++ news)) (sym count) ∙ along old

-- ---- the loops

-- What is to come makes the numbers under each key those of all rows, and the other constraints have what they had.
pub record Filling (rows : List StoredRow) (c : Constraint) (id after : ℕ) (start now : Contents) : Type 0 where
  pub coming : (key : List Value) → filled c.rule key (rows_above after (table_rows rows c.table)) (rows_in (shown_of now.groups id) key) ≡ filled c.rule key (table_rows rows c.table) []
  pub others : (k : ℕ) → k ≢ id → groups_of now.groups k ≡ groups_of start.groups k
  pub count : length now.groups ≡ length start.groups
  pub grows : start.looked_up ≤ now.looked_up

pub filling_begins : (rows : List StoredRow) (c : Constraint) (id : ℕ) (start : Contents) → Rises 0 rows → groups_of start.groups id ≡ [] → Filling rows c id 0 start start
filling_begins rows c id start h free = record {
  coming = λ key. ap (λ own. filled c.rule key (rows_above 0 (table_rows rows c.table)) (rows_in (map shown_group own) key)) free
      ∙ ap (λ (xs : List StoredRow). filled c.rule key xs []) (above_all 0 0 (table_rows rows c.table) (table_rises 0 c.table rows h) (omega arith));
  others = λ k n. refl;
  count = refl;
  grows = omega arith;
}

pub filling_goes_on : (rows : List StoredRow) (c : Constraint) (id after : ℕ) (p : ℕ × List Value) (start now next : Contents) → Rises 0 rows
    → Some p ≡ option_map numbered (row_above after (table_rows rows c.table)) → Filling rows c id after start now
    → ((key : List Value) → rows_in (shown_of next.groups id) key ≡ come (is_key (kept_key c.rule p.1) key) p.0 (rows_in (shown_of now.groups id) key))
    → ((k : ℕ) → k ≢ id → groups_of next.groups k ≡ groups_of now.groups k) → length next.groups ≡ length now.groups → now.looked_up ≤ next.looked_up
    → Filling rows c id p.0 start next
filling_goes_on rows c id after p start now next h s f came others count grows = record {
  coming = λ key. ap (filled c.rule key (rows_above p.0 (table_rows rows c.table))) (came key)
      ∙ sym (filled_next c.rule key (table_rows rows c.table) after p (rows_in (shown_of now.groups id) key) (table_rises 0 c.table rows h) s) ∙ f.coming key;
  others = λ k n. others k n ∙ f.others k n;
  count = count ∙ f.count;
  grows = omega (arith, grows, f.grows);
}

pub filling_ends : (rows : List StoredRow) (c : Constraint) (id after : ℕ) (start now : Contents) → Rises 0 rows
    → None ≡ option_map numbered (row_above after (table_rows rows c.table)) → Filling rows c id after start now
    → (key : List Value) → rows_in (shown_of now.groups id) key ≡ numbers_of (filter (is_kept_under c key) rows)
filling_ends rows c id after start now h s f key =
    sym (filled_all c.rule key (table_rows rows c.table) after (rows_in (shown_of now.groups id) key) s) ∙ f.coming key
    ∙ filled_is c key 0 rows [] h (λ m there. absurd (true≢false (sym there)))

-- What is known of the constraint, its reference and its groups.
pub record Given (rows : List StoredRow) (constraints : List Constraint) (groups : List (List GroupOf)) (id : ℕ) (c : Constraint) (reference : Option KeyReference) : Type 0 where
  pub named : AllNamed constraints
  pub at : slice_get constraints id ≡ Some c
  pub is : IsReferring constraints c reference
  pub shows : Show rows constraints (shown groups)

-- The first row that violates is still to come.
pub record Searching (rows : List StoredRow) (c : Constraint) (id after : ℕ) (reference : Option KeyReference) (start now : Contents) : Type 0 where
  pub coming : (constraints : List Constraint) → Given rows constraints start.groups id c reference
      → find (violates rows c) (rows_above after (table_rows rows c.table)) ≡ find (violates rows c) rows
  pub kept : now.groups ≡ start.groups
  pub grows : start.looked_up ≤ now.looked_up

pub searching_begins : (rows : List StoredRow) (c : Constraint) (id : ℕ) (reference : Option KeyReference) (start : Contents) → Rises 0 rows → Searching rows c id 0 reference start start
searching_begins rows c id reference start h = record {
  coming = λ constraints given.
      ap (λ (xs : List StoredRow). find (violates rows c) xs) (above_all 0 0 (table_rows rows c.table) (table_rises 0 c.table rows h) (omega arith))
      ∙ found_in_table (violates rows c) c.table rows (λ r e. ap (λ b. b && not (satisfies rows c r)) e);
  kept = refl;
  grows = omega arith;
}

-- what is found from a row on whose test is known
found_from : (rows : List StoredRow) (c : Constraint) (id after : ℕ) (reference : Option KeyReference) (p : ℕ × List Value) (start now : Contents) (said : Bool)
    (constraints : List Constraint) → Rises 0 rows
    → Some p ≡ option_map numbered (row_above after (table_rows rows c.table)) → now.groups ≡ start.groups → Given rows constraints start.groups id c reference
    → ((constraints : List Constraint) → AllNamed constraints → slice_get constraints id ≡ Some c → IsReferring constraints c reference
    → said ≡ violates_by constraints (shown now.groups) id c (kept_key c.rule p.1))
    → (r : StoredRow) × (find (violates rows c) (rows_above after (table_rows rows c.table)) ≡ (if said then Some r else find (violates rows c) (rows_above p.0 (table_rows rows c.table)))) × (r.number ≡ p.0)
found_from rows c id after reference p start now said constraints h s same given tells =
    let f = found_at rows c.table after p h s in (
      f.0,
      ap (λ (xs : List StoredRow). find (violates rows c) xs) f.1
          ∙ ap (λ b. if b then Some f.0 else find (violates rows c) (rows_above p.0 (table_rows rows c.table)))
          (violates_at rows constraints start.groups id c p.0 f.0 h given.named given.shows given.at f.2 f.5
          ∙ ap (λ v. violates_by constraints (shown start.groups) id c (kept_key c.rule v)) f.3
          ∙ ap (λ gs. violates_by constraints (shown gs) id c (kept_key c.rule p.1)) (sym same)
          ∙ sym (tells constraints given.named given.at given.is)),
      f.4,
    )

pub searching_goes_on : (rows : List StoredRow) (c : Constraint) (id after : ℕ) (reference : Option KeyReference) (p : ℕ × List Value) (start now next : Contents) (said : Bool) → Rises 0 rows
    → Some p ≡ option_map numbered (row_above after (table_rows rows c.table)) → Searching rows c id after reference start now
    → ((constraints : List Constraint) → AllNamed constraints → slice_get constraints id ≡ Some c → IsReferring constraints c reference
    → said ≡ violates_by constraints (shown now.groups) id c (kept_key c.rule p.1))
    → next.groups ≡ now.groups → now.looked_up ≤ next.looked_up → said ≡ false → Searching rows c id p.0 reference start next
searching_goes_on rows c id after reference p start now next said h s f tells kept grows not_so = record {
  coming = λ constraints given.
      let found = found_from rows c id after reference p start now said constraints h s f.kept given tells in
      ap (λ b. if b then Some found.0 else find (violates rows c) (rows_above p.0 (table_rows rows c.table))) (sym not_so) ∙ sym found.1 ∙ f.coming constraints given;
  kept = kept ∙ f.kept;
  grows = omega (arith, grows, f.grows);
}

pub searching_found : (rows : List StoredRow) (c : Constraint) (id after : ℕ) (reference : Option KeyReference) (p : ℕ × List Value) (start now : Contents) (said : Bool) → Rises 0 rows
    → Some p ≡ option_map numbered (row_above after (table_rows rows c.table)) → Searching rows c id after reference start now
    → ((constraints : List Constraint) → AllNamed constraints → slice_get constraints id ≡ Some c → IsReferring constraints c reference
    → said ≡ violates_by constraints (shown now.groups) id c (kept_key c.rule p.1))
    → said ≡ true → (constraints : List Constraint) → Given rows constraints start.groups id c reference
    → Some p.0 ≡ option_map (λ r. r.number) (find (violates rows c) rows)
searching_found rows c id after reference p start now said h s f tells so constraints given =
    let found = found_from rows c id after reference p start now said constraints h s f.kept given tells in
    ap (λ n. Some n) (sym found.2)
    ∙ ap (λ b. option_map (λ (r : StoredRow). r.number) (if b then Some found.0 else find (violates rows c) (rows_above p.0 (table_rows rows c.table)))) (sym so)
    ∙ ap (option_map (λ (r : StoredRow). r.number)) (sym found.1 ∙ f.coming constraints given)

pub searching_ends : (rows : List StoredRow) (c : Constraint) (id after : ℕ) (reference : Option KeyReference) (start now : Contents)
    → None ≡ option_map numbered (row_above after (table_rows rows c.table)) → Searching rows c id after reference start now
    → (constraints : List Constraint) → Given rows constraints start.groups id c reference
    → None ≡ option_map (λ r. r.number) (find (violates rows c) rows)
searching_ends rows c id after reference start now s f constraints given =
    ap (λ (xs : List StoredRow). option_map (λ (r : StoredRow). r.number) (find (violates rows c) xs)) (sym (scan_none after (table_rows rows c.table) s))
    ∙ ap (option_map (λ (r : StoredRow). r.number)) (f.coming constraints given)

-- ---- the whole

-- the key that the reference names has groups
pub named_known : (olds : List Constraint) (c : Constraint) (old news : List (Option KeyReference)) (size : ℕ) → length old ≡ length olds → AllNamed (olds ++ c ∷ []) → AreReferences (olds ++ c ∷ []) (old ++ news)
    → length olds < size → (r : KeyReference) → reference_at news 0 ≡ Some r → r.named < size
named_known olds c old news size count all are less r e =
    let is : IsReference (olds ++ c ∷ []) c r = (referring olds c old news count are).is r e in
    let named = named_there (olds ++ c ∷ []) c r (length olds) all (added_at olds c) is in
    let within : r.named < length (olds ++ c ∷ []) = slice_get_within (olds ++ c ∷ []) r.named named.0 named.1 in
    omega (arith, within, length-append olds (c ∷ []), less)
