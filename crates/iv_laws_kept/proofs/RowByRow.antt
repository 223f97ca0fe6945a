-- A row violates a constraint if the rows that are kept with it do.
use Rattle.std.proofs.Common.{◌≡◌, refl, ℕ, ◌<◌, Bool, true, false, ◌&&◌, ◌||◌, not, if◌then◌else◌, List, [], ◌∷◌, length, filter, slice_get, Option, Some, None, sym, ap, subst, ◌∙◌, arith}
use mathlib.Core.Bool.{and-false}
use Rattle.std.specs.Bool.{◌==◌, nat_lt}
use Rattle.std.specs.List.{list_any}
use Rattle.std.proofs.lemmas.Bool.{eqb-true}
use Rattle.iv_laws_kept.specs.Types.{Value, StoredRow, Constraint, Rule, ForeignKey, MatchType, NullTreatment}
use Rattle.iv_laws_kept.specs.Types.rule
use Rattle.iv_laws_kept.specs.Types.matching.{Simple, Full}
use Rattle.iv_laws_kept.specs.Types.nulls.{Distinct, NotDistinct}
use Rattle.iv_value.specs.Values.{is_null, all_same}
use Rattle.iv_value.specs.Truths.{is_false}
use Rattle.iv_expr.specs.Evaluation.{check_truth}
use Rattle.iv_key.specs.Keys.{key_of, value_at, none_null, holds_key}
use Rattle.iv_machine.specs.Databases.{holds_key_with, shares_key, is_unique, has_referenced, matches, obeys, satisfies, violates, row_at}
use Rattle.iv_expr.specs.Scopes.{table_rows}
use Rattle.iv_store.specs.Stores.{numbers_of, unique_columns, all_among, are_same_columns}
use Rattle.iv_laws_levels.specs.RisingRows.{InOrder}
use Rattle.iv_laws_kept.specs.Numbers.{has, Rise}
use Rattle.iv_laws_kept.specs.Kept.{Groups, rows_under, Show, null_key, null_key_where, key_or, is_free, kept_key, is_kept_under, in_order_of, can_be_key, value_in, is_empty, is_referenced, keeps_nulls, violates_alone, break_rule, violate, AllNamed}
use Rattle.iv_laws_levels.proofs.Keys.{false_true, and_first, and_second, all_same_itself, all_same_is, same_test}
use Rattle.iv_laws_kept.proofs.Rows.{passes, has_filtered, filtered_rise}
use Rattle.iv_laws_levels.proofs.RowNumbers.{some_none, some_same, number_of_row_at}
use Rattle.iv_laws_kept.proofs.Columns.{in_order_map, none_null_among, all_among_itself}
use Rattle.iv_laws_kept.proofs.Naming.{Named, named_of}
use Rattle.iv_laws_kept.proofs.Holding.{key_at, violate_at}

-- ---- lists of numbers

-- a list that has a number isn't empty
pub not_empty : (n : ℕ) (numbers : List ℕ) → has n numbers ≡ true → is_empty numbers ≡ false
not_empty n [] e = absurd (false_true e)
not_empty n (m ∷ numbers) e = refl

-- of a list that has a number, another one is there if there is more than one
pub another : (n : ℕ) (numbers : List ℕ) → Rise numbers → has n numbers ≡ true → list_any (λ m. not (m == n)) numbers ≡ nat_lt 1 (length numbers)
another n [] h e = absurd (false_true e)
another n (m ∷ []) h e = elim (m == n) as (λ b. (b || false) ≡ true → (not b || false) ≡ nat_lt 1 (length (m ∷ []))) [ true ↦ λ _. refl | false ↦ λ f. absurd (false_true f) ] e
another n (m ∷ k ∷ numbers) h e = either (m == n) refl ∙ sym (two numbers)
  where
    two : (numbers : List ℕ) → nat_lt 1 (length (m ∷ k ∷ numbers)) ≡ true
    two numbers = grind arith

    either : (b : Bool) → (m == n) ≡ b → (not b || (not (k == n) || list_any (λ m. not (m == n)) numbers)) ≡ true
    either true f = ap (λ b. not b || list_any (λ m. not (m == n)) numbers) (differs f)
      where
        differs : (m == n) ≡ true → (k == n) ≡ false
        differs f = let less : m < k = h.0.0 in grind (arith, eqb-true m n f, less)
    either false f = refl

-- ---- tests of rows

any_same : {A : Type 0} (p q : A → Bool) (xs : List A) → ((x : A) → p x ≡ q x) → list_any p xs ≡ list_any q xs
any_same p q [] h = refl
any_same p q (x ∷ xs) h = λ i. h x i || any_same p q xs h i

any_filter : {A : Type 0} (p q : A → Bool) (xs : List A) → list_any p (filter q xs) ≡ list_any (λ x. q x && p x) xs
any_filter p q [] = refl
any_filter p q (x ∷ xs) =
    elim (q x) as (λ b. list_any p (if b then x ∷ filter q xs else filter q xs) ≡ ((b && p x) || list_any (λ y. q y && p y) xs)) [
      | true ↦ ap (λ b. p x || b) (any_filter p q xs)
      | false ↦ any_filter p q xs
    ]

any_number : (p : ℕ → Bool) (rows : List StoredRow) → list_any (λ r. p r.number) rows ≡ list_any p (numbers_of rows)
any_number p [] = refl
any_number p (r ∷ rows) = ap (λ b. p r.number || b) (any_number p rows)

-- whether any is among the rows that pass
any_is_some : (p : StoredRow → Bool) (rows : List StoredRow) → list_any p rows ≡ not (is_empty (numbers_of (filter p rows)))
any_is_some p [] = refl
any_is_some p (r ∷ rows) = elim (p r) as (λ b. (b || list_any p rows) ≡ not (is_empty (numbers_of (if b then r ∷ filter p rows else filter p rows)))) [ true ↦ refl | false ↦ any_is_some p rows ]

-- ---- keys of UNIQUE and PRIMARY KEY

is_alone : (key : List Value) → none_null key ≡ true → all_same null_key key ≡ false
is_alone key e = same_test (all_same null_key key) false (λ f. ap none_null (all_same_is null_key key f) ∙ e) (λ f. absurd (false_true f))

-- a rule with unique columns keeps a row under a key without nulls if the row holds the key
pub kept_is_held : (r : Rule) (columns : List ℕ) (key values : List Value) → unique_columns r ≡ Some columns → none_null key ≡ true
    → elim (kept_key r values) [ Some k ↦ all_same k key | None ↦ false ] ≡ holds_key columns key values
kept_is_held (rule.NotNull column) columns key values e h = absurd (some_none columns (sym e))
kept_is_held (rule.Check condition) columns key values e h = absurd (some_none columns (sym e))
kept_is_held (rule.Unique Distinct own) columns key values e h = held (some_same own columns e)
  where
    by_nulls : (b : Bool) → elim (if b then Some (key_of own values) else None) [ Some k ↦ all_same k key | None ↦ false ] ≡ (b && all_same (key_of own values) key)
    by_nulls true = refl
    by_nulls false = refl

    held : own ≡ columns → elim (key_or (key_of own values) None) [ Some k ↦ all_same k key | None ↦ false ] ≡ holds_key columns key values
    held is = by_nulls (none_null (key_of own values)) ∙ ap (λ c. holds_key c key values) is
kept_is_held (rule.Unique NotDistinct own) columns key values e h = held ∙ ap (λ c. holds_key c key values) (some_same own columns e)
  where
    held : all_same (key_of own values) key ≡ holds_key own key values
    held = same_test (all_same (key_of own values) key) (holds_key own key values)
        (λ same. (λ i. none_null (all_same_is (key_of own values) key same i) && same i) ∙ ap (λ b. b && true) h)
        (λ holds. and_second (none_null (key_of own values)) (all_same (key_of own values) key) holds)
kept_is_held (rule.PrimaryKey own) columns key values e h = held (some_same own columns e)
  where
    by_nulls : (b : Bool) → elim (if b then Some (key_of own values) else Some null_key) [ Some k ↦ all_same k key | None ↦ false ] ≡ (b && all_same (key_of own values) key)
    by_nulls true = refl
    by_nulls false = is_alone key h

    held : own ≡ columns → elim (key_or (key_of own values) (Some null_key)) [ Some k ↦ all_same k key | None ↦ false ] ≡ holds_key columns key values
    held is = by_nulls (none_null (key_of own values)) ∙ ap (λ c. holds_key c key values) is
kept_is_held (rule.ForeignKey fk) columns key values e h = absurd (some_none columns (sym e))

-- a key with a null is held by no row
null_not_held : (columns : List ℕ) (key values : List Value) → none_null key ≡ false → holds_key columns key values ≡ false
null_not_held columns key values e =
    same_test (holds_key columns key values) false (λ h.
    sym e ∙ ap none_null (sym (all_same_is (key_of columns values) key (and_second (none_null (key_of columns values)) (all_same (key_of columns values) key) h)))
    ∙ and_first (none_null (key_of columns values)) (all_same (key_of columns values) key) h) (λ h. absurd (false_true h))

-- ---- UNIQUE

-- the rows that share a row's key, if the rows that have it are kept under it
shared : (rows : List StoredRow) (c : Constraint) (nulls : NullTreatment) (columns : List ℕ) (numbers : List ℕ) (r : StoredRow)
    → ((values : List Value) → elim (kept_key c.rule values) [ Some k ↦ all_same k (key_of columns r.values) | None ↦ false ] ≡ holds_key_with nulls columns (key_of columns r.values) values)
    → numbers ≡ numbers_of (filter (is_kept_under c (key_of columns r.values)) rows)
    → Rise numbers → has r.number numbers ≡ true
    → list_any (shares_key nulls columns r) (table_rows rows c.table) ≡ nat_lt 1 (length numbers)
shared rows c nulls columns numbers r held is rise there =
    any_filter (shares_key nulls columns r) (λ x. x.table == c.table) rows
    ∙ any_same (λ x. (x.table == c.table) && shares_key nulls columns r x) (λ x. is_kept_under c key x && not (x.number == r.number)) rows
    (λ x. ap (λ b. (x.table == c.table) && (not (x.number == r.number) && b)) (sym (held x.values))
    ∙ turned (x.table == c.table) (not (x.number == r.number)) (elim (kept_key c.rule x.values) [ Some k ↦ all_same k key | None ↦ false ]))
    ∙ sym (any_filter (λ x. not (x.number == r.number)) (is_kept_under c key) rows)
    ∙ any_number (λ m. not (m == r.number)) (filter (is_kept_under c key) rows)
    ∙ ap (list_any (λ m. not (m == r.number))) (sym is)
    ∙ another r.number numbers rise there
  where
    key : List Value
    key = key_of columns r.values

    turned : (a b c : Bool) → (a && (b && c)) ≡ ((a && c) && b)
    turned true true true = refl
    turned true true false = refl
    turned true false true = refl
    turned true false false = refl
    turned false b c = refl

-- if nulls are distinct, a key with a null is shared by no row
not_shared : (rows : List StoredRow) (t : ℕ) (columns : List ℕ) (r : StoredRow) → none_null (key_of columns r.values) ≡ false
    → list_any (shares_key Distinct columns r) (table_rows rows t) ≡ false
not_shared rows t columns r e =
    any_same (shares_key Distinct columns r) (λ _. false) (table_rows rows t) (λ x.
    ap (λ b. not (x.number == r.number) && b) (null_not_held columns (key_of columns r.values) x.values e) ∙ and-false (not (x.number == r.number)))
    ∙ none (table_rows rows t)
  where
    none : (xs : List StoredRow) → list_any (λ _. false) xs ≡ false
    none [] = refl
    none (x ∷ xs) = none xs

-- ---- foreign keys

-- A row has a key that is referenced if the key that the foreign key names keeps it under that key, in its own order of columns.
pub same_key : (fk : ForeignKey) (columns : List ℕ) (c : Constraint) (key : List Value) (x : StoredRow)
    → unique_columns c.rule ≡ Some columns → (c.table == fk.referenced) ≡ true → are_same_columns columns fk.key ≡ true → none_null key ≡ true
    → ((x.table == fk.referenced) && all_same (key_of fk.key x.values) key) ≡ (can_be_key fk.key key && is_kept_under c (in_order_of columns fk.key key) x)
same_key fk columns c key x e table same given =
    same_test ((x.table == fk.referenced) && all_same (key_of fk.key x.values) key) (can_be_key fk.key key && is_kept_under c (in_order_of columns fk.key key) x)
    (λ h. forward (and_first (x.table == fk.referenced) (all_same (key_of fk.key x.values) key) h)
    (all_same_is (key_of fk.key x.values) key (and_second (x.table == fk.referenced) (all_same (key_of fk.key x.values) key) h)))
    (λ h. backward (and_first (can_be_key fk.key key) (is_kept_under c other x) h) (and_second (can_be_key fk.key key) (is_kept_under c other x) h))
  where
    some : all_among columns fk.key ≡ true
    some = and_first (all_among columns fk.key) (all_among fk.key columns) same

    more : all_among fk.key columns ≡ true
    more = and_second (all_among columns fk.key) (all_among fk.key columns) same

    other : List Value
    other = in_order_of columns fk.key key

    referenced : c.table ≡ fk.referenced
    referenced = eqb-true c.table fk.referenced table

    -- no null in the other order
    non_null : can_be_key fk.key key ≡ true → none_null other ≡ true
    non_null f = none_null_among (value_in fk.key key) fk.key columns some (ap none_null (all_same_is (in_order_of fk.key fk.key key) key f) ∙ given)

    forward : (x.table == fk.referenced) ≡ true → key_of fk.key x.values ≡ key → (can_be_key fk.key key && is_kept_under c other x) ≡ true
    forward t is = (λ i. can i && is_kept_under c other x) ∙ (λ i. (x.table == referenced i) && held i) ∙ ap (λ b. b && true) t
      where
        can : can_be_key fk.key key ≡ true
        can = ap (λ k. all_same (in_order_of fk.key fk.key k) k) (sym is)
            ∙ ap (λ k. all_same k (key_of fk.key x.values)) (in_order_map (value_at x.values) fk.key fk.key (all_among_itself fk.key))
            ∙ all_same_itself (key_of fk.key x.values)

        ordered : key_of columns x.values ≡ other
        ordered = sym (in_order_map (value_at x.values) fk.key columns some) ∙ ap (in_order_of columns fk.key) is

        held : elim (kept_key c.rule x.values) [ Some k ↦ all_same k other | None ↦ false ] ≡ true
        held = kept_is_held c.rule columns other x.values e (non_null can)
            ∙ (λ i. none_null (ordered i) && all_same (ordered i) other) ∙ (λ i. non_null can i && all_same_itself other i)

    backward : can_be_key fk.key key ≡ true → is_kept_under c other x ≡ true → ((x.table == fk.referenced) && all_same (key_of fk.key x.values) key) ≡ true
    backward can h = (λ i. (x.table == sym referenced i) && all_same (is i) key) ∙ (λ i. t i && all_same_itself key i)
      where
        t : (x.table == c.table) ≡ true
        t = and_first (x.table == c.table) (elim (kept_key c.rule x.values) [ Some k ↦ all_same k other | None ↦ false ]) h

        holds : holds_key columns other x.values ≡ true
        holds = sym (kept_is_held c.rule columns other x.values e (non_null can)) ∙ and_second (x.table == c.table) (elim (kept_key c.rule x.values) [ Some k ↦ all_same k other | None ↦ false ]) h

        ordered : key_of columns x.values ≡ other
        ordered = all_same_is (key_of columns x.values) other (and_second (none_null (key_of columns x.values)) (all_same (key_of columns x.values) other) holds)

        is : key_of fk.key x.values ≡ key
        is = sym (in_order_map (value_at x.values) columns fk.key more) ∙ ap (in_order_of fk.key columns) ordered
            ∙ in_order_map (value_in fk.key key) columns fk.key more ∙ all_same_is (in_order_of fk.key fk.key key) key can

abbrev pub names_columns : ForeignKey → Option (List ℕ) → Bool
names_columns fk o = elim o [ Some columns ↦ are_same_columns columns fk.key | None ↦ false ]

-- Whether a key is referenced, by the rows and by the groups that show them.
pub referenced_is : (rows : List StoredRow) (constraints : List Constraint) (groups : Groups) (fk : ForeignKey) (key : List Value)
    → Named constraints fk → Show rows constraints groups → none_null key ≡ true
    → is_referenced constraints groups fk key ≡ has_referenced rows fk key
referenced_is rows constraints groups fk key named show given =
    ap (λ o. elim o [
      | Some k ↦ can_be_key fk.key key && not (is_empty (rows_under groups k.id (in_order_of k.columns fk.key key)))
      | None ↦ false
    ]) named.found
    ∙ ap (λ numbers. can_be_key fk.key key && not (is_empty numbers)) (show named.key.id named.constraint other named.at)
    ∙ ap (λ b. can_be_key fk.key key && b) (sym (any_is_some (is_kept_under named.constraint other) rows))
    ∙ inside (can_be_key fk.key key) (is_kept_under named.constraint other) rows
    ∙ sym (any_filter (λ x. all_same (key_of fk.key x.values) key) (λ x. x.table == fk.referenced) rows
    ∙ any_same (λ x. (x.table == fk.referenced) && all_same (key_of fk.key x.values) key) (λ x. can_be_key fk.key key && is_kept_under named.constraint other x) rows
    (λ x. same_key fk named.key.columns named.constraint key x named.columns
    (and_first (named.constraint.table == fk.referenced) (names_columns fk (unique_columns named.constraint.rule)) named.named)
    (ap (names_columns fk) (sym named.columns) ∙ and_second (named.constraint.table == fk.referenced) (names_columns fk (unique_columns named.constraint.rule)) named.named) given))
  where
    other : List Value
    other = in_order_of named.key.columns fk.key key

    inside : (b : Bool) (p : StoredRow → Bool) (xs : List StoredRow) → (b && list_any p xs) ≡ list_any (λ x. b && p x) xs
    inside true p xs = refl
    inside false p [] = refl
    inside false p (x ∷ xs) = inside false p xs

-- ---- each rule

not_not : (b : Bool) → not (not b) ≡ b
not_not true = refl
not_not false = refl

free_or : (m : MatchType) (rows : List StoredRow) (fk : ForeignKey) (key : List Value) → matches m rows fk key ≡ (is_free m key || (none_null key && has_referenced rows fk key))
free_or Simple rows fk key = elim (none_null key) as (λ b. (not b || has_referenced rows fk key) ≡ (not b || (b && has_referenced rows fk key))) [ true ↦ refl | false ↦ refl ]
free_or Full rows fk key = refl

-- what the rows that are kept with a row say of it
abbrev by_kept : List Constraint → Groups → ℕ → Rule → Option (List Value) → Bool
by_kept constraints groups id k None = false
by_kept constraints groups id k (Some key) = violate constraints groups k key (rows_under groups id key)

row_violates : (rows : List StoredRow) (constraints : List Constraint) (groups : Groups) (id : ℕ) (c : Constraint) (r : StoredRow)
    → InOrder rows → AllNamed constraints → Show rows constraints groups → slice_get constraints id ≡ Some c
    → row_at rows r.number ≡ Some r → (r.table == c.table) ≡ true
    → (k : Rule) → c.rule ≡ k → not (obeys rows c.table k r) ≡ by_kept constraints groups id k (kept_key k r.values)
row_violates rows constraints groups id c r h all show at here table = by_rule
  where
    -- the row is among those under its key
    there : (k : Rule) → c.rule ≡ k → (key : List Value) → kept_key k r.values ≡ Some key → has r.number (rows_under groups id key) ≡ true
    there k is key e =
        ap (has r.number) (show id c key at) ∙ has_filtered (is_kept_under c key) rows r.number h ∙ ap (passes (is_kept_under c key)) here
        ∙ (λ i. table i && elim (kept_key (is i) r.values) [ Some k ↦ all_same k key | None ↦ false ])
        ∙ ap (λ o. elim o [ Some k ↦ all_same k key | None ↦ false ]) e ∙ all_same_itself key

    alone_violates : (k : Rule) → c.rule ≡ k → keeps_nulls k ≡ false → kept_key k r.values ≡ Some null_key
        → violate constraints groups k null_key (rows_under groups id null_key) ≡ true
    alone_violates k is keeps e =
        (λ i. not (not_empty r.number (rows_under groups id null_key) (there k is null_key e) i)
        && ((not (keeps i) && not (none_null null_key)) || break_rule constraints groups k null_key (rows_under groups id null_key)))

    -- a key under which no row violates by itself violates by its rule
    by_key : (k : Rule) → c.rule ≡ k → (key : List Value) → kept_key k r.values ≡ Some key → violates_alone k key ≡ false
        → violate constraints groups k key (rows_under groups id key) ≡ break_rule constraints groups k key (rows_under groups id key)
    by_key k is key e given =
        (λ i. not (not_empty r.number (rows_under groups id key) (there k is key e) i) && (given i || break_rule constraints groups k key (rows_under groups id key)))

    by_unique : (k : Rule) (nulls : NullTreatment) (columns : List ℕ) → c.rule ≡ k
        → ((values : List Value) → elim (kept_key k values) [ Some x ↦ all_same x (key_of columns r.values) | None ↦ false ] ≡ holds_key_with nulls columns (key_of columns r.values) values)
        → kept_key k r.values ≡ Some (key_of columns r.values)
        → list_any (shares_key nulls columns r) (table_rows rows c.table) ≡ nat_lt 1 (length (rows_under groups id (key_of columns r.values)))
    by_unique k nulls columns is held f =
        shared rows c nulls columns (rows_under groups id (key_of columns r.values)) r
        (λ values. ap (λ q. elim (kept_key q values) [ Some x ↦ all_same x (key_of columns r.values) | None ↦ false ]) is ∙ held values)
        (show id c (key_of columns r.values) at)
        (subst Rise (sym (show id c (key_of columns r.values) at)) (filtered_rise (is_kept_under c (key_of columns r.values)) rows h))
        (there k is (key_of columns r.values) f)

    by_null : (k : Rule) → c.rule ≡ k → keeps_nulls k ≡ false → (b : Bool) → kept_key k r.values ≡ null_key_where b
        → b ≡ by_kept constraints groups id k (null_key_where b)
    by_null k is keeps true e = sym (alone_violates k is keeps e)
    by_null k is keeps false e = refl

    by_rule : (k : Rule) → c.rule ≡ k → not (obeys rows c.table k r) ≡ by_kept constraints groups id k (kept_key k r.values)
    by_rule (rule.NotNull column) is = not_not (is_null (value_at r.values column)) ∙ by_null (rule.NotNull column) is refl (is_null (value_at r.values column)) refl
    by_rule (rule.Check condition) is =
        not_not (is_false (check_truth condition r.values)) ∙ by_null (rule.Check condition) is refl (is_false (check_truth condition r.values)) refl
    by_rule (rule.Unique Distinct columns) is = not_not (list_any (shares_key Distinct columns r) (table_rows rows c.table)) ∙ by_nulls (none_null (key_of columns r.values)) refl
      where
        by_nulls : (b : Bool) → none_null (key_of columns r.values) ≡ b
            → list_any (shares_key Distinct columns r) (table_rows rows c.table) ≡ by_kept constraints groups id (rule.Unique Distinct columns) (if b then Some (key_of columns r.values) else None)
        by_nulls true e =
            let k : kept_key (rule.Unique Distinct columns) r.values ≡ Some (key_of columns r.values) = ap (λ b. if b then Some (key_of columns r.values) else None) e in
            by_unique (rule.Unique Distinct columns) Distinct columns is (λ values. kept_is_held (rule.Unique Distinct columns) columns (key_of columns r.values) values refl e) k
            ∙ sym (by_key (rule.Unique Distinct columns) is (key_of columns r.values) k (ap not e))
        by_nulls false e = not_shared rows c.table columns r e
    by_rule (rule.Unique NotDistinct columns) is =
        not_not (list_any (shares_key NotDistinct columns r) (table_rows rows c.table))
        ∙ by_unique (rule.Unique NotDistinct columns) NotDistinct columns is (λ values. refl) refl
        ∙ sym (by_key (rule.Unique NotDistinct columns) is (key_of columns r.values) refl refl)
    by_rule (rule.PrimaryKey columns) is = by_nulls (none_null (key_of columns r.values)) refl
      where
        by_nulls : (b : Bool) → none_null (key_of columns r.values) ≡ b
            → not (none_null (key_of columns r.values) && is_unique rows c.table Distinct columns r)
            ≡ by_kept constraints groups id (rule.PrimaryKey columns) (if b then Some (key_of columns r.values) else Some null_key)
        by_nulls true e =
            let k : kept_key (rule.PrimaryKey columns) r.values ≡ Some (key_of columns r.values) = ap (λ b. if b then Some (key_of columns r.values) else Some null_key) e in
            ap (λ b. not (b && is_unique rows c.table Distinct columns r)) e ∙ not_not (list_any (shares_key Distinct columns r) (table_rows rows c.table))
            ∙ by_unique (rule.PrimaryKey columns) Distinct columns is (λ values. kept_is_held (rule.PrimaryKey columns) columns (key_of columns r.values) values refl e) k
            ∙ sym (by_key (rule.PrimaryKey columns) is (key_of columns r.values) k (ap not e))
        by_nulls false e =
            ap (λ b. not (b && is_unique rows c.table Distinct columns r)) e
            ∙ sym (alone_violates (rule.PrimaryKey columns) is refl (ap (λ b. if b then Some (key_of columns r.values) else Some null_key) e))
    by_rule (rule.ForeignKey fk) is = ap not (free_or fk.matching rows fk key) ∙ by_nulls (none_null key) refl
      where
        key : List Value
        key = key_of fk.columns r.values

        by_free : (f : Bool) → is_free fk.matching key ≡ f → none_null key ≡ false
            → not (is_free fk.matching key || (none_null key && has_referenced rows fk key)) ≡ by_kept constraints groups id (rule.ForeignKey fk) (null_key_where (not f))
        by_free true g e = ap (λ f. not (f || (none_null key && has_referenced rows fk key))) g
        by_free false g e =
            (λ i. not (g i || (e i && has_referenced rows fk key)))
            ∙ sym (alone_violates (rule.ForeignKey fk) is refl ((λ i. if e i then Some key else null_key_where (not (g i)))))

        by_nulls : (b : Bool) → none_null key ≡ b
            → not (is_free fk.matching key || (none_null key && has_referenced rows fk key))
            ≡ by_kept constraints groups id (rule.ForeignKey fk) (if b then Some key else null_key_where (not (is_free fk.matching key)))
        by_nulls true e =
            (λ i. not (is_free fk.matching key || (e i && has_referenced rows fk key)))
            ∙ ap (λ b. not (is_free fk.matching key || b)) (sym (referenced_is rows constraints groups fk key (named_of constraints id c fk all at is) show e))
            ∙ sym (by_key (rule.ForeignKey fk) is key (ap (λ b. if b then Some key else null_key_where (not (is_free fk.matching key))) e) (ap not e))
        by_nulls false e = by_free (is_free fk.matching key) refl e

pub violates_is : (rows : List StoredRow) (constraints : List Constraint) (groups : Groups) (id : ℕ) (c : Constraint) (n : ℕ)
    → InOrder rows → AllNamed constraints → Show rows constraints groups → slice_get constraints id ≡ Some c
    → passes (violates rows c) (row_at rows n) ≡ violate_at constraints groups id c (key_at rows c n)
violates_is rows constraints groups id c n h all show at = by_row (row_at rows n) refl
  where
    said : (o : Option (List Value)) → by_kept constraints groups id c.rule o ≡ violate_at constraints groups id c o
    said None = refl
    said (Some key) = refl

    by_row : (o : Option StoredRow) → row_at rows n ≡ o
        → passes (violates rows c) o ≡ violate_at constraints groups id c (elim o [ Some r ↦ if r.table == c.table then kept_key c.rule r.values else None | None ↦ None ])
    by_row None e = refl
    by_row (Some r) e =
        elim (r.table == c.table) as (λ b. (r.table == c.table) ≡ b → (b && not (satisfies rows c r)) ≡ violate_at constraints groups id c (if b then kept_key c.rule r.values else None)) [
          | true ↦ λ t.
              row_violates rows constraints groups id c r h all show at (ap (row_at rows) (number_of_row_at rows n r e) ∙ e) t c.rule refl
              ∙ said (kept_key c.rule r.values)
          | false ↦ λ t. refl
        ] refl
