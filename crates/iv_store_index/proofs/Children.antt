-- The rows that hold a key by a foreign key, as its groups show them.
use Rattle.std.proofs.Common.{◌≡◌, refl, ℕ, ◌≤◌, Bool, true, false, ◌&&◌, not, if◌then◌else◌, List, [], ◌∷◌, filter, Option, Some, None, Result, Ok, Err, IfOk, arith, sym, ap, subst, ◌∙◌}
use Rattle.std.specs.Bool.{◌==◌}
use Rattle.iv_store_index.specs.Types.{Value, StoredRow, Constraint}
use Rattle.iv_catalogue.specs.declared.constraint.ForeignKey.{ForeignKey}
use Rattle.iv_catalogue.specs.declared.constraint.Rule.TheVariants as rule
use Rattle.iv_value.specs.Values.{all_same}
use Rattle.iv_expr.specs.Scopes.{Rises}
use Rattle.iv_store_groups.specs.Groups.{GroupOf, groups_of, rows_of}
use Rattle.iv_key.specs.Keys.{holds_key, key_of, none_null}
use Rattle.iv_laws_levels.proofs.Keys.{all_same_is, and_first, and_second, false_true, same_test}
use Rattle.iv_machine.specs.ReferentialActions.{Reference, foreign_key, reference}
use Rattle.iv_store_violating.specs.Shown.{shown}
use Rattle.iv_store_violating.proofs.Shown.{rows_under_shown}
use Rattle.iv_laws_kept.specs.Kept.{is_free, is_kept_under, kept_key, null_key, null_key_where, rows_under}
use Rattle.iv_store.specs.Stores.{RisingNumbers, numbers_by, numbers_of}

-- ---- tests of rows

pub both_filters : (p q : StoredRow → Bool) (rows : List StoredRow) → filter q (filter p rows) ≡ filter (λ r. p r && q r) rows
both_filters p q [] = refl
both_filters p q (r ∷ rows) = by (p r) (both_filters p q rows)
  where
    by : (a : Bool) → filter q (filter p rows) ≡ filter (λ x. p x && q x) rows
        → filter q (if a then r ∷ filter p rows else filter p rows) ≡ (if a && q r then r ∷ filter (λ x. p x && q x) rows else filter (λ x. p x && q x) rows)
    by true e = ap (λ l. if q r then r ∷ l else l) e
    by false e = e

same_filter : (p q : StoredRow → Bool) (rows : List StoredRow) → ((r : StoredRow) → p r ≡ q r) → filter p rows ≡ filter q rows
same_filter p q [] h = refl
same_filter p q (r ∷ rows) h = λ i. if h r i then r ∷ same_filter p q rows h i else same_filter p q rows h i

none_pass : (p : StoredRow → Bool) (rows : List StoredRow) → ((r : StoredRow) → p r ≡ false) → ◌≡◌ {A = List StoredRow} (filter p rows) []
none_pass p [] h = refl
none_pass p (r ∷ rows) h = ap (λ b. if b then r ∷ filter p rows else filter p rows) (h r) ∙ none_pass p rows h

-- a key with a null is held by no row
null_not_held : (columns : List ℕ) (key values : List Value) → none_null key ≡ false → holds_key columns key values ≡ false
null_not_held columns key values e =
    same_test (holds_key columns key values) false (λ h.
    sym e ∙ ap none_null (sym (all_same_is (key_of columns values) key (and_second (none_null (key_of columns values)) (all_same (key_of columns values) key) h)))
    ∙ and_first (none_null (key_of columns values)) (all_same (key_of columns values) key) h) (λ h. absurd (false_true h))

-- a foreign key keeps a row under a key without nulls if the row holds it
kept_is_held : (fk : ForeignKey) (key values : List Value) → none_null key ≡ true
    → elim (kept_key (rule.ForeignKey fk) values) [ Some k ↦ all_same k key | None ↦ false ] ≡ holds_key fk.columns key values
kept_is_held fk key values given = by (none_null (key_of fk.columns values))
  where
    alone : all_same null_key key ≡ false
    alone = same_test (all_same null_key key) false (λ f. ap none_null (all_same_is null_key key f) ∙ given) (λ f. absurd (false_true f))

    by_null : (b : Bool) → elim (null_key_where b) [ Some k ↦ all_same k key | None ↦ false ] ≡ false
    by_null true = alone
    by_null false = refl

    by : (b : Bool) → elim (if b then Some (key_of fk.columns values) else null_key_where (not (is_free fk.matching (key_of fk.columns values)))) [ Some k ↦ all_same k key | None ↦ false ]
        ≡ (b && all_same (key_of fk.columns values) key)
    by true = refl
    by false = by_null (not (is_free fk.matching (key_of fk.columns values)))

-- ---- the numbers

pub children_are : (rows : List StoredRow) (key : List Value) (id : ℕ) (c : Constraint) (fk : ForeignKey) (groups : List (List GroupOf)) → c.rule ≡ rule.ForeignKey fk
    → ((k : List Value) → rows_under (shown groups) id k ≡ numbers_of (filter (is_kept_under c k) rows))
    → (if none_null key then rows_of (groups_of groups id) key else []) ≡ numbers_by rows key (reference (id, c))
children_are rows key id c fk groups e show =
    by (none_null key) refl
    ∙ sym (ap (λ r. numbers_by rows key (elim (foreign_key r) [ Some k ↦ Some (record { id = id; table = c.table; key = k }) | None ↦ None ])) e)
  where
    own : Reference
    own = record { id = id; table = c.table; key = fk }

    by : (b : Bool) → none_null key ≡ b → (if b then rows_of (groups_of groups id) key else []) ≡ numbers_by rows key (Some own)
    by true given =
        sym (rows_under_shown groups id key) ∙ show key
        ∙ ap numbers_of (same_filter (is_kept_under c key) (λ r. (r.table == c.table) && holds_key fk.columns key r.values) rows
        (λ r. ap (λ b. (r.table == c.table) && b) (ap (λ k. elim (kept_key k r.values) [ Some k ↦ all_same k key | None ↦ false ]) e ∙ kept_is_held fk key r.values given)))
        ∙ sym (ap numbers_of (both_filters (λ r. r.table == c.table) (λ r. holds_key fk.columns key r.values) rows))
    by false given =
        sym (ap numbers_of (none_pass (λ r. holds_key fk.columns key r.values) (filter (λ r. r.table == c.table) rows) (λ r. null_not_held fk.columns key r.values given)))

-- ---- rising numbers

lower : (low up : ℕ) (numbers : List ℕ) → low ≤ up → RisingNumbers up numbers → RisingNumbers low numbers
lower low up [] le h = tt
lower low up (n ∷ numbers) le h = (omega (arith, le, h.0), h.1)

part_rises : (low : ℕ) (p : StoredRow → Bool) (rows : List StoredRow) → Rises low rows → RisingNumbers low (numbers_of (filter p rows))
part_rises low p [] h = tt
part_rises low p (r ∷ rows) h = by (p r) (part_rises r.number p rows h.2)
  where
    by : (b : Bool) → RisingNumbers r.number (numbers_of (filter p rows)) → RisingNumbers low (numbers_of (if b then r ∷ filter p rows else filter p rows))
    by true rest = (h.0, rest)
    by false rest = lower low r.number (numbers_of (filter p rows)) (omega (arith, h.0)) rest

pub children_rise : (rows : List StoredRow) (key : List Value) (o : Option Reference) → Rises 0 rows → RisingNumbers 0 (numbers_by rows key o)
children_rise rows key None h = tt
children_rise rows key (Some k) h =
    subst (λ found. RisingNumbers 0 (numbers_of found)) (sym (both_filters (λ r. r.table == k.table) (λ r. holds_key k.key.columns key r.values) rows))
    (part_rises 0 (λ r. (r.table == k.table) && holds_key k.key.columns key r.values) rows h)

pub if_ok : {A E : Type 0} (r : Result A E) (items : A → List ℕ) (rows : List StoredRow) (key : List Value) (o : Option Reference) → Rises 0 rows
    → IfOk r (λ v. items v ≡ numbers_by rows key o) → IfOk r (λ v. RisingNumbers 0 (items v))
if_ok (Ok a) items rows key o h e = subst (λ l. RisingNumbers 0 l) (sym e) (children_rise rows key o h)
if_ok (Err x) items rows key o h e = e

pub if_told : {A E : Type 0} (r : Result A E) (items : A → List ℕ) (own : List ℕ) (Q : List ℕ → Type 0) → Q own → IfOk r (λ v. items v ≡ own) → IfOk r (λ v. Q (items v))
if_told (Ok a) items own Q q e = subst Q (sym e) q
if_told (Err x) items own Q q e = e
