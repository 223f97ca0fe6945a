-- Which keys are referenced, before and after a change.
use Rattle.std.proofs.Common.{◌≡◌, refl, ℕ, suc, Bool, true, false, ◌&&◌, ◌||◌, not, if◌then◌else◌, List, [], ◌∷◌, length, map, Option, Some, None, sym, ap, ◌∙◌, arith}
use Rattle.std.specs.Bool.{◌==◌, nat_lt}
use Rattle.std.proofs.lemmas.Bool.{eqb-true, eq-eqb}
use Rattle.std.proofs.lemmas.List.{length-map}
use Rattle.iv_store_following.specs.Types.{Value, Rule, Change, Constraint, ForeignKey}
use Rattle.iv_store_following.specs.Types.rule
use Rattle.iv_store_following.specs.Types.nulls.{Distinct, NotDistinct}
use Rattle.iv_value.specs.Values.{all_same}
use Rattle.iv_key.specs.Keys.{key_of, value_at, none_null}
use Rattle.iv_store.specs.Stores.{unique_columns, are_same_columns, all_among}
use Rattle.iv_laws_levels.proofs.Keys.{false_true, and_first, and_second, all_same_is, all_same_itself, same_test}
use Rattle.iv_laws_levels.proofs.RowNumbers.{some_none, some_same}
use Rattle.iv_laws_kept.specs.Numbers.{with_number}
use Rattle.iv_laws_kept.specs.Kept.{null_key, key_or, kept_key, value_in, Groups, rows_under, in_order_of, can_be_key, is_empty, is_referenced}
use Rattle.iv_laws_kept.specs.Moves.{side_under, left, moved, Follow}
use Rattle.iv_laws_kept.specs.GroupFlags.{referenced_side}
use Rattle.iv_laws_kept.proofs.Columns.{among, in_order_map, none_null_among, all_among_itself}
use Rattle.iv_laws_kept.proofs.Naming.{Named}
use Rattle.iv_laws_kept.proofs.RowByRow.{kept_is_held, names_columns}
use Rattle.iv_laws_kept.proofs.OtherKeys.{still_referenced}
use Rattle.iv_store_following.specs.BorrowedChange.{referenced_key, side_key}
use Rattle.iv_store_following.specs.References.{paired, paired_with}

-- ---- the key of a row

-- a rule with unique columns keeps a row without nulls in them under its key
kept_unique : (r : Rule) (columns : List ℕ) (values : List Value) → unique_columns r ≡ Some columns → none_null (key_of columns values) ≡ true → kept_key r values ≡ Some (key_of columns values)
kept_unique (rule.NotNull column) columns values e h = absurd (some_none columns (sym e))
kept_unique (rule.Check condition) columns values e h = absurd (some_none columns (sym e))
kept_unique (rule.Unique Distinct own) columns values e h = ap (λ cs. key_or (key_of cs values) None) (some_same own columns e) ∙ ap (λ b. if b then Some (key_of columns values) else None) h
kept_unique (rule.Unique NotDistinct own) columns values e h = ap (λ cs. Some (key_of cs values)) (some_same own columns e)
kept_unique (rule.PrimaryKey own) columns values e h = ap (λ cs. key_or (key_of cs values) (Some null_key)) (some_same own columns e) ∙ ap (λ b. if b then Some (key_of columns values) else Some null_key) h
kept_unique (rule.ForeignKey fk) columns values e h = absurd (some_none columns (sym e))

module _ (constraints : List Constraint) (fk : ForeignKey) (named : Named constraints fk) where
  same_columns : are_same_columns named.key.columns fk.key ≡ true
  same_columns = ap (names_columns fk) (sym named.columns) ∙ and_second (named.constraint.table == fk.referenced) (names_columns fk (unique_columns named.constraint.rule)) named.named

  some_columns : all_among named.key.columns fk.key ≡ true
  some_columns = and_first (all_among named.key.columns fk.key) (all_among fk.key named.key.columns) same_columns

  -- a row's key is referenced if rows are kept under it, in the order of the named key
  pub row_is_referenced : (groups : Groups) (values : List Value) → is_referenced constraints groups fk (key_of fk.key values) ≡ not (is_empty (rows_under groups named.key.id (key_of named.key.columns values)))
  row_is_referenced groups values =
      ap (λ o. elim o [
        | Some k ↦ can_be_key fk.key (key_of fk.key values) && not (is_empty (rows_under groups k.id (in_order_of k.columns fk.key (key_of fk.key values))))
        | None ↦ false
      ]) named.found
      ∙ (λ i. can i && not (is_empty (rows_under groups named.key.id (in_order_map (value_at values) fk.key named.key.columns some_columns i))))
    where
      can : can_be_key fk.key (key_of fk.key values) ≡ true
      can = ap (λ k. all_same k (key_of fk.key values)) (in_order_map (value_at values) fk.key fk.key (all_among_itself fk.key)) ∙ all_same_itself (key_of fk.key values)

  -- a row of the referenced table is kept under its key
  pub named_side : (table : ℕ) (values : List Value) → (table == fk.referenced) ≡ true → none_null (key_of fk.key values) ≡ true
      → side_key named.constraint table (Some values) ≡ Some (key_of named.key.columns values)
  named_side table values is given =
      ap (λ b. if b then kept_key named.constraint.rule values else None)
      (ap (λ t. table == t) (eqb-true named.constraint.table fk.referenced (and_first (named.constraint.table == fk.referenced) (names_columns fk (unique_columns named.constraint.rule)) named.named)) ∙ is)
      ∙ kept_unique named.constraint.rule named.key.columns values named.columns (none_null_among (value_at values) fk.key named.key.columns some_columns given)

  not_empty_with : (n : ℕ) (rows : List ℕ) → not (is_empty (with_number n rows)) ≡ true
  not_empty_with n [] = refl
  not_empty_with n (m ∷ rows) = elim (nat_lt n m) as (λ b. not (is_empty (if b then n ∷ m ∷ rows else (if m == n then m ∷ rows else m ∷ with_number n rows))) ≡ true) [
    | true ↦ refl
    | false ↦ elim (m == n) as (λ b. not (is_empty (if b then m ∷ rows else m ∷ with_number n rows)) ≡ true) [ true ↦ refl | false ↦ refl ]
  ]

  -- the new side of a change is there after it
  pub new_is_referenced : (change : Change) (groups after : Groups) (values : List Value) → Follow constraints change groups after → change.new ≡ Some values
      → (change.table == fk.referenced) ≡ true → none_null (key_of fk.key values) ≡ true → is_referenced constraints after fk (key_of fk.key values) ≡ true
  new_is_referenced change groups after values follow new table given =
      row_is_referenced after values
      ∙ ap (λ rows. not (is_empty rows)) (follow named.key.id named.constraint key named.at
      ∙ ap (λ b. moved (side_under named.constraint key change change.old) b change.row rows) (ap (side_under named.constraint key change) new ∙ is))
      ∙ not_empty_with change.row (left (side_under named.constraint key change change.old) change.row rows)
    where
      key : List Value
      key = key_of named.key.columns values

      rows : List ℕ
      rows = rows_under groups named.key.id key

      given_there : none_null key ≡ true
      given_there = none_null_among (value_at values) fk.key named.key.columns some_columns given

      here : (change.table == named.constraint.table) ≡ true
      here = ap (λ t. change.table == t) (eqb-true named.constraint.table fk.referenced (and_first (named.constraint.table == fk.referenced) (names_columns fk (unique_columns named.constraint.rule)) named.named)) ∙ table

      is : side_under named.constraint key change (Some values) ≡ true
      is = (λ i. here i && kept_is_held named.constraint.rule named.key.columns key values named.columns given_there i) ∙ (λ i. given_there i && all_same_itself key i)

-- ---- from one side to the other

-- what is referenced after the old side of a change is taken note of
abbrev pub half_way : (List Value → Bool) → (List Value → Bool) → ForeignKey → Change → List Value → Bool
half_way before after fk change other = if referenced_side fk other change change.old then after other else before other

pub half_way_is : (before after : List Value → Bool) (fk : ForeignKey) (change : Change) (other : List Value) → referenced_side fk other change change.old ≡ false → half_way before after fk change other ≡ before other
half_way_is before after fk change other e = ap (λ b. if b then after other else before other) e

-- the parts of a referenced key
pub key_parts : (fk : ForeignKey) (table : ℕ) (side : Option (List Value)) (key : List Value) → referenced_key fk table side ≡ Some key
    → (values : List Value) × (side ≡ Some values) × ((table == fk.referenced) ≡ true) × (none_null (key_of fk.key values) ≡ true) × (key ≡ key_of fk.key values)
key_parts fk table None key e = absurd (some_none key (sym e))
key_parts fk table (Some values) key e =
    elim ((table == fk.referenced) && none_null (key_of fk.key values)) as (λ b. ((table == fk.referenced) && none_null (key_of fk.key values)) ≡ b → (if b then Some (key_of fk.key values) else None) ≡ Some key
    → (other : List Value) × (Some values ≡ Some other) × ((table == fk.referenced) ≡ true) × (none_null (key_of fk.key other) ≡ true) × (key ≡ key_of fk.key other)) [
      | true ↦ λ f h. (values, refl, and_first (table == fk.referenced) (none_null (key_of fk.key values)) f, and_second (table == fk.referenced) (none_null (key_of fk.key values)) f, sym (some_same (key_of fk.key values) key h))
      | false ↦ λ f h. absurd (some_none key (sym h))
    ] refl e

-- the key of the old side is referenced half way as it is after
pub half_way_at : (before after : List Value → Bool) (fk : ForeignKey) (change : Change) (key : List Value) → referenced_key fk change.table change.old ≡ Some key → half_way before after fk change key ≡ after key
half_way_at before after fk change key e =
    let parts = key_parts fk change.table change.old key e in
    ap (λ b. if b then after key else before key) (ap (referenced_side fk key change) parts.1 ∙ (λ i. parts.2 i && all_same (key_of fk.key parts.0) key) ∙ ap (all_same (key_of fk.key parts.0)) parts.4 ∙ all_same_itself (key_of fk.key parts.0))

pub from_half_way : (constraints : List Constraint) (change : Change) (groups after : Groups) (fk : ForeignKey) (other : List Value) → Named constraints fk → Follow constraints change groups after
    → none_null other ≡ true → referenced_side fk other change change.new ≡ false
    → is_referenced constraints after fk other ≡ half_way (is_referenced constraints groups fk) (is_referenced constraints after fk) fk change other
from_half_way constraints change groups after fk other named follow given new =
    elim (referenced_side fk other change change.old) as (λ b. referenced_side fk other change change.old ≡ b
    → is_referenced constraints after fk other ≡ (if b then is_referenced constraints after fk other else is_referenced constraints groups fk other)) [
      | true ↦ λ _. refl
      | false ↦ λ old. still_referenced constraints change groups after fk other named follow given old new
    ] refl

-- ---- the key of a referencing row

value_paired : (f : ℕ → Value) (key columns : List ℕ) (c : ℕ) → length key ≡ length columns → among c key ≡ true → value_in key (map f columns) c ≡ f (paired key columns c)
value_paired f [] columns c l e = absurd (false_true e)
value_paired f (k ∷ key) [] c l e = absurd (no l)
  where
    no : suc (length key) ≡ 0 → ⊥
    no h = omega (arith, h)
value_paired f (k ∷ key) (d ∷ columns) c l e =
    elim (k == c) as (λ b. (k == c) ≡ b → (if b then f d else value_in key (map f columns) c) ≡ f (if b then d else paired key columns c)) [
      | true ↦ λ _. refl
      | false ↦ λ g. value_paired f key columns c (omega (arith, l)) (later g (c == k) refl e)
    ] refl
  where
    later : (k == c) ≡ false → (b : Bool) → (c == k) ≡ b → (b || among c key) ≡ true → among c key ≡ true
    later g true h i = absurd (false_true (sym g ∙ eq-eqb k c (sym (eqb-true c k h))))
    later g false h i = i

in_order_paired : (fk : ForeignKey) (others : List ℕ) (row : List Value) → length fk.key ≡ length fk.columns → all_among others fk.key ≡ true
    → in_order_of others fk.key (key_of fk.columns row) ≡ key_of (paired_with fk others) row
in_order_paired fk [] row l e = refl
in_order_paired fk (c ∷ others) row l e =
    let one = value_paired (value_at row) fk.key fk.columns c l (and_first (among c fk.key) (all_among others fk.key) e) in
    let rest = in_order_paired fk others row l (and_second (among c fk.key) (all_among others fk.key) e) in
    λ i. one i ∷ rest i

said : (constraints : List Constraint) (fk : ForeignKey) (named : Named constraints fk) (groups : Groups) (key : List Value)
    → is_referenced constraints groups fk key ≡ (can_be_key fk.key key && not (is_empty (rows_under groups named.key.id (in_order_of named.key.columns fk.key key))))
said constraints fk named groups key = ap (λ o. elim o [
  | Some k ↦ can_be_key fk.key key && not (is_empty (rows_under groups k.id (in_order_of k.columns fk.key key)))
  | None ↦ false
]) named.found

-- if the lists of columns have one length
pub told_paired : (constraints : List Constraint) (fk : ForeignKey) (named : Named constraints fk) (groups : Groups) (row : List Value) → length fk.columns ≡ length fk.key
    → is_referenced constraints groups fk (key_of fk.columns row)
    ≡ (all_same (key_of (paired_with fk fk.key) row) (key_of fk.columns row) && not (is_empty (rows_under groups named.key.id (key_of (paired_with fk named.key.columns) row))))
told_paired constraints fk named groups row l =
    said constraints fk named groups (key_of fk.columns row)
    ∙ (λ i. all_same (in_order_paired fk fk.key row (sym l) (all_among_itself fk.key) i) (key_of fk.columns row)
    && not (is_empty (rows_under groups named.key.id (in_order_paired fk named.key.columns row (sym l) (some_columns constraints fk named) i))))

-- if they don't, no key is referenced
pub told_apart : (constraints : List Constraint) (fk : ForeignKey) (named : Named constraints fk) (groups : Groups) (row : List Value) → (length fk.columns ≡ length fk.key → ⊥)
    → is_referenced constraints groups fk (key_of fk.columns row) ≡ false
told_apart constraints fk named groups row l =
    said constraints fk named groups (key_of fk.columns row)
    ∙ ap (λ b. b && not (is_empty (rows_under groups named.key.id (in_order_of named.key.columns fk.key (key_of fk.columns row)))))
    (same_test (can_be_key fk.key (key_of fk.columns row)) false
    (λ e. absurd (l (sym (length-map fk.columns (value_at row)) ∙ sym (ap length (all_same_is (in_order_of fk.key fk.key (key_of fk.columns row)) (key_of fk.columns row) e)) ∙ length-map fk.key (value_in fk.key (key_of fk.columns row)))))
    (λ e. absurd (false_true e)))
