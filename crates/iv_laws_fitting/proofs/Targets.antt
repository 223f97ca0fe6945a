-- The columns that values are for, and that each value suits its own.
use Rattle.std.proofs.Common.{◌≡◌, ℕ, zero, suc, ◌≤◌, nat_le, true, false, not, ◌&&◌, List, [], ◌∷◌, ◌∙◌, Option, Some, None, is_some, refl, sym, ap, length, map, slice_get, option_map, unwrap_or, arith}
use Rattle.std.proofs.lemmas.Bool.{and_parts, or_parts}
use Rattle.std.specs.List.{list_all}
use Rattle.std.proofs.lemmas.Bool.Decides.{nat_tests}
use Rattle.iv_value.specs.declared.value.Value.{Value}
use Rattle.iv_value.specs.declared.value.Value.TheVariants as value
use Rattle.iv_laws_fitting.specs.Types.{Kind, Column, Table}
use Rattle.iv_laws_fitting.specs.Types.kind
use Rattle.iv_value.specs.Values.{fit_of}
use Rattle.iv_expr.specs.Suiting.{Sort, nulls, numbers, texts, Shape, sort_of_value}
use Rattle.iv_syntax.specs.declared.table.ColumnType.{ColumnType}
use Rattle.iv_syntax.specs.declared.tree.Expression.{Expression}
use Rattle.iv_syntax.specs.declared.statement.ValueOrDefault.{ValueOrDefault}
use Rattle.iv_syntax.specs.declared.statement.ValueOrDefault.TheVariants as given
use Rattle.iv_catalogue.specs.declared.limits.TheConstants.{MOST_COLUMNS}
use Rattle.iv_resolution.specs.Scopes.{NamedColumn, NamedRange, Names, number, type_of, named_column, named_columns, place_of, has_column, type_named, table_place}
use Rattle.iv_resolution.specs.Terms.{is_text, bound_expression}
use Rattle.iv_resolution.specs.Constraints.{places_of}
use Rattle.iv_catalogue.specs.Names.{has_repeated}
use Rattle.iv_resolution.specs.Changes.{is_table, stored_columns, clashes_with, value_clashes, misshaped_value, target_types}
use Rattle.iv_resolution.specs.Bound.{table_id, default_at, bound_value, target_place, bound_columns}
use Rattle.iv_resolution.specs.NameFaults.{unknown_in_listed, unknown_in_value}
use Rattle.iv_resolution.proofs.Told.{known_column}
use Rattle.iv_store.specs.Stores.{is_fit}
use Rattle.iv_laws_fitting.specs.Naming.{column_is_called, table_is_called}
use Rattle.iv_laws_fitting.proofs.Firsts.{Search, nothing, something, search, first_position, first_found, first_there, none_position}
use Rattle.iv_laws_fitting.specs.PlanShapes.{kinds_of, table_kinds, is_there, sort_suits, value_suits, default_suits, table_suits, target_kinds}
use Rattle.iv_laws_fitting.proofs.ColumnKinds.{greatest, Matches}
use Rattle.iv_laws_fitting.proofs.Expressions.{Agrees, Sorted, sorted}
use Rattle.iv_laws_fitting.proofs.Pointwise.{all_at, map_at, made_of, mapped_length}

-- ---- the table that a statement changes

pub record Target (tables : List Table) (name : List ℕ) : Type 0 where
  pub place : ℕ
  pub table : Table
  pub at : table_place tables name ≡ Some place
  pub there : slice_get tables place ≡ Some table

pub target_of : (names : Names) (name : List ℕ) → not (is_table names name) ≡ false → Target names.tables name
target_of names name h = by (search (table_is_called name) names.tables)
  where
    by : Search (table_is_called name) names.tables → Target names.tables name
    by (nothing n) = let e : true ≡ false = ap (λ (o : Option ℕ). not (is_some o)) (sym (none_position (table_is_called name) names.tables n)) ∙ h in cc
    by (something i t f) = record {
      place = i;
      table = t;
      at = first_position (table_is_called name) names.tables i t f;
      there = first_there (table_is_called name) names.tables i t f;
    }

pub target_id : (names : Names) (name : List ℕ) (t : Target names.tables name) → table_id names name ≡ t.place
unfolding table_id
target_id names name t = ap (λ (o : Option ℕ). unwrap_or o 0) t.at

pub target_stored : (tables : List Table) (name : List ℕ) (t : Target tables name) → stored_columns tables name ≡ t.table.columns
target_stored tables name t =
    ap (λ (o : Option ℕ). elim o as (λ x. List Column) [ Some place ↦ elim (slice_get tables place) as (λ x. List Column) [ Some x ↦ x.columns | None ↦ [] ] | None ↦ [] ]) t.at
    ∙ ap (λ (o : Option Table). elim o as (λ x. List Column) [ Some x ↦ x.columns | None ↦ [] ]) t.there

pub target_kinds_of : (tables : List Table) (name : List ℕ) (t : Target tables name) → table_kinds tables t.place ≡ kinds_of t.table
target_kinds_of tables name t = ap (λ (o : Option Table). elim o as (λ x. List Kind) [ Some x ↦ kinds_of x | None ↦ [] ]) t.there

pub place_is_there : (tables : List Table) (place : ℕ) (t : Table) → slice_get tables place ≡ Some t → is_there tables place ≡ true
place_is_there [] place t h = cc
place_is_there (x ∷ xs) zero t h = grind (arith, nat_tests)
place_is_there (x ∷ xs) (suc n) t h = let r = place_is_there xs n t h in grind (arith, nat_tests)

-- what a table that suits says of its columns
pub few_columns : (t : Table) → table_suits t ≡ true → length t.columns ≤ greatest
few_columns t h =
    let p = (and_parts (nat_le (length t.columns) MOST_COLUMNS) (list_all default_suits t.columns && not (has_repeated [] (map (λ (c : Column). c.name) t.columns))) h).0 in
    grind (arith, nat_tests)

pub defaults_suit : (t : Table) → table_suits t ≡ true → list_all default_suits t.columns ≡ true
defaults_suit t h =
    (and_parts (list_all default_suits t.columns) (not (has_repeated [] (map (λ (c : Column). c.name) t.columns)))
    (and_parts (nat_le (length t.columns) MOST_COLUMNS) (list_all default_suits t.columns && not (has_repeated [] (map (λ (c : Column). c.name) t.columns))) h).1).0

pub distinct_columns : (t : Table) → table_suits t ≡ true → not (has_repeated [] (map (λ (c : Column). c.name) t.columns)) ≡ true
distinct_columns t h =
    (and_parts (list_all default_suits t.columns) (not (has_repeated [] (map (λ (c : Column). c.name) t.columns)))
    (and_parts (nat_le (length t.columns) MOST_COLUMNS) (list_all default_suits t.columns && not (has_repeated [] (map (λ (c : Column). c.name) t.columns))) h).1).1

-- ---- a column of a table by its name

pub record ColumnTarget (columns : List Column) (name : List ℕ) : Type 0 where
  pub column : Column
  pub at : slice_get columns (place_of (named_columns columns) name) ≡ Some column
  pub type : type_named (named_columns columns) name ≡ Some (type_of column.kind)

below : {X : Type 0} (xs : List X) (i : ℕ) (x : X) → slice_get xs i ≡ Some x → suc i ≤ length xs
below [] i x h = cc
below (y ∷ ys) zero x h = omega arith
below (y ∷ ys) (suc n) x h = let l = below ys n x h in omega arith

small : (n : ℕ) → n ≤ greatest → number n ≡ n
small n h = omega arith

pub column_target : (columns : List Column) (name : List ℕ) → length columns ≤ greatest → not (has_column (named_columns columns) name) ≡ false → ColumnTarget columns name
column_target columns name l h = by (search (column_is_called name) (named_columns columns))
  where
    by : Search (column_is_called name) (named_columns columns) → ColumnTarget columns name
    by (nothing n) =
        let e : true ≡ false = ap (λ (o : Option ℕ). not (is_some (option_map number o))) (sym (none_position (column_is_called name) (named_columns columns) n)) ∙ h in cc
    by (something i c f) =
        let made = made_of named_column columns i c (first_there (column_is_called name) (named_columns columns) i c f) in
        let less = below columns i made.0 made.1 in
        let place : place_of (named_columns columns) name ≡ i =
        ap (λ (o : Option ℕ). unwrap_or (option_map number o) 0) (first_position (column_is_called name) (named_columns columns) i c f) ∙ small i (omega arith) in
        record {
          column = made.0;
          at = ap (slice_get columns) place ∙ made.1;
          type = ap (option_map (λ (x : NamedColumn). x.kind)) (first_found (column_is_called name) (named_columns columns) i c f)
              ∙ ap (λ (x : NamedColumn). Some x.kind) made.2;
        }

-- ---- the columns that an INSERT has values for

pub record TargetAt (columns : List Column) (listed : Option (List (List ℕ))) (j : ℕ) (o : Option Kind) : Type 0 where
  pub column : Column
  pub is : o ≡ Some column.kind
  pub type : slice_get (target_types (named_columns columns) listed) j ≡ Some (Some (type_of column.kind))
  pub at : slice_get columns (target_place (named_columns columns) listed j) ≡ Some column

abbrev column_kinds : List Column → List Kind
column_kinds columns = map (λ c. c.kind) columns

pub target_at : (columns : List Column) (listed : Option (List (List ℕ))) → length columns ≤ greatest → unknown_in_listed (named_columns columns) listed ≡ None
    → (j : ℕ) (o : Option Kind) → slice_get (target_kinds (map (λ c. c.kind) columns) (bound_columns (named_columns columns) listed)) j ≡ Some o → TargetAt columns listed j o
unfolding bound_columns target_place
target_at columns None l u j o h =
    let kind_made = made_of (λ (k : Kind). Some k) (column_kinds columns) j o h in
    let made = made_of (λ (c : Column). c.kind) columns j kind_made.0 kind_made.1 in
    record {
      column = made.0;
      is = kind_made.2 ∙ ap (λ (k : Kind). Some k) made.2;
      type = map_at (λ (c : NamedColumn). Some c.kind) (named_columns columns) j
          ∙ ap (option_map (λ (c : NamedColumn). Some c.kind)) (map_at named_column columns j ∙ ap (option_map named_column) made.1);
      at = made.1;
    }
target_at columns (Some names) l u j o h =
    let made = made_of (slice_get (column_kinds columns)) (places_of (named_columns columns) names) j o h in
    let named = made_of (place_of (named_columns columns)) names j made.0 made.1 in
    let target = column_target columns named.0 l (known_column (named_columns columns) names u j named.0 named.1) in
    record {
      column = target.column;
      is = made.2 ∙ ap (slice_get (column_kinds columns)) named.2 ∙ map_at (λ (c : Column). c.kind) columns (place_of (named_columns columns) named.0)
          ∙ ap (option_map (λ (c : Column). c.kind)) target.at;
      type = map_at (type_named (named_columns columns)) names j ∙ ap (option_map (type_named (named_columns columns))) named.1 ∙ ap (λ (t : Option ColumnType). Some t) target.type;
      at = ap (λ (n : Option (List ℕ)). slice_get columns (elim n as (λ x. ℕ) [ Some name ↦ place_of (named_columns columns) name | None ↦ 0 ])) named.1 ∙ target.at;
    }

pub targets_length : (columns : List Column) (listed : Option (List (List ℕ)))
    → length (target_types (named_columns columns) listed) ≡ length (target_kinds (map (λ c. c.kind) columns) (bound_columns (named_columns columns) listed))
unfolding bound_columns
targets_length columns None =
    mapped_length (λ (c : NamedColumn). Some c.kind) (named_columns columns) ∙ mapped_length named_column columns
    ∙ sym (mapped_length (λ (k : Kind). Some k) (column_kinds columns) ∙ mapped_length (λ (c : Column). c.kind) columns)
targets_length columns (Some names) =
    mapped_length (type_named (named_columns columns)) names
    ∙ sym (mapped_length (slice_get (column_kinds columns)) (places_of (named_columns columns) names) ∙ mapped_length (place_of (named_columns columns)) names)

-- ---- values

suited : (ranges : List NamedRange) (e : Expression) (k : Kind) (s : Sort) → Agrees ranges e s → clashes_with (Some (type_of k)) ranges e ≡ false → sort_suits k (Some s) ≡ true
unfolding clashes_with
suited ranges e k nulls a h = refl
suited ranges e kind.Integer numbers a h = refl
suited ranges e (kind.Varchar n) texts a h = refl
suited ranges e kind.Integer texts a h = let q : true ≡ false = sym a ∙ (or_parts (is_text ranges e) false h).0 in cc
suited ranges e (kind.Varchar n) numbers a h = let q : true ≡ false = sym a ∙ h in cc

pub expression_suits : (ranges : List NamedRange) (shape : Shape) (e : Expression) (k : Kind) → Sorted ranges shape e → clashes_with (Some (type_of k)) ranges e ≡ false
    → value_suits shape (Some k) (bound_expression ranges e) ≡ true
expression_suits ranges shape e k x h = ap (sort_suits k) x.is ∙ suited ranges e k x.sort x.agrees h

-- a value that fits a column is of its sort
pub fit_sorted : (k : Kind) (v : Value) → is_fit (fit_of v k) ≡ true → sort_suits k (Some (sort_of_value v)) ≡ true
fit_sorted k value.Null h = refl
fit_sorted kind.Integer (value.Int a) h = refl
fit_sorted (kind.Varchar n) (value.Text t) h = refl
fit_sorted (kind.Varchar n) (value.Int a) h = cc
fit_sorted kind.Integer (value.Text t) h = cc

pub value_of_column : (ranges : List NamedRange) (shape : Shape) → Matches ranges shape → length ranges ≤ greatest → (columns : List Column) → list_all default_suits columns ≡ true
    → (place : ℕ) (column : Column) → slice_get columns place ≡ Some column → (v : ValueOrDefault)
    → unknown_in_value ranges v ≡ None → misshaped_value ranges v ≡ false → value_clashes (Some (type_of column.kind)) ranges v ≡ false
    → value_suits shape (Some column.kind) (bound_value columns ranges place v) ≡ true
unfolding bound_value default_at misshaped_value value_clashes
value_of_column ranges shape m l columns d place column h (given.Value e) u w c = expression_suits ranges shape e column.kind (sorted ranges shape m l e u w) c
value_of_column ranges shape m l columns d place column h given.Default u w c =
    ap (λ (o : Option Column). sort_suits column.kind (Some (sort_of_value (elim o as (λ x. Value) [ Some x ↦ x.default | None ↦ value.Null ])))) h
    ∙ fit_sorted column.kind column.default (all_at default_suits columns d place column h)
