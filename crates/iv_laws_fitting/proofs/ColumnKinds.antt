-- The kinds of the columns that names see are those of a shape.
use Rattle.std.proofs.Common.{◌≡◌, ℕ, zero, suc, ◌<◌, ◌≤◌, Bool, List, [], ◌∷◌, ◌++◌, ◌∙◌, Option, Some, None, refl, sym, ap, length, map, slice_get, option_map, subst, arith}
use Rattle.std.proofs.lemmas.Option.{same_Some}
use Rattle.iv_laws_fitting.specs.Types.{Kind, Column, Table}
use Rattle.iv_laws_fitting.specs.Types.kind
use Rattle.iv_expr.specs.declared.tree.Side.{Side}
use Rattle.iv_expr.specs.declared.tree.Side.TheVariants as side
use Rattle.iv_expr.specs.Suiting.{Sort, numbers, texts, Shape, sort_of_kind, variable_kinds, column_sort, sort_of}
use Rattle.iv_syntax.specs.declared.table.ColumnType.{ColumnType}
use Rattle.iv_syntax.specs.declared.table.ColumnType.TheVariants as type
use Rattle.iv_syntax.specs.declared.tree.ColumnName.{ColumnName}
use Rattle.iv_resolution.specs.declared.origin.Origin.{Origin}
use Rattle.iv_resolution.specs.declared.origin.Origin.TheVariants.{Rows, Variable}
use Rattle.iv_resolution.specs.Scopes.{NamedColumn, NamedRange, Found, number, count_outward, type_of, named_columns, column_meant}
use Rattle.iv_resolution.specs.Terms.{bound_origin}
use Rattle.iv_laws_fitting.specs.Naming.{IsFirst, ColumnOfRange, NamesAlone, NamesQualified}
use Rattle.iv_laws_fitting.proofs.Firsts.{first_there}
use Rattle.iv_laws_fitting.proofs.NamesFound.{columns_found}
use Rattle.iv_laws_fitting.specs.PlanShapes.{kinds_of}

-- the greatest number of 32 bits
abbrev pub greatest : ℕ
greatest = 4294967295

-- ---- kinds of columns, in their order

-- columns that names see are of these kinds
pub record ColumnsMatch (columns : List NamedColumn) (kinds : List Kind) : Type 0 where
  pub types : map (λ c. c.kind) columns ≡ map type_of kinds
  pub few : length columns ≤ greatest

named_types : (columns : List Column) → map (λ c. c.kind) (named_columns columns) ≡ map type_of (map (λ c. c.kind) columns)
named_types [] = refl
named_types (c ∷ cs) = ap (λ l. type_of c.kind ∷ l) (named_types cs)

same_length : (columns : List Column) → length (named_columns columns) ≡ length columns
same_length [] = refl
same_length (c ∷ cs) = ap suc (same_length cs)

-- those of a table that is there
pub stored_match : (t : Table) → length t.columns ≤ greatest → ColumnsMatch (named_columns t.columns) (kinds_of t)
stored_match t h = record { types = named_types t.columns; few = let e = same_length t.columns in omega arith }

-- the kind of a column
pub kind_at : (columns : List NamedColumn) (kinds : List Kind) → map (λ (c : NamedColumn). c.kind) columns ≡ map type_of kinds
    → (place : ℕ) (column : NamedColumn) → slice_get columns place ≡ Some column
    → (k : Kind) × (slice_get kinds place ≡ Some k) × (column.kind ≡ type_of k)
kind_at [] kinds e place column h = cc
kind_at (c ∷ cs) [] e place column h = cc
kind_at (c ∷ cs) (k ∷ ks) e zero column h = (k, refl, ap (λ (x : NamedColumn). x.kind) (sym (same_Some c column h)) ∙ cc)
kind_at (c ∷ cs) (k ∷ ks) e (suc n) column h = let rest : map (λ (x : NamedColumn). x.kind) cs ≡ map type_of ks = cc in kind_at cs ks rest n column h

-- the sort of a column of this type
abbrev pub sort_of_type : ColumnType → Sort
sort_of_type type.Integer = numbers
sort_of_type (type.Varchar n) = texts

pub type_sort : (k : Kind) → sort_of_type (type_of k) ≡ sort_of_kind k
type_sort kind.Integer = refl
type_sort (kind.Varchar n) = refl

-- ---- ranges and row variables

abbrev pub side_kinds : Option (List Kind) → Option (List Kind) → Side → Option (List Kind)
side_kinds old new side.Old = old
side_kinds old new side.New = new

pub side_of_shape : (shape : Shape) (s : Side) → variable_kinds shape s ≡ side_kinds shape.old shape.new s
side_of_shape shape side.Old = refl
side_of_shape shape side.New = refl

abbrev pub RowsMatch : List NamedRange → List (List Kind) → Type 0
RowsMatch [] [] = Unit {0}
RowsMatch (r ∷ ranges) (k ∷ kinds) = (r.origin ≡ Rows) × ColumnsMatch r.columns k × RowsMatch ranges kinds
RowsMatch _ _ = ⊥

pub record VariableMatches (old new : Option (List Kind)) (r : NamedRange) : Type 0 where
  pub side : Side
  pub kinds : List Kind
  pub is : r.origin ≡ Variable side
  pub there : side_kinds old new side ≡ Some kinds
  pub matches : ColumnsMatch r.columns kinds

abbrev pub VariablesMatch : Option (List Kind) → Option (List Kind) → List NamedRange → Type 0
VariablesMatch old new [] = Unit {0}
VariablesMatch old new (r ∷ ranges) = VariableMatches old new r × VariablesMatch old new ranges

-- ranges and then row variables, of the kinds of a shape
pub record Matches (ranges : List NamedRange) (shape : Shape) : Type 0 where
  pub rows : List NamedRange
  pub variables : List NamedRange
  pub split : ranges ≡ rows ++ variables
  pub rows_match : RowsMatch rows shape.ranges
  pub variables_match : VariablesMatch shape.old shape.new variables

pub data AtRange (old new : Option (List Kind)) (kinds : List (List Kind)) (i : ℕ) (r : NamedRange) : Type 0 where
  of_rows : (k : List Kind) → r.origin ≡ Rows → slice_get kinds i ≡ Some k → ColumnsMatch r.columns k → AtRange old new kinds i r
  of_variable : VariableMatches old new r → AtRange old new kinds i r

at_variable : (old new : Option (List Kind)) (variables : List NamedRange) → VariablesMatch old new variables → (i : ℕ) (r : NamedRange) → slice_get variables i ≡ Some r
    → VariableMatches old new r
at_variable old new [] m i r h = cc
at_variable old new (v ∷ vs) m zero r h = subst (VariableMatches old new) (same_Some v r h) m.0
at_variable old new (v ∷ vs) m (suc n) r h = at_variable old new vs m.1 n r h

one_further : (old new : Option (List Kind)) (k : List Kind) (kinds : List (List Kind)) (i : ℕ) (r : NamedRange) → AtRange old new kinds i r → AtRange old new (k ∷ kinds) (suc i) r
one_further old new k kinds i r (of_rows j o h m) = of_rows j o h m
one_further old new k kinds i r (of_variable v) = of_variable v

at_range : (old new : Option (List Kind)) (rows variables : List NamedRange) (kinds : List (List Kind)) → RowsMatch rows kinds → VariablesMatch old new variables
    → (i : ℕ) (r : NamedRange) → slice_get (rows ++ variables) i ≡ Some r → AtRange old new kinds i r
at_range old new [] vs [] m v i r h = of_variable (at_variable old new vs v i r h)
at_range old new [] vs (k ∷ ks) m v i r h = absurd m
at_range old new (x ∷ xs) vs [] m v i r h = absurd m
at_range old new (x ∷ xs) vs (k ∷ ks) m v zero r h =
    let e : x ≡ r = same_Some x r h in
    of_rows k (ap (λ (y : NamedRange). y.origin) (sym e) ∙ m.0) refl (subst (λ (y : NamedRange). ColumnsMatch y.columns k) e m.1)
at_range old new (x ∷ xs) vs (k ∷ ks) m v (suc n) r h = one_further old new k ks n r (at_range old new xs vs ks m.2 v n r h)

-- ---- the sort of the column that a name names

pub there_below : {X : Type 0} (xs : List X) (i : ℕ) (x : X) → slice_get xs i ≡ Some x → i < length xs
there_below [] i x h = cc
there_below (y ∷ ys) zero x h = omega arith
there_below (y ∷ ys) (suc n) x h = let l = there_below ys n x h in omega arith

small : (n : ℕ) → n ≤ greatest → number n ≡ n
small n h = omega arith

sort_at : (shape : Shape) (o : Origin) (i p : ℕ) (t : ColumnType) → Option Sort
sort_at shape o i p t = sort_of shape (bound_origin (record { origin = o; outward = count_outward o i; place = p; kind = t }))

of_range : (shape : Shape) (i : ℕ) (r : NamedRange) (place : ℕ) (column : NamedColumn) → AtRange shape.old shape.new shape.ranges i r → i ≤ greatest
    → slice_get r.columns place ≡ Some column
    → sort_of shape (bound_origin (record { origin = r.origin; outward = count_outward r.origin (number i); place = number place; kind = column.kind })) ≡ Some (sort_of_type column.kind)
unfolding sort_at
of_range shape i r place column (of_rows k o h m) l e =
    let found = kind_at r.columns k m.types place column e in
    let below = there_below r.columns place column e in
    ap (λ o. sort_at shape o (number i) (number place) column.kind) o
    ∙ ap (λ n. column_sort (slice_get shape.ranges n) (number place)) (small i l)
    ∙ ap (λ n. column_sort (slice_get shape.ranges i) n) (small place (let f = m.few in omega arith))
    ∙ ap (λ (x : Option (List Kind)). column_sort x place) h
    ∙ ap (option_map sort_of_kind) found.1
    ∙ ap (λ (s : Sort). Some s) (sym (ap sort_of_type found.2 ∙ type_sort found.0))
of_range shape i r place column (of_variable v) l e =
    let found = kind_at r.columns v.kinds v.matches.types place column e in
    let below = there_below r.columns place column e in
    ap (λ o. sort_at shape o (number i) (number place) column.kind) v.is
    ∙ ap (λ n. column_sort (variable_kinds shape v.side) n) (small place (let f = v.matches.few in omega arith))
    ∙ ap (λ (x : Option (List Kind)). column_sort x place) (side_of_shape shape v.side ∙ v.there)
    ∙ ap (option_map sort_of_kind) found.1
    ∙ ap (λ (s : Sort). Some s) (sym (ap sort_of_type found.2 ∙ type_sort found.0))

found_sort : (ranges : List NamedRange) (shape : Shape) → Matches ranges shape → length ranges ≤ greatest
    → (p : NamedRange → Bool) (i : ℕ) (r : NamedRange) → IsFirst p ranges i r → (name : List ℕ) (f : Found) → ColumnOfRange r i name f
    → sort_of shape (bound_origin f) ≡ Some (sort_of_type f.kind)
found_sort ranges shape m l p i r first name f c =
    let there = first_there p ranges i r first in
    let here = at_range shape.old shape.new m.rows m.variables shape.ranges m.rows_match m.variables_match i r (ap (λ (x : List NamedRange). slice_get x i) (sym m.split) ∙ there) in
    let below = there_below ranges i r there in
    ap (λ (x : Found). sort_of shape (bound_origin x)) c.is
    ∙ of_range shape i r c.place c.column here (omega arith) (first_there _ r.columns c.place c.column c.first)
    ∙ ap (λ (x : Found). Some (sort_of_type x.kind)) (sym c.is)

-- the column that a name names has the sort of its type
pub column_sorted : (ranges : List NamedRange) (shape : Shape) → Matches ranges shape → length ranges ≤ greatest
    → (c : ColumnName) (f : Found) → column_meant ranges c ≡ Some f → sort_of shape (bound_origin f) ≡ Some (sort_of_type f.kind)
column_sorted ranges shape m l c f h = by c.qualifier ((columns_found ranges c).sound f h)
  where
    by : (o : Option (List ℕ)) → elim o as (λ x. Type 0) [ Some q ↦ NamesQualified ranges q c.name f | None ↦ NamesAlone ranges c.name f ] → sort_of shape (bound_origin f) ≡ Some (sort_of_type f.kind)
    by None n = found_sort ranges shape m l _ n.inside n.range n.innermost c.name f n.column
    by (Some q) n = found_sort ranges shape m l _ n.inside n.range n.innermost c.name f n.column
