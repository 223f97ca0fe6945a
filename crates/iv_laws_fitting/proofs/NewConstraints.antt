-- What a constraint that deserves no cause means suits the tables: the columns that it names are there, its condition suits them, and a
-- foreign key pairs columns of one type.
use Rattle.std.proofs.Common.{◌≡◌, ℕ, zero, suc, ◌≤◌, Bool, true, false, not, ◌&&◌, ◌||◌, ◌==◌, List, [], ◌∷◌, ◌∙◌, Option, Some, None, is_some, refl, sym, ap, length, zip, slice_get, option_map, unwrap_or, arith}
use Rattle.std.proofs.lemmas.Bool.{and_from, not-false, or_parts}
use Rattle.std.proofs.lemmas.Option.{same_Some}
use Rattle.std.specs.List.{list_any, list_all}
use Rattle.std.proofs.lemmas.Bool.Decides.{nat_tests}
use Rattle.iv_laws_fitting.specs.Types.{Kind}
use Rattle.iv_laws_fitting.specs.Types.kind
use Rattle.iv_expr.specs.Suiting.{Shape, suits}
use Rattle.iv_syntax.specs.declared.table.ColumnType.{ColumnType}
use Rattle.iv_syntax.specs.declared.tree.Condition.{Condition}
use Rattle.iv_syntax.specs.declared.tree.Condition.TheVariants as condition
use Rattle.iv_syntax.specs.Trees.{exists_where, enclosed, negated, both, either}
use Rattle.iv_resolution.specs.Scopes.{NamedColumn, NamedRange, Names, number, type_of, place_of, has_column, type_named, own_range}
use Rattle.iv_resolution.specs.Terms.{misshaped_expression, misshaped_condition, clash, has_exists, bound_condition}
use Rattle.iv_resolution.specs.Constraints.{Key, places_of, types_differ, pairs_differ}
use Rattle.iv_resolution.specs.NameFaults.{unknown_in_columns, unknown_in_condition, unknown_in_expression}
use Rattle.iv_resolution.proofs.Told.{known_column, none_parts}
use Rattle.iv_laws_fitting.specs.Naming.{column_is_called}
use Rattle.iv_laws_fitting.proofs.Firsts.{Search, nothing, something, search, first_position, first_found, first_there, none_position}
use Rattle.iv_laws_fitting.specs.ConstraintShapes.{is_place, check_shape, same_kind, pair_suits}
use Rattle.iv_laws_fitting.proofs.ColumnKinds.{greatest, ColumnsMatch, Matches, kind_at}
use Rattle.iv_laws_fitting.proofs.Conditions.{compares, has_sort_of}
use Rattle.iv_laws_fitting.proofs.Expressions.{sorted}
use Rattle.iv_laws_fitting.proofs.Pointwise.{any_at, zip_at, made_of, mapped_length, all_by}

-- ---- conditions without EXISTS

pub plain_condition_suits : (names : Names) (ranges : List NamedRange) (shape : Shape) → Matches ranges shape → length ranges ≤ greatest
    → (c : Condition) → has_exists c ≡ false → unknown_in_condition names ranges c ≡ None → misshaped_condition names ranges c ≡ false
    → suits shape (bound_condition names ranges c) ≡ true
unfolding unknown_in_condition misshaped_condition bound_condition
plain_condition_suits names ranges shape m l (condition.Compare op a b) e u w =
    let known = none_parts (unknown_in_expression ranges a) (unknown_in_expression ranges b) u in
    let parts = or_parts (clash ranges a b) (misshaped_expression ranges a || misshaped_expression ranges b) w in
    let each = or_parts (misshaped_expression ranges a) (misshaped_expression ranges b) parts.1 in
    compares ranges shape a b (sorted ranges shape m l a known.0 each.0) (sorted ranges shape m l b known.1 each.1) parts.0
plain_condition_suits names ranges shape m l (condition.IsNull a) e u w = has_sort_of ranges shape a (sorted ranges shape m l a u w)
plain_condition_suits names ranges shape m l (condition.IsNotNull a) e u w = has_sort_of ranges shape a (sorted ranges shape m l a u w)
plain_condition_suits names ranges shape m l (condition.Exists r) e u w = cc
plain_condition_suits names ranges shape m l (exists_where r a) e u w = cc
plain_condition_suits names ranges shape m l (enclosed a) e u w = plain_condition_suits names ranges shape m l a e u w
plain_condition_suits names ranges shape m l (negated a) e u w = plain_condition_suits names ranges shape m l a e u w
plain_condition_suits names ranges shape m l (both a b) e u w =
    let none = or_parts (has_exists a) (has_exists b) e in
    let known = none_parts (unknown_in_condition names ranges a) (unknown_in_condition names ranges b) u in
    let each = or_parts (misshaped_condition names ranges a) (misshaped_condition names ranges b) w in
    and_from _ _ (plain_condition_suits names ranges shape m l a none.0 known.0 each.0) (plain_condition_suits names ranges shape m l b none.1 known.1 each.1)
plain_condition_suits names ranges shape m l (either a b) e u w =
    let none = or_parts (has_exists a) (has_exists b) e in
    let known = none_parts (unknown_in_condition names ranges a) (unknown_in_condition names ranges b) u in
    let each = or_parts (misshaped_condition names ranges a) (misshaped_condition names ranges b) w in
    and_from _ _ (plain_condition_suits names ranges shape m l a none.0 known.0 each.0) (plain_condition_suits names ranges shape m l b none.1 known.1 each.1)

-- the one range of a CHECK
pub check_matches : (name : List ℕ) (columns : List NamedColumn) (kinds : List Kind) → ColumnsMatch columns kinds → Matches (own_range name columns ∷ []) (check_shape kinds)
check_matches name columns kinds m = record { rows = own_range name columns ∷ []; variables = []; split = refl; rows_match = (refl, m, tt); variables_match = tt }

-- ---- columns by name

pub record NamedKind (columns : List NamedColumn) (kinds : List Kind) (name : List ℕ) : Type 0 where
  pub kind : Kind
  pub at : slice_get kinds (place_of columns name) ≡ Some kind
  pub type : type_named columns name ≡ Some (type_of kind)

below : {X : Type 0} (xs : List X) (i : ℕ) (x : X) → slice_get xs i ≡ Some x → suc i ≤ length xs
below [] i x h = cc
below (y ∷ ys) zero x h = omega arith
below (y ∷ ys) (suc n) x h = let l = below ys n x h in omega arith

small : (n : ℕ) → n ≤ greatest → number n ≡ n
small n h = omega arith

pub named_kind : (columns : List NamedColumn) (kinds : List Kind) → ColumnsMatch columns kinds → (name : List ℕ) → not (has_column columns name) ≡ false → NamedKind columns kinds name
named_kind columns kinds m name h = by (search (column_is_called name) columns)
  where
    by : Search (column_is_called name) columns → NamedKind columns kinds name
    by (nothing n) = let e : true ≡ false = ap (λ (o : Option ℕ). not (is_some (option_map number o))) (sym (none_position (column_is_called name) columns n)) ∙ h in cc
    by (something i c f) =
        let there = first_there (column_is_called name) columns i c f in
        let k = kind_at columns kinds m.types i c there in
        let less = below columns i c there in
        let few = m.few in
        record {
          kind = k.0;
          at = ap (λ (o : Option ℕ). slice_get kinds (unwrap_or (option_map number o) 0)) (first_position (column_is_called name) columns i c f)
              ∙ ap (slice_get kinds) (small i (omega arith)) ∙ k.1;
          type = ap (option_map (λ (x : NamedColumn). x.kind)) (first_found (column_is_called name) columns i c f) ∙ ap (λ (t : ColumnType). Some t) k.2;
        }

there_is_place : (kinds : List Kind) (place : ℕ) (k : Kind) → slice_get kinds place ≡ Some k → is_place kinds place ≡ true
there_is_place kinds place k h = let l = below kinds place k h in grind (arith, nat_tests)

pub named_place : (columns : List NamedColumn) (kinds : List Kind) → ColumnsMatch columns kinds → (name : List ℕ) → not (has_column columns name) ≡ false
    → is_place kinds (place_of columns name) ≡ true
named_place columns kinds m name h = let k = named_kind columns kinds m name h in there_is_place kinds (place_of columns name) k.kind k.at

pub named_places : (columns : List NamedColumn) (kinds : List Kind) → ColumnsMatch columns kinds → (names : List (List ℕ)) → unknown_in_columns columns names ≡ None
    → list_all (is_place kinds) (places_of columns names) ≡ true
named_places columns kinds m names u =
    all_by (is_place kinds) (places_of columns names)
    (λ j place h.
    let made = made_of (place_of columns) names j place h in
    ap (is_place kinds) made.2 ∙ named_place columns kinds m made.0 (known_column columns names u j made.0 made.1))

-- ---- keys

-- each column of a key by its name and by its place
pub record KeyMatches (columns : List NamedColumn) (kinds : List Kind) (k : Key) : Type 0 where
  pub same : length k.columns ≡ length k.places
  pub each : (j : ℕ) (name : List ℕ) (place : ℕ) → slice_get k.columns j ≡ Some name → slice_get k.places j ≡ Some place
      → (q : Kind) × (slice_get kinds place ≡ Some q) × (type_named columns name ≡ Some (type_of q))

pub key_of_names : (columns : List NamedColumn) (kinds : List Kind) → ColumnsMatch columns kinds → (names : List (List ℕ)) → unknown_in_columns columns names ≡ None
    → (primary deferrable : Bool) → KeyMatches columns kinds (record { columns = names; places = places_of columns names; is_primary = primary; deferrable = deferrable })
key_of_names columns kinds m names u primary deferrable = record {
  same = sym (mapped_length (place_of columns) names);
  each = λ j name place h g.
      let made = made_of (place_of columns) names j place g in
      let same : made.0 ≡ name = same_Some made.0 name (sym made.1 ∙ h) in
      let k = named_kind columns kinds m name (known_column columns names u j name h) in
      (k.kind, ap (slice_get kinds) (made.2 ∙ ap (place_of columns) same) ∙ k.at, k.type);
}

pub zipped : {X Y : Type 0} (xs : List X) (ys : List Y) (j : ℕ) (p : X × Y) → slice_get (zip xs ys) j ≡ Some p → (slice_get xs j ≡ Some p.0) × (slice_get ys j ≡ Some p.1)
zipped [] ys j p h = cc
zipped (x ∷ xs) [] j p h = cc
zipped {X = X} {Y = Y} (x ∷ xs) (y ∷ ys) zero p h =
    let e : (x, y) ≡ p = same_Some (x, y) p h in
    (ap (λ (q : X × Y). Some q.0) e, ap (λ (q : X × Y). Some q.1) e)
zipped (x ∷ xs) (y ∷ ys) (suc j) p h = zipped xs ys j p h

one_type : (a b : Kind) → types_differ (Some (type_of a)) (Some (type_of b)) ≡ false → same_kind (Some a) (Some b) ≡ true
one_type kind.Integer kind.Integer h = refl
one_type (kind.Varchar m) (kind.Varchar n) h = not-false (m == n) h
one_type kind.Integer (kind.Varchar n) h = cc
one_type (kind.Varchar m) kind.Integer h = cc

-- the columns of a foreign key and those of a key that it names have the same types, one by one
pub pairs_of_key : (columns : List NamedColumn) (kinds : List Kind) → ColumnsMatch columns kinds → (referencing : List (List ℕ)) → unknown_in_columns columns referencing ≡ None
    → (others : List NamedColumn) (other_kinds : List Kind) (k : Key) → KeyMatches others other_kinds k → pairs_differ columns referencing others k.columns ≡ false
    → ((length (places_of columns referencing) == length k.places) && list_all (pair_suits kinds other_kinds) (zip (places_of columns referencing) k.places)) ≡ true
pairs_of_key columns kinds m referencing u others other_kinds k km h =
    let parts = or_parts (not (length referencing == length k.columns)) (list_any (λ (p : List ℕ × List ℕ). types_differ (type_named columns p.0) (type_named others p.1)) (zip referencing k.columns)) h in
    let one = not-false (length referencing == length k.columns) parts.0 in
    let made = mapped_length (place_of columns) referencing in
    let same = km.same in
    and_from _ _ (grind (arith, nat_tests))
    (all_by (pair_suits kinds other_kinds) (zip (places_of columns referencing) k.places)
    (λ j p g.
    let apart = zipped (places_of columns referencing) k.places j p g in
    let name = made_of (place_of columns) referencing j p.0 apart.0 in
    let less = below k.places j p.1 apart.1 in
    let there = at_place k.columns j (omega arith) in
    let mine = named_kind columns kinds m name.0 (known_column columns referencing u j name.0 name.1) in
    let theirs = km.each j there.0 p.1 there.1 apart.1 in
    ap (λ (o : Option Kind). same_kind o (slice_get other_kinds p.1)) (ap (slice_get kinds) name.2 ∙ mine.at)
    ∙ ap (same_kind (Some mine.kind)) theirs.1
    ∙ one_type mine.kind theirs.0
    (ap (λ (o : Option ColumnType). types_differ o (Some (type_of theirs.0))) (sym mine.type)
    ∙ ap (types_differ (type_named columns name.0)) (sym theirs.2)
    ∙ any_at (λ (q : List ℕ × List ℕ). types_differ (type_named columns q.0) (type_named others q.1)) (zip referencing k.columns) parts.1 j (name.0, there.0)
    (zip_at referencing k.columns j name.0 there.0 name.1 there.1))))
  where
    at_place : {X : Type 0} (xs : List X) (j : ℕ) → suc j ≤ length xs → (x : X) × (slice_get xs j ≡ Some x)
    at_place [] j h = absurd (omega arith)
    at_place (x ∷ xs) zero h = (x, refl)
    at_place (x ∷ xs) (suc j) h = at_place xs j (omega arith)
