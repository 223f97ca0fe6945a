-- Columns and the values for them side by side, from a place on; the columns that an INSERT has values for.
use Rattle.std.proofs.Common.{◌≡◌, refl, true, false, is_some, ℕ, ◌+◌, ◌<◌, ◌≤◌, List, [], ◌∷◌, ◌∙◌, sym, ap, length, drop, get_or, slice_get, Option, Some, None, option_map, suc}
use Rattle.std.specs.Option.{option_or}
use Rattle.std.proofs.lemmas.Option.{slice_get-map}
use Rattle.iv_resolve_scope.proofs.Places.{next_of, none_left, next_got, none_at, no_pair}
use Rattle.iv_syntax.specs.declared.table.ColumnType.{ColumnType}
use Rattle.iv_syntax.specs.declared.tree.Expression.{Expression}
use Rattle.iv_syntax.specs.declared.statement.ValueOrDefault.{ValueOrDefault}
use Rattle.iv_catalogue.specs.declared.catalogue.Column.{Column}
use Rattle.iv_resolution.specs.Scopes.{NamedColumn, NamedRange, named_column, named_columns, type_named}
use Rattle.iv_resolve_reasons.specs.Shapes.{Target, targets_of, shape_of_value, shape_of_values, shape_of_tuple, shape_of_tuples, shape_of_expression, shape_of_expressions, shape_of_column, shape_of_columns}

-- ---- what is told first of two

pub found_first : {A : Type 0} (whole first more o : Option A) → whole ≡ option_or first more → o ≡ first → is_some o ≡ true → o ≡ whole
found_first whole first more (Some x) h g s = sym (h ∙ ap (λ p. option_or p more) (sym g))
found_first whole first more None h g s = cc

pub found_later : {A : Type 0} (whole first more o : Option A) → whole ≡ option_or first more → o ≡ first → o ≡ None → whole ≡ more
found_later whole first more o h g n = h ∙ ap (λ p. option_or p more) (sym g ∙ n)

-- ---- a tuple

pub values_step : (table : List ℕ) (targets : List Target) (ranges : List NamedRange) (tuple : List ValueOrDefault) (i : ℕ) (t : Target) (v : ValueOrDefault)
    → slice_get targets i ≡ Some t → i < length tuple → v ≡ get_or tuple i v
    → shape_of_values table (drop i targets) ranges (drop i tuple) ≡ option_or (shape_of_value table t ranges v) (shape_of_values table (drop (i + 1) targets) ranges (drop (i + 1) tuple))
unfolding shape_of_values
values_step table targets ranges tuple i t v g h e = rw (next_got targets i t g, next_of tuple i v h e) refl

pub values_past : (table : List ℕ) (targets : List Target) (ranges : List NamedRange) (tuple : List ValueOrDefault) (i : ℕ)
    → slice_get targets i ≡ None → shape_of_values table (drop i targets) ranges (drop i tuple) ≡ None
unfolding shape_of_values
values_past table targets ranges tuple i g = rw (none_at targets i g) refl

pub values_end : (table : List ℕ) (targets : List Target) (ranges : List NamedRange) (tuple : List ValueOrDefault) (i : ℕ)
    → length tuple ≤ i → shape_of_values table (drop i targets) ranges (drop i tuple) ≡ None
unfolding shape_of_values
values_end table targets ranges tuple i h = rw (no_pair (drop i targets) (drop i tuple) (none_left tuple i h)) refl

-- ---- the tuples of VALUES

pub tuples_step : (table : List ℕ) (targets : List Target) (ranges : List NamedRange) (number : ℕ) (tuples : List (List ValueOrDefault)) (i : ℕ) (tuple : List ValueOrDefault)
    → i < length tuples → tuple ≡ get_or tuples i tuple
    → shape_of_tuples table targets ranges number (drop i tuples) ≡ option_or (shape_of_tuple table targets ranges number tuple) (shape_of_tuples table targets ranges (number + 1) (drop (i + 1) tuples))
tuples_step table targets ranges number tuples i tuple h e = ap (shape_of_tuples table targets ranges number) (next_of tuples i tuple h e)

pub tuples_end : (table : List ℕ) (targets : List Target) (ranges : List NamedRange) (number : ℕ) (tuples : List (List ValueOrDefault)) (i : ℕ)
    → length tuples ≤ i → shape_of_tuples table targets ranges number (drop i tuples) ≡ None
tuples_end table targets ranges number tuples i h = ap (shape_of_tuples table targets ranges number) (none_left tuples i h)

-- ---- the select list of an INSERT

pub expressions_step : (table : List ℕ) (targets : List Target) (ranges : List NamedRange) (es : List Expression) (i : ℕ) (t : Target) (e : Expression)
    → slice_get targets i ≡ Some t → i < length es → e ≡ get_or es i e
    → shape_of_expressions table (drop i targets) ranges (drop i es) ≡ option_or (shape_of_expression table t ranges e) (shape_of_expressions table (drop (i + 1) targets) ranges (drop (i + 1) es))
unfolding shape_of_expressions
expressions_step table targets ranges es i t e g h s = rw (next_got targets i t g, next_of es i e h s) refl

pub expressions_past : (table : List ℕ) (targets : List Target) (ranges : List NamedRange) (es : List Expression) (i : ℕ)
    → slice_get targets i ≡ None → shape_of_expressions table (drop i targets) ranges (drop i es) ≡ None
unfolding shape_of_expressions
expressions_past table targets ranges es i g = rw (none_at targets i g) refl

pub expressions_end : (table : List ℕ) (targets : List Target) (ranges : List NamedRange) (es : List Expression) (i : ℕ)
    → length es ≤ i → shape_of_expressions table (drop i targets) ranges (drop i es) ≡ None
unfolding shape_of_expressions
expressions_end table targets ranges es i h = rw (no_pair (drop i targets) (drop i es) (none_left es i h)) refl

pub columns_step : (table : List ℕ) (targets : List Target) (from : List ℕ) (columns : List Column) (i : ℕ) (t : Target) (c : Column)
    → slice_get targets i ≡ Some t → i < length columns → c ≡ get_or columns i c
    → shape_of_columns table (drop i targets) from (named_columns (drop i columns))
    ≡ option_or (shape_of_column table t from (named_column c)) (shape_of_columns table (drop (i + 1) targets) from (named_columns (drop (i + 1) columns)))
unfolding shape_of_columns
columns_step table targets from columns i t c g h e = rw (next_got targets i t g, next_of columns i c h e) refl

pub columns_past : (table : List ℕ) (targets : List Target) (from : List ℕ) (columns : List Column) (i : ℕ)
    → slice_get targets i ≡ None → shape_of_columns table (drop i targets) from (named_columns (drop i columns)) ≡ None
unfolding shape_of_columns
columns_past table targets from columns i g = rw (none_at targets i g) refl

pub columns_end : (table : List ℕ) (targets : List Target) (from : List ℕ) (columns : List Column) (i : ℕ)
    → length columns ≤ i → shape_of_columns table (drop i targets) from (named_columns (drop i columns)) ≡ None
unfolding shape_of_columns
columns_end table targets from columns i h = rw (no_pair (drop i targets) (named_columns (drop i columns)) (ap named_columns (none_left columns i h))) refl

-- ---- the columns that an INSERT has values for

abbrev one_target : NamedColumn → Target
one_target c = record { name = c.name; kind = Some c.kind }

pub target_in : (columns : List Column) (i : ℕ) (c : Column) (kind : Option ColumnType)
    → slice_get columns i ≡ Some c → kind ≡ option_map (λ d. d.kind) (slice_get (named_columns columns) i)
    → slice_get (targets_of (named_columns columns) None) i ≡ Some (record { name = c.name; kind = kind })
target_in columns i c kind g h =
    let named : slice_get (named_columns columns) i ≡ Some (named_column c) = slice_get-map named_column columns i ∙ ap (option_map named_column) g in
    slice_get-map one_target (named_columns columns) i ∙ ap (option_map one_target) named
    ∙ ap (λ (k : Option ColumnType). Some (record { name = c.name; kind = k })) (sym (h ∙ ap (option_map (λ (d : NamedColumn). d.kind)) named))

pub target_none : (columns : List Column) (i : ℕ) → slice_get columns i ≡ None → slice_get (targets_of (named_columns columns) None) i ≡ None
target_none columns i g = slice_get-map one_target (named_columns columns) i ∙ ap (option_map one_target) (slice_get-map named_column columns i ∙ ap (option_map named_column) g)

pub target_listed : (columns : List Column) (names : List (List ℕ)) (i : ℕ)
    → slice_get (targets_of (named_columns columns) (Some names)) i ≡ option_map (λ n. record { name = n; kind = type_named (named_columns columns) n }) (slice_get names i)
target_listed columns names i = slice_get-map (λ n. record { name = n; kind = type_named (named_columns columns) n }) names i

pub all_counted : (columns : List Column) → length (targets_of (named_columns columns) None) ≡ length columns
all_counted columns = by columns
  where
    by : (cs : List Column) → length (targets_of (named_columns cs) None) ≡ length cs
    by [] = refl
    by (c ∷ cs) = ap suc (by cs)

pub listed_counted : (columns : List NamedColumn) (names : List (List ℕ)) → length (targets_of columns (Some names)) ≡ length names
listed_counted columns [] = refl
listed_counted columns (n ∷ names) = ap suc (listed_counted columns names)

-- ---- what the code found

pub none_mapped : {A B : Type 0} (f : A → B) (o : Option A) → is_some o ≡ false → option_map f o ≡ None
none_mapped f None h = refl
none_mapped f (Some x) h = cc

pub some_mapped : {A B : Type 0} (f : A → B) (o : Option A) → is_some o ≡ true → is_some (option_map f o) ≡ true
some_mapped f None h = cc
some_mapped f (Some x) h = refl
