-- Two lists side by side, from a place on.
use Rattle.std.proofs.Common.{◌≡◌, refl, ℕ, ◌+◌, ◌<◌, ◌≤◌, false, ◌||◌, List, ◌∷◌, ◌∙◌, sym, ap, length, drop, get_or, slice_get, Option, Some, None, option_map, zip}
use Rattle.std.proofs.lemmas.Option.{slice_get-map}
use Rattle.std.specs.List.{list_any}
use Rattle.iv_resolve_scope.proofs.Places.{next_of, none_left, next_got, some_not_none, none_at, no_pair}
use Rattle.iv_syntax.specs.declared.table.ColumnType.{ColumnType}
use Rattle.iv_syntax.specs.declared.tree.Expression.{Expression}
use Rattle.iv_syntax.specs.declared.statement.ValueOrDefault.{ValueOrDefault}
use Rattle.iv_catalogue.specs.declared.catalogue.Column.{Column}
use Rattle.iv_resolution.specs.Scopes.{NamedColumn, NamedRange, named_columns, type_named}
use Rattle.iv_resolution.specs.Changes.{clashes_with, kinds_clash, target_types, tuple_clashes, value_clashes, values_clash, columns_clash}

pub tuple_step : (types : List (Option ColumnType)) (ranges : List NamedRange) (tuple : List ValueOrDefault) (i : ℕ) (t : Option ColumnType) (v : ValueOrDefault)
    → slice_get types i ≡ Some t → i < length tuple → v ≡ get_or tuple i v
    → tuple_clashes (drop i types) ranges (drop i tuple) ≡ (value_clashes t ranges v || tuple_clashes (drop (i + 1) types) ranges (drop (i + 1) tuple))
unfolding tuple_clashes
tuple_step types ranges tuple i t v g h e = rw (next_got types i t g, next_of tuple i v h e) refl

pub tuple_past : (types : List (Option ColumnType)) (ranges : List NamedRange) (tuple : List ValueOrDefault) (i : ℕ)
    → slice_get types i ≡ None → tuple_clashes (drop i types) ranges (drop i tuple) ≡ false
unfolding tuple_clashes
tuple_past types ranges tuple i g = rw (none_at types i g) refl

pub tuple_end : (types : List (Option ColumnType)) (ranges : List NamedRange) (tuple : List ValueOrDefault) (i : ℕ)
    → length tuple ≤ i → tuple_clashes (drop i types) ranges (drop i tuple) ≡ false
unfolding tuple_clashes
tuple_end types ranges tuple i h = rw (no_pair (drop i types) (drop i tuple) (none_left tuple i h)) refl

pub values_step : (types : List (Option ColumnType)) (ranges : List NamedRange) (es : List Expression) (i : ℕ) (t : Option ColumnType) (e : Expression)
    → slice_get types i ≡ Some t → i < length es → e ≡ get_or es i e
    → values_clash (drop i types) ranges (drop i es) ≡ (clashes_with t ranges e || values_clash (drop (i + 1) types) ranges (drop (i + 1) es))
unfolding values_clash
values_step types ranges es i t e g h s = rw (next_got types i t g, next_of es i e h s) refl

pub values_past : (types : List (Option ColumnType)) (ranges : List NamedRange) (es : List Expression) (i : ℕ)
    → slice_get types i ≡ None → values_clash (drop i types) ranges (drop i es) ≡ false
unfolding values_clash
values_past types ranges es i g = rw (none_at types i g) refl

pub values_end : (types : List (Option ColumnType)) (ranges : List NamedRange) (es : List Expression) (i : ℕ)
    → length es ≤ i → values_clash (drop i types) ranges (drop i es) ≡ false
unfolding values_clash
values_end types ranges es i h = rw (no_pair (drop i types) (drop i es) (none_left es i h)) refl

kind_step : (types : List (Option ColumnType)) (columns : List NamedColumn) (t : Option ColumnType) (k : ColumnType) (c : Option NamedColumn) (i : ℕ)
    → slice_get columns i ≡ c → option_map (λ d. d.kind) c ≡ Some k
    → columns_clash (t ∷ drop (i + 1) types) (drop i columns) ≡ (kinds_clash t k || columns_clash (drop (i + 1) types) (drop (i + 1) columns))
unfolding columns_clash
kind_step types columns t k (Some c) i g h = rw (next_got columns i c g) (ap (λ j. kinds_clash t j || list_any (λ p. kinds_clash p.0 p.1.kind) (zip (drop (i + 1) types) (drop (i + 1) columns))) (ap (λ o. elim o [ Some j ↦ j | None ↦ k ]) h))
kind_step types columns t k None i g h = absurd (some_not_none k (sym h))

pub columns_step : (types : List (Option ColumnType)) (columns : List NamedColumn) (i : ℕ) (t : Option ColumnType) (k : ColumnType)
    → slice_get types i ≡ Some t → Some k ≡ option_map (λ d. d.kind) (slice_get columns i)
    → columns_clash (drop i types) (drop i columns) ≡ (kinds_clash t k || columns_clash (drop (i + 1) types) (drop (i + 1) columns))
columns_step types columns i t k g h = ap (λ ts. columns_clash ts (drop i columns)) (next_got types i t g) ∙ kind_step types columns t k (slice_get columns i) i refl (sym h)

pub columns_past : (types : List (Option ColumnType)) (columns : List NamedColumn) (i : ℕ)
    → slice_get types i ≡ None → columns_clash (drop i types) (drop i columns) ≡ false
unfolding columns_clash
columns_past types columns i g = rw (none_at types i g) refl

no_column : (o : Option NamedColumn) → None ≡ option_map (λ d. d.kind) o → o ≡ None
no_column None h = refl
no_column (Some c) h = absurd (some_not_none c.kind (sym h))

pub columns_gone : (types : List (Option ColumnType)) (columns : List NamedColumn) (i : ℕ)
    → None ≡ option_map (λ d. d.kind) (slice_get columns i) → columns_clash (drop i types) (drop i columns) ≡ false
unfolding columns_clash
columns_gone types columns i h = rw (no_pair (drop i types) (drop i columns) (none_at columns i (no_column (slice_get columns i) h))) refl

pub columns_end : (types : List (Option ColumnType)) (columns : List NamedColumn) (i : ℕ)
    → length types ≤ i → columns_clash (drop i types) (drop i columns) ≡ false
unfolding columns_clash
columns_end types columns i h = rw (none_left types i h) refl

-- ---- the columns that an INSERT has values for

twice_mapped : (o : Option NamedColumn) → option_map (λ c. Some c.kind) o ≡ option_map (λ k. Some k) (option_map (λ c. c.kind) o)
twice_mapped None = refl
twice_mapped (Some c) = refl

pub all_at : (columns : List Column) (i : ℕ)
    → slice_get (target_types (named_columns columns) None) i ≡ option_map (λ k. Some k) (option_map (λ c. c.kind) (slice_get (named_columns columns) i))
all_at columns i = slice_get-map (λ c. Some c.kind) (named_columns columns) i ∙ twice_mapped (slice_get (named_columns columns) i)

pub listed_at : (columns : List Column) (names : List (List ℕ)) (i : ℕ)
    → slice_get (target_types (named_columns columns) (Some names)) i ≡ option_map (type_named (named_columns columns)) (slice_get names i)
listed_at columns names i = slice_get-map (type_named (named_columns columns)) names i
