-- A condition that has no name that names nothing, and no operand of the wrong kind, suits the shape of its names.
use Rattle.std.proofs.Common.{◌≡◌, ℕ, ◌+◌, ◌≤◌, true, false, not, ◌&&◌, ◌||◌, List, [], ◌∷◌, ◌∙◌, Option, Some, None, is_some, refl, sym, ap, length, subst, arith}
use Rattle.std.proofs.lemmas.Bool.{and_from, or_parts}
use Rattle.iv_laws_fitting.specs.Types.{Kind, Range}
use Rattle.iv_laws_fitting.specs.Types.range
use Rattle.iv_expr.specs.Suiting.{Sort, nulls, numbers, texts, Shape, shape_within, range_kinds, sort_of, comparable, suits}
use Rattle.iv_syntax.specs.declared.tree.Expression.{Expression}
use Rattle.iv_syntax.specs.declared.tree.Condition.{Condition}
use Rattle.iv_syntax.specs.declared.tree.Condition.TheVariants as condition
use Rattle.iv_syntax.specs.declared.tree.RangeName.{RangeName}
use Rattle.iv_syntax.specs.Trees.{exists_where, enclosed, negated, both, either, condition_depth}
use Rattle.iv_resolution.specs.Scopes.{NamedColumn, NamedRange, Names, Source, source_named, is_source, source_columns, source_range, range_of}
use Rattle.iv_resolution.specs.Terms.{misshaped_expression, misshaped_condition, is_integer, is_text, clash, bound_expression, bound_condition}
use Rattle.iv_resolution.specs.Items.{table_item}
use Rattle.iv_resolution.specs.NameFaults.{unknown_in_from, unknown_in_condition, unknown_in_expression}
use Rattle.iv_resolution.proofs.Told.{none_parts, untold}
use Rattle.iv_laws_fitting.proofs.ColumnKinds.{greatest, ColumnsMatch, Matches}
use Rattle.iv_laws_fitting.proofs.Expressions.{Agrees, Sorted, sorted}

-- what a FROM names has columns of the kinds of a shape
abbrev pub SourcesMatch : Names → Shape → Type 0
SourcesMatch names shape = (name : List ℕ) (s : Source) → source_named names name ≡ Some s → ColumnsMatch s.columns (range_kinds shape s.range)

pub kinds_within : (shape : Shape) (kinds : List Kind) (r : Range) → range_kinds (shape_within shape kinds) r ≡ range_kinds shape r
kinds_within shape kinds (range.Table t) = refl
kinds_within shape kinds (range.Transition side) = refl

pub sources_within : (names : Names) (shape : Shape) (kinds : List Kind) → SourcesMatch names shape → SourcesMatch names (shape_within shape kinds)
sources_within names shape kinds m name s h = subst (ColumnsMatch s.columns) (sym (kinds_within shape kinds s.range)) (m name s h)

-- the range of a FROM inside the others
pub range_within : (names : Names) (ranges : List NamedRange) (shape : Shape) (r : RangeName) (s : Source) → Matches ranges shape → SourcesMatch names shape
    → source_named names r.table ≡ Some s → Matches (range_of names r ∷ ranges) (shape_within shape (range_kinds shape s.range))
unfolding range_of source_columns
range_within names ranges shape r s m n h =
    let columns : source_columns names r.table ≡ s.columns = ap (λ (o : Option Source). elim o as (λ x. List NamedColumn) [ Some x ↦ x.columns | None ↦ [] ]) h in
    record {
      rows = range_of names r ∷ m.rows;
      variables = m.variables;
      split = ap (λ l. range_of names r ∷ l) m.split;
      rows_match = (refl, subst (λ (c : List NamedColumn). ColumnsMatch c (range_kinds shape s.range)) (sym columns) (n r.table s h), m.rows_match);
      variables_match = m.variables_match;
    }

pub source_is : (names : Names) (name : List ℕ) → not (is_source names name) ≡ false → (s : Source) × (source_named names name ≡ Some s)
unfolding is_source
source_is names name h = by (source_named names name) refl h
  where
    by : (o : Option Source) → source_named names name ≡ o → not (is_some o) ≡ false → (s : Source) × (source_named names name ≡ Some s)
    by None e g = cc
    by (Some s) e g = (s, e)

pub range_of_source : (names : Names) (name : List ℕ) (s : Source) → source_named names name ≡ Some s → source_range names name ≡ s.range
unfolding source_range
range_of_source names name s h = ap (λ (o : Option Source). elim o as (λ x. Range) [ Some x ↦ x.range | None ↦ range.Table 0 ]) h

-- ---- comparisons

compared : (ranges : List NamedRange) (a b : Expression) (s t : Sort) → Agrees ranges a s → Agrees ranges b t → clash ranges a b ≡ false → comparable (Some s) (Some t) ≡ true
unfolding clash
compared ranges a b nulls t x y h = refl
compared ranges a b numbers nulls x y h = refl
compared ranges a b numbers numbers x y h = refl
compared ranges a b texts nulls x y h = refl
compared ranges a b texts texts x y h = refl
compared ranges a b numbers texts x y h =
    let parts = or_parts (is_integer ranges a && is_text ranges b) (is_text ranges a && is_integer ranges b) h in
    let e : true ≡ false = sym (ap (λ p. p && is_text ranges b) x ∙ y) ∙ parts.0 in cc
compared ranges a b texts numbers x y h =
    let parts = or_parts (is_integer ranges a && is_text ranges b) (is_text ranges a && is_integer ranges b) h in
    let e : true ≡ false = sym (ap (λ p. p && is_integer ranges b) x ∙ y) ∙ parts.1 in cc

pub compares : (ranges : List NamedRange) (shape : Shape) (a b : Expression) → Sorted ranges shape a → Sorted ranges shape b → clash ranges a b ≡ false
    → comparable (sort_of shape (bound_expression ranges a)) (sort_of shape (bound_expression ranges b)) ≡ true
compares ranges shape a b x y h =
    ap (λ (s : Option Sort). comparable s (sort_of shape (bound_expression ranges b))) x.is ∙ ap (comparable (Some x.sort)) y.is
    ∙ compared ranges a b x.sort y.sort x.agrees y.agrees h

pub has_sort_of : (ranges : List NamedRange) (shape : Shape) (e : Expression) → Sorted ranges shape e → is_some (sort_of shape (bound_expression ranges e)) ≡ true
has_sort_of ranges shape e x = ap (λ (o : Option Sort). is_some o) x.is

-- ---- conditions

pub condition_suits : (names : Names) (ranges : List NamedRange) (shape : Shape) → Matches ranges shape → SourcesMatch names shape
    → (c : Condition) → length ranges + condition_depth c ≤ greatest → unknown_in_condition names ranges c ≡ None → misshaped_condition names ranges c ≡ false
    → suits shape (bound_condition names ranges c) ≡ true
unfolding unknown_in_condition misshaped_condition bound_condition
condition_suits names ranges shape m n (condition.Compare op a b) l u w =
    let known = none_parts (unknown_in_expression ranges a) (unknown_in_expression ranges b) u in
    let parts = or_parts (clash ranges a b) (misshaped_expression ranges a || misshaped_expression ranges b) w in
    let each = or_parts (misshaped_expression ranges a) (misshaped_expression ranges b) parts.1 in
    compares ranges shape a b (sorted ranges shape m (omega arith) a known.0 each.0) (sorted ranges shape m (omega arith) b known.1 each.1) parts.0
condition_suits names ranges shape m n (condition.IsNull a) l u w = has_sort_of ranges shape a (sorted ranges shape m (omega arith) a u w)
condition_suits names ranges shape m n (condition.IsNotNull a) l u w = has_sort_of ranges shape a (sorted ranges shape m (omega arith) a u w)
condition_suits names ranges shape m n (condition.Exists r) l u w = refl
condition_suits names ranges shape m n (exists_where r a) l u w =
    let known = none_parts (unknown_in_from names r) (unknown_in_condition names (range_of names r ∷ ranges) a) u in
    let source = source_is names r.table (untold (not (is_source names r.table)) (table_item r.table) known.0) in
    let inner = range_within names ranges shape r source.0 m n source.1 in
    ap (λ (x : Range). suits (shape_within shape (range_kinds shape x)) (bound_condition names (range_of names r ∷ ranges) a)) (range_of_source names r.table source.0 source.1)
    ∙ condition_suits names (range_of names r ∷ ranges) (shape_within shape (range_kinds shape source.0.range)) inner
    (sources_within names shape (range_kinds shape source.0.range) n) a (omega arith) known.1 w
condition_suits names ranges shape m n (enclosed a) l u w = condition_suits names ranges shape m n a (omega arith) u w
condition_suits names ranges shape m n (negated a) l u w = condition_suits names ranges shape m n a (omega arith) u w
condition_suits names ranges shape m n (both a b) l u w =
    let known = none_parts (unknown_in_condition names ranges a) (unknown_in_condition names ranges b) u in
    let each = or_parts (misshaped_condition names ranges a) (misshaped_condition names ranges b) w in
    and_from _ _ (condition_suits names ranges shape m n a (omega arith) known.0 each.0) (condition_suits names ranges shape m n b (omega arith) known.1 each.1)
condition_suits names ranges shape m n (either a b) l u w =
    let known = none_parts (unknown_in_condition names ranges a) (unknown_in_condition names ranges b) u in
    let each = or_parts (misshaped_condition names ranges a) (misshaped_condition names ranges b) w in
    and_from _ _ (condition_suits names ranges shape m n a (omega arith) known.0 each.0) (condition_suits names ranges shape m n b (omega arith) known.1 each.1)
