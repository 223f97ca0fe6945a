-- What is told of a statement that deserves WrongShape is so.
use Rattle.std.proofs.Common.{◌≡◌, refl, ap, ◌∙◌, sym, subst, ℕ, suc, ◌+◌, Bool, true, false, not, ◌==◌, List, [], ◌∷◌, ◌++◌, length, map, zip, Option, Some, None, slice_get, arith}
use Rattle.std.specs.Prelude.{⊤}
use Rattle.std.proofs.lemmas.Bool.{not-true}
use Rattle.std.proofs.lemmas.Option.{same_Some}
use Rattle.std.specs.Option.{option_or}
use Rattle.iv_syntax.specs.declared.table.ColumnType.{ColumnType}
use Rattle.iv_syntax.specs.declared.tree.RangeName.{RangeName}
use Rattle.iv_syntax.specs.declared.tree.Expression.{Expression}
use Rattle.iv_syntax.specs.declared.tree.Expression.TheVariants as expression
use Rattle.iv_syntax.specs.declared.tree.Condition.{Condition}
use Rattle.iv_syntax.specs.declared.tree.Condition.TheVariants as condition
use Rattle.iv_syntax.specs.declared.statement.Assignment.{Assignment}
use Rattle.iv_syntax.specs.declared.statement.Insert.{Insert}
use Rattle.iv_syntax.specs.declared.statement.Insert.TheVariants as insert
use Rattle.iv_syntax.specs.declared.statement.InsertSource.{InsertSource}
use Rattle.iv_syntax.specs.declared.statement.InsertSource.TheVariants as source
use Rattle.iv_syntax.specs.declared.statement.Select.{Select}
use Rattle.iv_syntax.specs.declared.statement.Select.TheVariants as select
use Rattle.iv_syntax.specs.declared.statement.SelectList.{SelectList}
use Rattle.iv_syntax.specs.declared.statement.SelectList.TheVariants as list
use Rattle.iv_syntax.specs.declared.statement.Update.{Update}
use Rattle.iv_syntax.specs.declared.statement.ValueOrDefault.{ValueOrDefault}
use Rattle.iv_syntax.specs.declared.statement.ValueOrDefault.TheVariants as value
use Rattle.iv_syntax.specs.Trees.{group, signed, product, sum, enclosed, negated, both, either, exists_where}
use Rattle.iv_resolution.specs.Scopes.{NamedColumn, NamedRange, Names, type_named, source_columns, range_of}
use Rattle.iv_resolution.specs.Terms.{is_text, clash}
use Rattle.iv_resolution.specs.Changes.{target_columns, target_ranges, clashes_with, kinds_clash}
use Rattle.iv_resolution.specs.Items.{told_if, first_of}
use Rattle.iv_resolve_reasons.specs.Shapes.{ShapeFault, tuple_count, query_count, value_fault, column_fault, set_fault, comparison_fault, operand_fault, operand_told, shape_in_expression, shape_in_comparison, shape_in_condition, shape_in_filter, Target, targets_of}
use Rattle.iv_resolve_reasons.specs.Shapes.{value_told, shape_of_expression, shape_of_value, shape_of_values, shape_of_tuple, shape_of_tuples, column_told, shape_of_column, shape_of_columns, shape_of_expressions, shape_of_count, shape_of_list, shape_of_source}
use Rattle.iv_resolve_reasons.specs.Shapes.{shape_in_insert, shape_in_assignment, shape_in_update, shape_in_delete, shape_in_list, shape_in_query, shape_in_select, set_told, shape_in_set}
use Rattle.iv_resolve_reasons.specs.Laws.{IsSo, IsSoWithin, TupleMiscounted, ShapesAreSo}

-- ---- what is told, if anything is

abbrev pub Of : {A : Type 0} → (A → Type 0) → Option A → Type 0
Of P None = ⊤
Of P (Some x) = P x

pub of_or : {A : Type 0} (P : A → Type 0) (a b : Option A) → Of P a → Of P b → Of P (option_or a b)
of_or P None b h g = g
of_or P (Some x) b h g = h

pub of_if : {A : Type 0} (P : A → Type 0) (b : Bool) (x : A) → (b ≡ true → P x) → Of P (told_if b x)
of_if P true x h = h refl
of_if P false x h = tt

pub of_first : {A B : Type 0} (P : B → Type 0) (f : A → Option B) → ((x : A) → Of P (f x)) → (xs : List A) → Of P (first_of f xs)
of_first P f h [] = tt
of_first P f h (x ∷ xs) = of_or P (f x) (first_of f xs) (h x) (of_first P f h xs)

pub of_more : {A : Type 0} (P Q : A → Type 0) → ((x : A) → P x → Q x) → (o : Option A) → Of P o → Of Q o
of_more P Q h None g = tt
of_more P Q h (Some x) g = h x g

pub taken : {A : Type 0} (P : A → Type 0) (o : Option A) (x : A) → Of P o → o ≡ Some x → P x
taken P o x h e = subst (Of P) e h

-- ---- value expressions and search conditions

operand_so : (ranges : List NamedRange) (e : Expression) (inside : Option ShapeFault) → Of (IsSo ranges) inside → Of (IsSo ranges) (operand_told ranges e inside)
unfolding operand_told
operand_so ranges e inside h = of_or (IsSo ranges) (told_if (is_text ranges e) (operand_fault e)) inside (of_if (IsSo ranges) (is_text ranges e) (operand_fault e) (λ t. t)) h

operands_so : (ranges : List NamedRange) (a b : Expression) → Of (IsSo ranges) (shape_in_expression ranges a) → Of (IsSo ranges) (shape_in_expression ranges b)
    → Of (IsSo ranges) (option_or (operand_told ranges a (shape_in_expression ranges a)) (operand_told ranges b (shape_in_expression ranges b)))
operands_so ranges a b h g =
    of_or (IsSo ranges) (operand_told ranges a (shape_in_expression ranges a)) (operand_told ranges b (shape_in_expression ranges b))
    (operand_so ranges a (shape_in_expression ranges a) h) (operand_so ranges b (shape_in_expression ranges b) g)

expression_so : (ranges : List NamedRange) (e : Expression) → Of (IsSo ranges) (shape_in_expression ranges e)
expression_so ranges (expression.Number n) = tt
expression_so ranges (expression.Text t) = tt
expression_so ranges expression.Null = tt
expression_so ranges (expression.Column c) = tt
expression_so ranges (group a) = expression_so ranges a
expression_so ranges (signed s a) = operand_so ranges a (shape_in_expression ranges a) (expression_so ranges a)
expression_so ranges (product a b) = operands_so ranges a b (expression_so ranges a) (expression_so ranges b)
expression_so ranges (sum s a b) = operands_so ranges a b (expression_so ranges a) (expression_so ranges b)

comparison_so : (ranges : List NamedRange) (a b : Expression) → Of (IsSo ranges) (shape_in_comparison ranges a b)
unfolding shape_in_comparison
comparison_so ranges a b =
    of_or (IsSo ranges) (told_if (clash ranges a b) (comparison_fault a b)) (option_or (shape_in_expression ranges a) (shape_in_expression ranges b))
    (of_if (IsSo ranges) (clash ranges a b) (comparison_fault a b) (λ h. h))
    (of_or (IsSo ranges) (shape_in_expression ranges a) (shape_in_expression ranges b) (expression_so ranges a) (expression_so ranges b))

-- in the ranges themselves, without a FROM inside
here : (names : Names) (ranges : List NamedRange) (o : Option ShapeFault) → Of (IsSo ranges) o → Of (IsSoWithin names ranges) o
here names ranges o h = of_more (IsSo ranges) (IsSoWithin names ranges) (λ f s. ([], s)) o h

innermost_last : (names : Names) (ranges : List NamedRange) (r : RangeName) (froms : List RangeName)
    → map (range_of names) froms ++ (range_of names r ∷ ranges) ≡ map (range_of names) (froms ++ r ∷ []) ++ ranges
innermost_last names ranges r [] = refl
innermost_last names ranges r (x ∷ froms) = ap (λ (rs : List NamedRange). range_of names x ∷ rs) (innermost_last names ranges r froms)

-- inside of one FROM more
outward : (names : Names) (ranges : List NamedRange) (r : RangeName) (o : Option ShapeFault) → Of (IsSoWithin names (range_of names r ∷ ranges)) o → Of (IsSoWithin names ranges) o
outward names ranges r o h =
    of_more (IsSoWithin names (range_of names r ∷ ranges)) (IsSoWithin names ranges)
    (λ f s. (s.0 ++ r ∷ [], subst (λ (rs : List NamedRange). IsSo rs f) (innermost_last names ranges r s.0) s.1)) o h

condition_so : (names : Names) (ranges : List NamedRange) (c : Condition) → Of (IsSoWithin names ranges) (shape_in_condition names ranges c)
unfolding shape_in_condition
condition_so names ranges (condition.Compare op a b) = here names ranges (shape_in_comparison ranges a b) (comparison_so ranges a b)
condition_so names ranges (condition.IsNull a) = here names ranges (shape_in_expression ranges a) (expression_so ranges a)
condition_so names ranges (condition.IsNotNull a) = here names ranges (shape_in_expression ranges a) (expression_so ranges a)
condition_so names ranges (condition.Exists r) = tt
condition_so names ranges (exists_where r a) = outward names ranges r (shape_in_condition names (range_of names r ∷ ranges) a) (condition_so names (range_of names r ∷ ranges) a)
condition_so names ranges (enclosed a) = condition_so names ranges a
condition_so names ranges (negated a) = condition_so names ranges a
condition_so names ranges (both a b) =
    of_or (IsSoWithin names ranges) (shape_in_condition names ranges a) (shape_in_condition names ranges b) (condition_so names ranges a) (condition_so names ranges b)
condition_so names ranges (either a b) =
    of_or (IsSoWithin names ranges) (shape_in_condition names ranges a) (shape_in_condition names ranges b) (condition_so names ranges a) (condition_so names ranges b)

filter_so : (names : Names) (ranges : List NamedRange) (c : Option Condition) → Of (IsSoWithin names ranges) (shape_in_filter names ranges c)
filter_so names ranges None = tt
filter_so names ranges (Some c) = condition_so names ranges c

-- ---- values for columns

value_so : (table column : List ℕ) (kind : Option ColumnType) (ranges : List NamedRange) (e : Expression) → Of (IsSo ranges) (value_told table column kind ranges e)
value_so table column None ranges e = tt
value_so table column (Some kind) ranges e = of_if (IsSo ranges) (clashes_with (Some kind) ranges e) (value_fault table column kind e) (λ h. h)

given_expression_so : (table : List ℕ) (t : Target) (ranges : List NamedRange) (e : Expression) → Of (IsSo ranges) (shape_of_expression table t ranges e)
unfolding shape_of_expression
given_expression_so table t ranges e =
    of_or (IsSo ranges) (value_told table t.name t.kind ranges e) (shape_in_expression ranges e) (value_so table t.name t.kind ranges e) (expression_so ranges e)

given_value_so : (table : List ℕ) (t : Target) (ranges : List NamedRange) (v : ValueOrDefault) → Of (IsSo ranges) (shape_of_value table t ranges v)
unfolding shape_of_value
given_value_so table t ranges (value.Value e) = given_expression_so table t ranges e
given_value_so table t ranges value.Default = tt

values_so : (table : List ℕ) (targets : List Target) (ranges : List NamedRange) (tuple : List ValueOrDefault) → Of (IsSo ranges) (shape_of_values table targets ranges tuple)
unfolding shape_of_values
values_so table targets ranges tuple =
    of_first (IsSo ranges) (λ (p : Target × ValueOrDefault). shape_of_value table p.0 ranges p.1) (λ p. given_value_so table p.0 ranges p.1) (zip targets tuple)

tuple_so : (table : List ℕ) (targets : List Target) (ranges : List NamedRange) (number : ℕ) (tuple : List ValueOrDefault) → Of (IsSo ranges) (shape_of_tuple table targets ranges number tuple)
unfolding shape_of_tuple
tuple_so table targets ranges number tuple =
    of_or (IsSo ranges) (told_if (not (length tuple == length targets)) (tuple_count table number (length targets) (length tuple))) (shape_of_values table targets ranges tuple)
    (of_if (IsSo ranges) (not (length tuple == length targets)) (tuple_count table number (length targets) (length tuple)) (not-true (length tuple == length targets)))
    (values_so table targets ranges tuple)

tuples_so : (table : List ℕ) (targets : List Target) (ranges : List NamedRange) (number : ℕ) (tuples : List (List ValueOrDefault)) → Of (IsSo ranges) (shape_of_tuples table targets ranges number tuples)
tuples_so table targets ranges number [] = tt
tuples_so table targets ranges number (tuple ∷ tuples) =
    of_or (IsSo ranges) (shape_of_tuple table targets ranges number tuple) (shape_of_tuples table targets ranges (number + 1) tuples) (tuple_so table targets ranges number tuple)
    (tuples_so table targets ranges (number + 1) tuples)

-- ---- the query of an INSERT

count_so : (ranges : List NamedRange) (table : List ℕ) (targets : List Target) (values : ℕ) → Of (IsSo ranges) (shape_of_count table targets values)
count_so ranges table targets values = of_if (IsSo ranges) (not (values == length targets)) (query_count table (length targets) values) (not-true (values == length targets))

column_so : (ranges : List NamedRange) (table column : List ℕ) (kind : Option ColumnType) (from : List ℕ) (c : NamedColumn) → Of (IsSo ranges) (column_told table column kind from c)
column_so ranges table column None from c = tt
column_so ranges table column (Some kind) from c = of_if (IsSo ranges) (kinds_clash (Some kind) c.kind) (column_fault table column kind from c.name c.kind) (λ h. h)

given_column_so : (ranges : List NamedRange) (table : List ℕ) (t : Target) (from : List ℕ) (c : NamedColumn) → Of (IsSo ranges) (shape_of_column table t from c)
unfolding shape_of_column
given_column_so ranges table t from c = column_so ranges table t.name t.kind from c

columns_so : (ranges : List NamedRange) (table : List ℕ) (targets : List Target) (from : List ℕ) (columns : List NamedColumn) → Of (IsSo ranges) (shape_of_columns table targets from columns)
unfolding shape_of_columns
columns_so ranges table targets from columns =
    of_first (IsSo ranges) (λ (p : Target × NamedColumn). shape_of_column table p.0 from p.1) (λ p. given_column_so ranges table p.0 from p.1) (zip targets columns)

expressions_so : (table : List ℕ) (targets : List Target) (ranges : List NamedRange) (es : List Expression) → Of (IsSo ranges) (shape_of_expressions table targets ranges es)
unfolding shape_of_expressions
expressions_so table targets ranges es =
    of_first (IsSo ranges) (λ (p : Target × Expression). shape_of_expression table p.0 ranges p.1) (λ p. given_expression_so table p.0 ranges p.1) (zip targets es)

list_so : (table : List ℕ) (targets : List Target) (from : List ℕ) (columns : List NamedColumn) (ranges : List NamedRange) (l : SelectList)
    → Of (IsSo ranges) (shape_of_list table targets from columns ranges l)
unfolding shape_of_list
list_so table targets from columns ranges list.Star =
    of_or (IsSo ranges) (shape_of_count table targets (length columns)) (shape_of_columns table targets from columns) (count_so ranges table targets (length columns))
    (columns_so ranges table targets from columns)
list_so table targets from columns ranges (list.Values es) =
    of_or (IsSo ranges) (shape_of_count table targets (length es)) (shape_of_expressions table targets ranges es) (count_so ranges table targets (length es)) (expressions_so table targets ranges es)

source_so : (table : List ℕ) (targets : List Target) (names : Names) (ranges : List NamedRange) (s : InsertSource) → Of (IsSoWithin names ranges) (shape_of_source table targets names ranges s)
unfolding shape_of_source
source_so table targets names ranges (source.Values tuples) = here names ranges (shape_of_tuples table targets ranges 1 tuples) (tuples_so table targets ranges 1 tuples)
source_so table targets names ranges (source.Select l r filter) =
    of_or (IsSoWithin names ranges) (shape_of_list table targets r.table (source_columns names r.table) (range_of names r ∷ ranges) l) (shape_in_filter names (range_of names r ∷ ranges) filter)
    (outward names ranges r (shape_of_list table targets r.table (source_columns names r.table) (range_of names r ∷ ranges) l)
    (here names (range_of names r ∷ ranges) (shape_of_list table targets r.table (source_columns names r.table) (range_of names r ∷ ranges) l)
    (list_so table targets r.table (source_columns names r.table) (range_of names r ∷ ranges) l)))
    (outward names ranges r (shape_in_filter names (range_of names r ∷ ranges) filter) (filter_so names (range_of names r ∷ ranges) filter))

-- ---- INSERT, UPDATE, DELETE, SELECT and SET

insert_so : (names : Names) (ranges : List NamedRange) (i : Insert) → Of (IsSoWithin names ranges) (shape_in_insert names ranges i)
insert_so names ranges (insert.DefaultValues table) = tt
insert_so names ranges (insert.Rows table columns s) = source_so table (targets_of (target_columns names table) columns) names ranges s

assignment_so : (table : List ℕ) (columns : List NamedColumn) (ranges : List NamedRange) (a : Assignment) → Of (IsSo ranges) (shape_in_assignment table columns ranges a)
unfolding shape_in_assignment
assignment_so table columns ranges a = given_value_so table (record { name = a.column; kind = type_named columns a.column }) ranges a.value

update_so : (names : Names) (ranges : List NamedRange) (u : Update) → Of (IsSoWithin names (target_ranges names u.table ranges)) (shape_in_update names ranges u)
update_so names ranges u =
    of_or (IsSoWithin names (target_ranges names u.table ranges)) (first_of (shape_in_assignment u.table (target_columns names u.table) (target_ranges names u.table ranges)) u.assignments)
    (shape_in_filter names (target_ranges names u.table ranges) u.filter)
    (here names (target_ranges names u.table ranges) (first_of (shape_in_assignment u.table (target_columns names u.table) (target_ranges names u.table ranges)) u.assignments)
    (of_first (IsSo (target_ranges names u.table ranges)) (shape_in_assignment u.table (target_columns names u.table) (target_ranges names u.table ranges))
    (assignment_so u.table (target_columns names u.table) (target_ranges names u.table ranges)) u.assignments))
    (filter_so names (target_ranges names u.table ranges) u.filter)

listed_so : (ranges : List NamedRange) (l : SelectList) → Of (IsSo ranges) (shape_in_list ranges l)
listed_so ranges list.Star = tt
listed_so ranges (list.Values es) = of_first (IsSo ranges) (shape_in_expression ranges) (expression_so ranges) es

query_so : (names : Names) (ranges : List NamedRange) (l : SelectList) (r : RangeName) (filter : Option Condition) → Of (IsSoWithin names ranges) (shape_in_query names ranges l r filter)
query_so names ranges l r filter =
    of_or (IsSoWithin names ranges) (shape_in_list (range_of names r ∷ ranges) l) (shape_in_filter names (range_of names r ∷ ranges) filter)
    (outward names ranges r (shape_in_list (range_of names r ∷ ranges) l) (here names (range_of names r ∷ ranges) (shape_in_list (range_of names r ∷ ranges) l) (listed_so (range_of names r ∷ ranges) l)))
    (outward names ranges r (shape_in_filter names (range_of names r ∷ ranges) filter) (filter_so names (range_of names r ∷ ranges) filter))

select_so : (names : Names) (ranges : List NamedRange) (s : Select) → Of (IsSoWithin names ranges) (shape_in_select names ranges s)
select_so names ranges (select.Count r filter) = query_so names ranges list.Star r filter
select_so names ranges (select.Rows l r filter) = query_so names ranges l r filter

set_told_so : (v column : List ℕ) (kind : Option ColumnType) (ranges : List NamedRange) (e : Expression) → Of (IsSo ranges) (set_told v column kind ranges e)
set_told_so v column None ranges e = tt
set_told_so v column (Some kind) ranges e = of_if (IsSo ranges) (clashes_with (Some kind) ranges e) (set_fault v column kind e) (λ h. h)

set_so : (names : Names) (variables : List NamedRange) (v column : List ℕ) (e : Expression) → Of (IsSo variables) (shape_in_set names variables v column e)
unfolding shape_in_set
set_so names variables v column e =
    of_or (IsSo variables) (set_told v column (type_named names.subject column) variables e) (shape_in_expression variables e)
    (set_told_so v column (type_named names.subject column) variables e) (expression_so variables e)

-- ---- the tuple that is told

abbrev is_count : ShapeFault → Bool
is_count (tuple_count table number columns values) = true
is_count _ = false

abbrev NoCount : ShapeFault → Type 0
NoCount f = is_count f ≡ false

operand_counts : (ranges : List NamedRange) (e : Expression) (inside : Option ShapeFault) → Of NoCount inside → Of NoCount (operand_told ranges e inside)
unfolding operand_told
operand_counts ranges e inside h = of_or NoCount (told_if (is_text ranges e) (operand_fault e)) inside (of_if NoCount (is_text ranges e) (operand_fault e) (λ t. refl)) h

operands_count : (ranges : List NamedRange) (a b : Expression) → Of NoCount (shape_in_expression ranges a) → Of NoCount (shape_in_expression ranges b)
    → Of NoCount (option_or (operand_told ranges a (shape_in_expression ranges a)) (operand_told ranges b (shape_in_expression ranges b)))
operands_count ranges a b h g =
    of_or NoCount (operand_told ranges a (shape_in_expression ranges a)) (operand_told ranges b (shape_in_expression ranges b))
    (operand_counts ranges a (shape_in_expression ranges a) h) (operand_counts ranges b (shape_in_expression ranges b) g)

expression_counts : (ranges : List NamedRange) (e : Expression) → Of NoCount (shape_in_expression ranges e)
expression_counts ranges (expression.Number n) = tt
expression_counts ranges (expression.Text t) = tt
expression_counts ranges expression.Null = tt
expression_counts ranges (expression.Column c) = tt
expression_counts ranges (group a) = expression_counts ranges a
expression_counts ranges (signed s a) = operand_counts ranges a (shape_in_expression ranges a) (expression_counts ranges a)
expression_counts ranges (product a b) = operands_count ranges a b (expression_counts ranges a) (expression_counts ranges b)
expression_counts ranges (sum s a b) = operands_count ranges a b (expression_counts ranges a) (expression_counts ranges b)

value_counts : (table column : List ℕ) (kind : Option ColumnType) (ranges : List NamedRange) (e : Expression) → Of NoCount (value_told table column kind ranges e)
value_counts table column None ranges e = tt
value_counts table column (Some kind) ranges e = of_if NoCount (clashes_with (Some kind) ranges e) (value_fault table column kind e) (λ h. refl)

given_counts : (table : List ℕ) (t : Target) (ranges : List NamedRange) (v : ValueOrDefault) → Of NoCount (shape_of_value table t ranges v)
unfolding shape_of_value shape_of_expression
given_counts table t ranges (value.Value e) =
    of_or NoCount (value_told table t.name t.kind ranges e) (shape_in_expression ranges e) (value_counts table t.name t.kind ranges e) (expression_counts ranges e)
given_counts table t ranges value.Default = tt

values_count : (table : List ℕ) (targets : List Target) (ranges : List NamedRange) (tuple : List ValueOrDefault) → Of NoCount (shape_of_values table targets ranges tuple)
unfolding shape_of_values
values_count table targets ranges tuple =
    of_first NoCount (λ (p : Target × ValueOrDefault). shape_of_value table p.0 ranges p.1) (λ p. given_counts table p.0 ranges p.1) (zip targets tuple)

-- the three numbers of a count
abbrev number_of : ShapeFault → ℕ
number_of (tuple_count table number columns values) = number
number_of _ = 0

abbrev columns_of : ShapeFault → ℕ
columns_of (tuple_count table number columns values) = columns
columns_of _ = 0

abbrev values_of : ShapeFault → ℕ
values_of (tuple_count table number columns values) = values
values_of _ = 0

-- a tuple after so many others
record CountedFrom (targets : List Target) (tuples : List (List ValueOrDefault)) (from number columns values : ℕ) : Type 0 where
  tuple : List ValueOrDefault
  place : ℕ
  counted : number ≡ place + from
  there : slice_get tuples place ≡ Some tuple
  columns_are : columns ≡ length targets
  values_are : values ≡ length tuple
  differ : (length tuple == length targets) ≡ false

first_counted : (table : List ℕ) (targets : List Target) (values : Option ShapeFault) (more : List (List ValueOrDefault)) (tuple : List ValueOrDefault) (told : List ℕ) (from number columns count : ℕ)
    → Of NoCount values → (b : Bool) → (length tuple == length targets) ≡ b
    → option_or (told_if (not b) (tuple_count table from (length targets) (length tuple))) values ≡ Some (tuple_count told number columns count)
    → CountedFrom targets (tuple ∷ more) from number columns count
first_counted table targets values more tuple told from number columns count none true e h =
    let n : true ≡ false = taken NoCount values (tuple_count told number columns count) none h in cc
first_counted table targets values more tuple told from number columns count none false e h =
    let same : tuple_count table from (length targets) (length tuple) ≡ tuple_count told number columns count = same_Some _ _ h in
    record {
      tuple = tuple;
      place = 0;
      counted = let start : from ≡ 0 + from = omega arith in sym (ap number_of same) ∙ start;
      there = refl;
      columns_are = sym (ap columns_of same);
      values_are = sym (ap values_of same);
      differ = e;
    }

counted : (table : List ℕ) (targets : List Target) (ranges : List NamedRange) (tuples : List (List ValueOrDefault)) (told : List ℕ) (from number columns count : ℕ)
    → shape_of_tuples table targets ranges from tuples ≡ Some (tuple_count told number columns count) → CountedFrom targets tuples from number columns count
unfolding shape_of_tuple
counted table targets ranges [] told from number columns count h = cc
counted table targets ranges (tuple ∷ tuples) told from number columns count h =
    by (shape_of_tuple table targets ranges from tuple) refl (counted table targets ranges tuples told (from + 1) number columns count)
  where
    by : (o : Option ShapeFault) → shape_of_tuple table targets ranges from tuple ≡ o
        → (shape_of_tuples table targets ranges (from + 1) tuples ≡ Some (tuple_count told number columns count) → CountedFrom targets tuples (from + 1) number columns count)
        → CountedFrom targets (tuple ∷ tuples) from number columns count
    by None e rest =
        let later = rest (sym (ap (λ (o : Option ShapeFault). option_or o (shape_of_tuples table targets ranges (from + 1) tuples)) e) ∙ h) in
        record {
          tuple = later.tuple;
          place = suc later.place;
          counted = let further : later.place + (from + 1) ≡ suc later.place + from = omega arith in later.counted ∙ further;
          there = later.there;
          columns_are = later.columns_are;
          values_are = later.values_are;
          differ = later.differ;
        }
    by (Some f) e rest =
        first_counted table targets (shape_of_values table targets ranges tuple) tuples tuple told from number columns count (values_count table targets ranges tuple)
        (length tuple == length targets) refl (e ∙ sym (ap (λ (o : Option ShapeFault). option_or o (shape_of_tuples table targets ranges (from + 1) tuples)) e) ∙ h)

miscounted : (table : List ℕ) (targets : List Target) (ranges : List NamedRange) (tuples : List (List ValueOrDefault)) (told : List ℕ) (number columns values : ℕ)
    → shape_of_tuples table targets ranges 1 tuples ≡ Some (tuple_count told number columns values) → TupleMiscounted targets tuples number columns values
miscounted table targets ranges tuples told number columns values h =
    let c = counted table targets ranges tuples told 1 number columns values h in
    record { tuple = c.tuple; place = c.place; counted = c.counted; there = c.there; columns_are = c.columns_are; values_are = c.values_are; differ = c.differ }

pub shapes_so : ShapesAreSo
shapes_so = record {
  expression = λ ranges e f h. taken (IsSo ranges) (shape_in_expression ranges e) f (expression_so ranges e) h;
  condition = λ names ranges c f h. taken (IsSoWithin names ranges) (shape_in_condition names ranges c) f (condition_so names ranges c) h;
  insert = λ names ranges i f h. taken (IsSoWithin names ranges) (shape_in_insert names ranges i) f (insert_so names ranges i) h;
  update = λ names ranges u f h. taken (IsSoWithin names (target_ranges names u.table ranges)) (shape_in_update names ranges u) f (update_so names ranges u) h;
  delete = λ names ranges d f h. taken (IsSoWithin names (target_ranges names d.table ranges)) (shape_in_delete names ranges d) f (filter_so names (target_ranges names d.table ranges) d.filter) h;
  select = λ names ranges s f h. taken (IsSoWithin names ranges) (shape_in_select names ranges s) f (select_so names ranges s) h;
  set = λ names variables v column e f h. taken (IsSo variables) (shape_in_set names variables v column e) f (set_so names variables v column e) h;
  tuples = miscounted;
}
