-- What doesn't suit is told exactly of the statements that deserve WrongShape.
use Rattle.std.proofs.Common.{◌≡◌, refl, ap, ◌∙◌, sym, ℕ, suc, ◌+◌, Bool, true, false, not, ◌||◌, ◌==◌, List, [], ◌∷◌, length, map, zip, Option, Some, None, is_some, slice_get, arith}
use Rattle.std.proofs.lemmas.List.{length-map}
use Rattle.std.proofs.lemmas.Bool.{eqb-true}
use Rattle.std.specs.List.{list_any}
use Rattle.std.specs.Option.{option_or}
use Rattle.iv_syntax.specs.declared.table.ColumnType.{ColumnType}
use Rattle.iv_syntax.specs.declared.tree.RangeName.{RangeName}
use Rattle.iv_syntax.specs.declared.tree.Expression.{Expression}
use Rattle.iv_syntax.specs.declared.tree.Expression.TheVariants as expression
use Rattle.iv_syntax.specs.declared.tree.Condition.{Condition}
use Rattle.iv_syntax.specs.declared.tree.Condition.TheVariants as condition
use Rattle.iv_syntax.specs.declared.statement.Assignment.{Assignment}
use Rattle.iv_syntax.specs.declared.statement.Delete.{Delete}
use Rattle.iv_syntax.specs.declared.statement.Insert.{Insert}
use Rattle.iv_syntax.specs.declared.statement.Insert.TheVariants as insert
use Rattle.iv_syntax.specs.declared.statement.InsertSource.{InsertSource}
use Rattle.iv_syntax.specs.declared.statement.InsertSource.TheVariants as source
use Rattle.iv_syntax.specs.declared.statement.Select.{Select}
use Rattle.iv_syntax.specs.declared.statement.Select.TheVariants as select
use Rattle.iv_syntax.specs.declared.statement.SelectList.{SelectList}
use Rattle.iv_syntax.specs.declared.statement.SelectList.TheVariants as list
use Rattle.iv_syntax.specs.declared.statement.Statement.{Statement}
use Rattle.iv_syntax.specs.declared.statement.Statement.TheVariants as statement
use Rattle.iv_syntax.specs.declared.statement.Update.{Update}
use Rattle.iv_syntax.specs.declared.statement.ValueOrDefault.{ValueOrDefault}
use Rattle.iv_syntax.specs.declared.statement.ValueOrDefault.TheVariants as value
use Rattle.iv_syntax.specs.declared.trigger.TriggerAction.{TriggerAction}
use Rattle.iv_syntax.specs.declared.trigger.TriggerAction.TheVariants as action
use Rattle.iv_syntax.specs.declared.trigger.TriggerDefinition.{TriggerDefinition}
use Rattle.iv_syntax.specs.Trees.{group, signed, product, sum, enclosed, negated, both, either, exists_where}
use Rattle.iv_catalogue.specs.declared.catalogue.Table.{Table}
use Rattle.iv_catalogue.specs.Catalogues.{Schema}
use Rattle.iv_resolution.specs.Scopes.{NamedColumn, NamedRange, Names, type_named, source_columns, range_of, table_place}
use Rattle.iv_resolution.specs.Terms.{is_text, clash, some_text, misshaped_expression, misshaped_condition, misshaped_filter}
use Rattle.iv_resolution.specs.Changes.{target_columns, target_ranges, clashes_with, value_clashes, misshaped_value, target_types, tuple_clashes, misshaped_tuple, kinds_clash, values_clash, columns_clash, list_clashes, misshaped_list, misshaped_query}
use Rattle.iv_resolution.specs.Changes.{misshaped_source, misshaped_insert, misshaped_assignment, misshaped_update, misshaped_delete, misshaped_select}
use Rattle.iv_resolution.specs.Constraints.{WrittenRule, not_null, unique, primary_key, check, foreign_key, WrittenConstraint, written_constraints, table_constraint, Altered}
use Rattle.iv_resolution.specs.Tables.{created_table, creating, table_names, check_ranges, altered_at, misshaped_rule}
use Rattle.iv_resolution.specs.Triggers.{trigger_names, trigger_variables, misshaped_action}
use Rattle.iv_resolution.specs.Resolution.{is_misshaped, of_altered}
use Rattle.iv_resolution.specs.Items.{told_if, first_of}
use Rattle.iv_resolution.specs.NameFaults.{told_of_altered}
use Rattle.iv_resolve_reasons.specs.Shapes.{ShapeFault, operand_fault, comparison_fault, tuple_count, operand_told, shape_in_expression, shape_in_comparison, shape_in_condition, shape_in_filter, Target, targets_of}
use Rattle.iv_resolve_reasons.specs.Shapes.{value_told, shape_of_expression, shape_of_value, shape_of_values, shape_of_tuple, shape_of_tuples, column_told, shape_of_column, shape_of_columns, shape_of_expressions, shape_of_count, shape_of_list, shape_of_source}
use Rattle.iv_resolve_reasons.specs.Shapes.{shape_in_insert, shape_in_assignment, shape_in_update, shape_in_delete, shape_in_list, shape_in_query, shape_in_select, set_told, shape_in_set, shape_in_action, shape_in_rule, shape_fault}
use Rattle.iv_resolve_reasons.specs.Laws.{ShapesAreTold}

-- ---- what is told of two, of a list, of a test

pub some_or : {A : Type 0} (a b : Option A) → is_some (option_or a b) ≡ (is_some a || is_some b)
some_or None b = refl
some_or (Some x) b = refl

pub some_if : {A : Type 0} (b : Bool) (x : A) → is_some (told_if b x) ≡ b
some_if true x = refl
some_if false x = refl

either_same : (a b c d : Bool) → a ≡ c → b ≡ d → (a || b) ≡ (c || d)
either_same a b c d h g = ap (λ x. x || b) h ∙ ap (λ x. c || x) g

-- two that are told as these tests say
pub or_told : {A : Type 0} (a b : Option A) (c d : Bool) → is_some a ≡ c → is_some b ≡ d → is_some (option_or a b) ≡ (c || d)
or_told a b c d h g = some_or a b ∙ either_same (is_some a) (is_some b) c d h g

pub first_told : {A B : Type 0} (f : A → Option B) (g : A → Bool) → ((x : A) → is_some (f x) ≡ g x) → (xs : List A) → is_some (first_of f xs) ≡ list_any g xs
first_told f g h [] = refl
first_told f g h (x ∷ xs) = or_told (f x) (first_of f xs) (g x) (list_any g xs) (h x) (first_told f g h xs)

-- ---- orders of the same tests

two_each : (a b c d : Bool) → ((a || b) || (c || d)) ≡ ((a || c) || (b || d))
two_each true b c d = refl
two_each false true true d = refl
two_each false true false d = refl
two_each false false c d = refl

regroup : (a b c : Bool) → ((a || b) || c) ≡ (a || (b || c))
regroup true b c = refl
regroup false b c = refl

-- ---- value expressions and search conditions

operand_is : (ranges : List NamedRange) (e : Expression) (inside : Option ShapeFault) (b : Bool) → is_some inside ≡ b → is_some (operand_told ranges e inside) ≡ (is_text ranges e || b)
unfolding operand_told
operand_is ranges e inside b h = or_told (told_if (is_text ranges e) (operand_fault e)) inside (is_text ranges e) b (some_if (is_text ranges e) (operand_fault e)) h

operands_are : (ranges : List NamedRange) (a b : Expression) (x y : Option ShapeFault) (p q : Bool) → is_some x ≡ p → is_some y ≡ q
    → is_some (option_or (operand_told ranges a x) (operand_told ranges b y)) ≡ (some_text ranges a b || (p || q))
unfolding some_text
operands_are ranges a b x y p q h g =
    or_told (operand_told ranges a x) (operand_told ranges b y) (is_text ranges a || p) (is_text ranges b || q) (operand_is ranges a x p h) (operand_is ranges b y q g)
    ∙ two_each (is_text ranges a) p (is_text ranges b) q

pub expression_told : (ranges : List NamedRange) (e : Expression) → is_some (shape_in_expression ranges e) ≡ misshaped_expression ranges e
expression_told ranges (expression.Number n) = refl
expression_told ranges (expression.Text t) = refl
expression_told ranges expression.Null = refl
expression_told ranges (expression.Column c) = refl
expression_told ranges (group a) = expression_told ranges a
expression_told ranges (signed s a) = operand_is ranges a (shape_in_expression ranges a) (misshaped_expression ranges a) (expression_told ranges a)
expression_told ranges (product a b) =
    operands_are ranges a b (shape_in_expression ranges a) (shape_in_expression ranges b) (misshaped_expression ranges a) (misshaped_expression ranges b) (expression_told ranges a) (expression_told ranges b)
expression_told ranges (sum s a b) =
    operands_are ranges a b (shape_in_expression ranges a) (shape_in_expression ranges b) (misshaped_expression ranges a) (misshaped_expression ranges b) (expression_told ranges a) (expression_told ranges b)

comparison_is : (ranges : List NamedRange) (a b : Expression) → is_some (shape_in_comparison ranges a b) ≡ (clash ranges a b || (misshaped_expression ranges a || misshaped_expression ranges b))
unfolding shape_in_comparison
comparison_is ranges a b =
    or_told (told_if (clash ranges a b) (comparison_fault a b)) (option_or (shape_in_expression ranges a) (shape_in_expression ranges b)) (clash ranges a b)
    (misshaped_expression ranges a || misshaped_expression ranges b) (some_if (clash ranges a b) (comparison_fault a b))
    (or_told (shape_in_expression ranges a) (shape_in_expression ranges b) (misshaped_expression ranges a) (misshaped_expression ranges b) (expression_told ranges a) (expression_told ranges b))

pub condition_told : (names : Names) (ranges : List NamedRange) (c : Condition) → is_some (shape_in_condition names ranges c) ≡ misshaped_condition names ranges c
unfolding shape_in_condition misshaped_condition
condition_told names ranges (condition.Compare op a b) = comparison_is ranges a b
condition_told names ranges (condition.IsNull a) = expression_told ranges a
condition_told names ranges (condition.IsNotNull a) = expression_told ranges a
condition_told names ranges (condition.Exists r) = refl
condition_told names ranges (exists_where r a) = condition_told names (range_of names r ∷ ranges) a
condition_told names ranges (enclosed a) = condition_told names ranges a
condition_told names ranges (negated a) = condition_told names ranges a
condition_told names ranges (both a b) =
    or_told (shape_in_condition names ranges a) (shape_in_condition names ranges b) (misshaped_condition names ranges a) (misshaped_condition names ranges b) (condition_told names ranges a) (condition_told names ranges b)
condition_told names ranges (either a b) =
    or_told (shape_in_condition names ranges a) (shape_in_condition names ranges b) (misshaped_condition names ranges a) (misshaped_condition names ranges b) (condition_told names ranges a) (condition_told names ranges b)

pub filter_told : (names : Names) (ranges : List NamedRange) (c : Option Condition) → is_some (shape_in_filter names ranges c) ≡ misshaped_filter names ranges c
filter_told names ranges None = refl
filter_told names ranges (Some c) = condition_told names ranges c

-- ---- values for columns

value_is : (table column : List ℕ) (kind : Option ColumnType) (ranges : List NamedRange) (e : Expression) → is_some (value_told table column kind ranges e) ≡ clashes_with kind ranges e
unfolding clashes_with
value_is table column None ranges e = refl
value_is table column (Some kind) ranges e = some_if _ _

given_expression : (table : List ℕ) (t : Target) (ranges : List NamedRange) (e : Expression)
    → is_some (shape_of_expression table t ranges e) ≡ (clashes_with t.kind ranges e || misshaped_expression ranges e)
unfolding shape_of_expression
given_expression table t ranges e =
    or_told (value_told table t.name t.kind ranges e) (shape_in_expression ranges e) (clashes_with t.kind ranges e) (misshaped_expression ranges e)
    (value_is table t.name t.kind ranges e) (expression_told ranges e)

given_value : (table : List ℕ) (t : Target) (ranges : List NamedRange) (v : ValueOrDefault)
    → is_some (shape_of_value table t ranges v) ≡ (value_clashes t.kind ranges v || misshaped_value ranges v)
unfolding shape_of_value value_clashes misshaped_value
given_value table t ranges (value.Value e) = given_expression table t ranges e
given_value table t ranges value.Default = refl

column_is : (table column : List ℕ) (kind : Option ColumnType) (from : List ℕ) (c : NamedColumn) → is_some (column_told table column kind from c) ≡ kinds_clash kind c.kind
unfolding kinds_clash
column_is table column None from c = refl
column_is table column (Some kind) from c = some_if _ _

given_column : (table : List ℕ) (t : Target) (from : List ℕ) (c : NamedColumn) → is_some (shape_of_column table t from c) ≡ kinds_clash t.kind c.kind
unfolding shape_of_column
given_column table t from c = column_is table t.name t.kind from c

-- the types of the columns that there are values for
abbrev kinds : List Target → List (Option ColumnType)
kinds targets = map (λ (t : Target). t.kind) targets

kinds_are : (columns : List NamedColumn) (listed : Option (List (List ℕ))) → kinds (targets_of columns listed) ≡ target_types columns listed
kinds_are columns None = by columns
  where
    by : (cs : List NamedColumn) → kinds (targets_of cs None) ≡ target_types cs None
    by [] = refl
    by (c ∷ cs) = ap (λ (ks : List (Option ColumnType)). Some c.kind ∷ ks) (by cs)
kinds_are columns (Some names) = by names
  where
    by : (ns : List (List ℕ)) → kinds (targets_of columns (Some ns)) ≡ target_types columns (Some ns)
    by [] = refl
    by (n ∷ ns) = ap (λ (ks : List (Option ColumnType)). type_named columns n ∷ ks) (by ns)

one_less : (m n : ℕ) → suc m ≡ suc n → m ≡ n
one_less m n h = omega (arith, h)

-- as many values as columns: each value is for one
values_told : (table : List ℕ) (targets : List Target) (ranges : List NamedRange) (tuple : List ValueOrDefault) → length tuple ≡ length targets
    → is_some (shape_of_values table targets ranges tuple) ≡ (tuple_clashes (kinds targets) ranges tuple || list_any (misshaped_value ranges) tuple)
unfolding shape_of_values tuple_clashes
values_told table [] ranges [] h = refl
values_told table [] ranges (v ∷ vs) h = absurd (omega (arith, h))
values_told table (t ∷ ts) ranges [] h = absurd (omega (arith, h))
values_told table (t ∷ ts) ranges (v ∷ vs) h =
    or_told (shape_of_value table t ranges v) (first_of (λ (p : Target × ValueOrDefault). shape_of_value table p.0 ranges p.1) (zip ts vs)) (value_clashes t.kind ranges v || misshaped_value ranges v)
    (list_any (λ (p : Option ColumnType × ValueOrDefault). value_clashes p.0 ranges p.1) (zip (kinds ts) vs) || list_any (misshaped_value ranges) vs)
    (given_value table t ranges v) (values_told table ts ranges vs (one_less (length vs) (length ts) h))
    ∙ two_each (value_clashes t.kind ranges v) (misshaped_value ranges v) (list_any (λ (p : Option ColumnType × ValueOrDefault). value_clashes p.0 ranges p.1) (zip (kinds ts) vs)) (list_any (misshaped_value ranges) vs)

expressions_told : (table : List ℕ) (targets : List Target) (ranges : List NamedRange) (es : List Expression) → length es ≡ length targets
    → is_some (shape_of_expressions table targets ranges es) ≡ (values_clash (kinds targets) ranges es || list_any (misshaped_expression ranges) es)
unfolding shape_of_expressions values_clash
expressions_told table [] ranges [] h = refl
expressions_told table [] ranges (e ∷ es) h = absurd (omega (arith, h))
expressions_told table (t ∷ ts) ranges [] h = absurd (omega (arith, h))
expressions_told table (t ∷ ts) ranges (e ∷ es) h =
    or_told (shape_of_expression table t ranges e) (first_of (λ (p : Target × Expression). shape_of_expression table p.0 ranges p.1) (zip ts es)) (clashes_with t.kind ranges e || misshaped_expression ranges e)
    (list_any (λ (p : Option ColumnType × Expression). clashes_with p.0 ranges p.1) (zip (kinds ts) es) || list_any (misshaped_expression ranges) es)
    (given_expression table t ranges e) (expressions_told table ts ranges es (one_less (length es) (length ts) h))
    ∙ two_each (clashes_with t.kind ranges e) (misshaped_expression ranges e) (list_any (λ (p : Option ColumnType × Expression). clashes_with p.0 ranges p.1) (zip (kinds ts) es)) (list_any (misshaped_expression ranges) es)

columns_told : (table : List ℕ) (targets : List Target) (from : List ℕ) (columns : List NamedColumn) → is_some (shape_of_columns table targets from columns) ≡ columns_clash (kinds targets) columns
unfolding shape_of_columns columns_clash
columns_told table [] from columns = refl
columns_told table (t ∷ ts) from [] = refl
columns_told table (t ∷ ts) from (c ∷ cs) =
    or_told (shape_of_column table t from c) (first_of (λ (p : Target × NamedColumn). shape_of_column table p.0 from p.1) (zip ts cs)) (kinds_clash t.kind c.kind)
    (list_any (λ (p : Option ColumnType × NamedColumn). kinds_clash p.0 p.1.kind) (zip (kinds ts) cs)) (given_column table t from c) (columns_told table ts from cs)

-- a test that counts only if another holds
guarded : (b v w : Bool) → (b ≡ true → v ≡ w) → (not b || v) ≡ (not b || w)
guarded true v w h = h refl
guarded false v w h = refl

tuple_is : (table : List ℕ) (targets : List Target) (ranges : List NamedRange) (number : ℕ) (tuple : List ValueOrDefault)
    → is_some (shape_of_tuple table targets ranges number tuple) ≡ misshaped_tuple (kinds targets) ranges tuple
unfolding shape_of_tuple misshaped_tuple
tuple_is table targets ranges number tuple =
    or_told (told_if (not (length tuple == length targets)) (tuple_count table number (length targets) (length tuple))) (shape_of_values table targets ranges tuple)
    (not (length tuple == length targets)) (is_some (shape_of_values table targets ranges tuple)) (some_if _ _) refl
    ∙ guarded (length tuple == length targets) (is_some (shape_of_values table targets ranges tuple)) (tuple_clashes (kinds targets) ranges tuple || list_any (misshaped_value ranges) tuple)
    (λ e. values_told table targets ranges tuple (eqb-true (length tuple) (length targets) e))
    ∙ ap (λ n. not (length tuple == n) || (tuple_clashes (kinds targets) ranges tuple || list_any (misshaped_value ranges) tuple)) (sym (length-map targets (λ (t : Target). t.kind)))

tuples_told : (table : List ℕ) (targets : List Target) (ranges : List NamedRange) (number : ℕ) (tuples : List (List ValueOrDefault))
    → is_some (shape_of_tuples table targets ranges number tuples) ≡ list_any (misshaped_tuple (kinds targets) ranges) tuples
tuples_told table targets ranges number [] = refl
tuples_told table targets ranges number (tuple ∷ tuples) =
    or_told (shape_of_tuple table targets ranges number tuple) (shape_of_tuples table targets ranges (number + 1) tuples) (misshaped_tuple (kinds targets) ranges tuple)
    (list_any (misshaped_tuple (kinds targets) ranges) tuples) (tuple_is table targets ranges number tuple) (tuples_told table targets ranges (number + 1) tuples)

-- ---- the query of an INSERT

counted_as : (table : List ℕ) (targets : List Target) (values : ℕ) → is_some (shape_of_count table targets values) ≡ not (values == length (kinds targets))
counted_as table targets values = some_if _ _ ∙ ap (λ n. not (values == n)) (sym (length-map targets (λ (t : Target). t.kind)))

list_is : (table : List ℕ) (targets : List Target) (from : List ℕ) (columns : List NamedColumn) (ranges : List NamedRange) (l : SelectList)
    → is_some (shape_of_list table targets from columns ranges l) ≡ (list_clashes (kinds targets) columns ranges l || misshaped_list ranges l)
unfolding shape_of_list list_clashes
list_is table targets from columns ranges list.Star =
    or_told (shape_of_count table targets (length columns)) (shape_of_columns table targets from columns) (not (length columns == length (kinds targets))) (columns_clash (kinds targets) columns)
    (counted_as table targets (length columns)) (columns_told table targets from columns)
    ∙ sym (or_nothing (not (length columns == length (kinds targets)) || columns_clash (kinds targets) columns))
  where
    or_nothing : (b : Bool) → (b || false) ≡ b
    or_nothing true = refl
    or_nothing false = refl
list_is table targets from columns ranges (list.Values es) =
    or_told (shape_of_count table targets (length es)) (shape_of_expressions table targets ranges es) (not (length es == length targets)) (is_some (shape_of_expressions table targets ranges es)) (some_if _ _) refl
    ∙ guarded (length es == length targets) (is_some (shape_of_expressions table targets ranges es)) (values_clash (kinds targets) ranges es || list_any (misshaped_expression ranges) es)
    (λ e. expressions_told table targets ranges es (eqb-true (length es) (length targets) e))
    ∙ ap (λ n. not (length es == n) || (values_clash (kinds targets) ranges es || list_any (misshaped_expression ranges) es)) (sym (length-map targets (λ (t : Target). t.kind)))
    ∙ sym (regroup (not (length es == length (kinds targets))) (values_clash (kinds targets) ranges es) (list_any (misshaped_expression ranges) es))

source_is : (table : List ℕ) (targets : List Target) (names : Names) (ranges : List NamedRange) (s : InsertSource)
    → is_some (shape_of_source table targets names ranges s) ≡ misshaped_source names ranges (kinds targets) s
unfolding shape_of_source misshaped_source
source_is table targets names ranges (source.Values tuples) = tuples_told table targets ranges 1 tuples
source_is table targets names ranges (source.Select l r filter) =
    or_told (shape_of_list table targets r.table (source_columns names r.table) (range_of names r ∷ ranges) l) (shape_in_filter names (range_of names r ∷ ranges) filter)
    (list_clashes (kinds targets) (source_columns names r.table) (range_of names r ∷ ranges) l || misshaped_list (range_of names r ∷ ranges) l) (misshaped_filter names (range_of names r ∷ ranges) filter)
    (list_is table targets r.table (source_columns names r.table) (range_of names r ∷ ranges) l) (filter_told names (range_of names r ∷ ranges) filter)
    ∙ regroup (list_clashes (kinds targets) (source_columns names r.table) (range_of names r ∷ ranges) l) (misshaped_list (range_of names r ∷ ranges) l) (misshaped_filter names (range_of names r ∷ ranges) filter)

-- ---- INSERT, UPDATE, DELETE and SELECT

insert_told : (names : Names) (ranges : List NamedRange) (i : Insert) → is_some (shape_in_insert names ranges i) ≡ misshaped_insert names ranges i
insert_told names ranges (insert.DefaultValues table) = refl
insert_told names ranges (insert.Rows table columns s) =
    source_is table (targets_of (target_columns names table) columns) names ranges s
    ∙ ap (λ (types : List (Option ColumnType)). misshaped_source names ranges types s) (kinds_are (target_columns names table) columns)

assignment_is : (table : List ℕ) (columns : List NamedColumn) (ranges : List NamedRange) (a : Assignment) → is_some (shape_in_assignment table columns ranges a) ≡ misshaped_assignment columns ranges a
unfolding shape_in_assignment misshaped_assignment
assignment_is table columns ranges a = given_value table (record { name = a.column; kind = type_named columns a.column }) ranges a.value

update_told : (names : Names) (ranges : List NamedRange) (u : Update) → is_some (shape_in_update names ranges u) ≡ misshaped_update names ranges u
update_told names ranges u =
    or_told (first_of (shape_in_assignment u.table (target_columns names u.table) (target_ranges names u.table ranges)) u.assignments) (shape_in_filter names (target_ranges names u.table ranges) u.filter)
    (list_any (misshaped_assignment (target_columns names u.table) (target_ranges names u.table ranges)) u.assignments) (misshaped_filter names (target_ranges names u.table ranges) u.filter)
    (first_told (shape_in_assignment u.table (target_columns names u.table) (target_ranges names u.table ranges)) (misshaped_assignment (target_columns names u.table) (target_ranges names u.table ranges))
    (assignment_is u.table (target_columns names u.table) (target_ranges names u.table ranges)) u.assignments)
    (filter_told names (target_ranges names u.table ranges) u.filter)

delete_told : (names : Names) (ranges : List NamedRange) (d : Delete) → is_some (shape_in_delete names ranges d) ≡ misshaped_delete names ranges d
delete_told names ranges d = filter_told names (target_ranges names d.table ranges) d.filter

listed_told : (ranges : List NamedRange) (l : SelectList) → is_some (shape_in_list ranges l) ≡ misshaped_list ranges l
listed_told ranges list.Star = refl
listed_told ranges (list.Values es) = first_told (shape_in_expression ranges) (misshaped_expression ranges) (expression_told ranges) es

query_told : (names : Names) (ranges : List NamedRange) (l : SelectList) (r : RangeName) (filter : Option Condition) → is_some (shape_in_query names ranges l r filter) ≡ misshaped_query names ranges l r filter
query_told names ranges l r filter =
    or_told (shape_in_list (range_of names r ∷ ranges) l) (shape_in_filter names (range_of names r ∷ ranges) filter) (misshaped_list (range_of names r ∷ ranges) l)
    (misshaped_filter names (range_of names r ∷ ranges) filter) (listed_told (range_of names r ∷ ranges) l) (filter_told names (range_of names r ∷ ranges) filter)

select_told : (names : Names) (ranges : List NamedRange) (s : Select) → is_some (shape_in_select names ranges s) ≡ misshaped_select names ranges s
select_told names ranges (select.Count r filter) = query_told names ranges list.Star r filter
select_told names ranges (select.Rows l r filter) = query_told names ranges l r filter

-- ---- CREATE TRIGGER

set_is : (v column : List ℕ) (kind : Option ColumnType) (ranges : List NamedRange) (e : Expression) → is_some (set_told v column kind ranges e) ≡ clashes_with kind ranges e
unfolding clashes_with
set_is v column None ranges e = refl
set_is v column (Some kind) ranges e = some_if _ _

action_told : (names : Names) (ranges : List NamedRange) (a : TriggerAction) → is_some (shape_in_action names ranges a) ≡ misshaped_action names ranges a
unfolding shape_in_action misshaped_action shape_in_set
action_told names ranges (action.Insert i) = insert_told names ranges i
action_told names ranges (action.Update u) = update_told names ranges u
action_told names ranges (action.Delete d) = delete_told names ranges d
action_told names ranges (action.Signal t) = refl
action_told names ranges (action.Set v column e) =
    or_told (set_told v column (type_named names.subject column) ranges e) (shape_in_expression ranges e) (clashes_with (type_named names.subject column) ranges e) (misshaped_expression ranges e)
    (set_is v column (type_named names.subject column) ranges e) (expression_told ranges e)

trigger_told : (schema : Schema) (t : TriggerDefinition) → is_some (shape_fault schema (statement.CreateTrigger t)) ≡ is_misshaped schema (statement.CreateTrigger t)
trigger_told schema t =
    or_told (shape_in_filter (trigger_names schema t) (trigger_variables schema t) t.when) (first_of (shape_in_action (trigger_names schema t) (trigger_variables schema t)) t.body)
    (misshaped_filter (trigger_names schema t) (trigger_variables schema t) t.when) (list_any (misshaped_action (trigger_names schema t) (trigger_variables schema t)) t.body)
    (filter_told (trigger_names schema t) (trigger_variables schema t) t.when)
    (first_told (shape_in_action (trigger_names schema t) (trigger_variables schema t)) (misshaped_action (trigger_names schema t) (trigger_variables schema t))
    (action_told (trigger_names schema t) (trigger_variables schema t)) t.body)

-- ---- CREATE TABLE and ALTER TABLE

rule_told : (names : Names) (own : Altered) (r : WrittenRule) → is_some (shape_in_rule names own r) ≡ misshaped_rule names own r
rule_told names own (not_null column) = refl
rule_told names own (unique nulls columns) = refl
rule_told names own (primary_key columns) = refl
rule_told names own (check c) = condition_told names (check_ranges own) c
rule_told names own (foreign_key columns r) = refl

-- what is told of the table of an ALTER TABLE if its test says so
pub altered_told : {A : Type 0} (schema : Schema) (name : List ℕ) (tells : Altered → Option A) (asks : Altered → Bool) → ((own : Altered) → is_some (tells own) ≡ asks own)
    → is_some (told_of_altered schema name tells) ≡ of_altered schema name asks
altered_told {A = A} schema name tells asks h = by (table_place schema.tables name)
  where
    at : (place : ℕ) (o : Option Table)
        → is_some (elim o as (λ _. Option A) [ Some t ↦ tells (altered_at schema place t) | None ↦ None ]) ≡ elim o as (λ _. Bool) [ Some t ↦ asks (altered_at schema place t) | None ↦ false ]
    at place None = refl
    at place (Some t) = h (altered_at schema place t)

    by : (o : Option ℕ)
        → is_some (elim o as (λ _. Option A) [ Some place ↦ elim (slice_get schema.tables place) [ Some t ↦ tells (altered_at schema place t) | None ↦ None ] | None ↦ None ])
        ≡ elim o as (λ _. Bool) [ Some place ↦ elim (slice_get schema.tables place) [ Some t ↦ asks (altered_at schema place t) | None ↦ false ] | None ↦ false ]
    by None = refl
    by (Some place) = at place (slice_get schema.tables place)

shape_told : (schema : Schema) (s : Statement) → is_some (shape_fault schema s) ≡ is_misshaped schema s
shape_told schema (statement.CreateTable name elements) =
    first_told (λ (k : WrittenConstraint). shape_in_rule (creating schema (created_table schema name elements)) (created_table schema name elements) k.rule)
    (λ (k : WrittenConstraint). misshaped_rule (creating schema (created_table schema name elements)) (created_table schema name elements) k.rule)
    (λ k. rule_told (creating schema (created_table schema name elements)) (created_table schema name elements) k.rule) (written_constraints elements)
shape_told schema (statement.AlterTable table k) =
    altered_told schema table (λ own. shape_in_rule (table_names schema) own (table_constraint k).rule) (λ own. misshaped_rule (table_names schema) own (table_constraint k).rule)
    (λ own. rule_told (table_names schema) own (table_constraint k).rule)
shape_told schema (statement.CreateTrigger t) = trigger_told schema t
shape_told schema (statement.DropTrigger name) = refl
shape_told schema (statement.Insert i) = insert_told (table_names schema) [] i
shape_told schema (statement.Update u) = update_told (table_names schema) [] u
shape_told schema (statement.Delete d) = delete_told (table_names schema) [] d
shape_told schema (statement.Select s) = select_told (table_names schema) [] s
shape_told schema statement.StartTransaction = refl
shape_told schema statement.Commit = refl
shape_told schema statement.Rollback = refl
shape_told schema (statement.Savepoint name) = refl
shape_told schema (statement.Release name) = refl
shape_told schema (statement.RollbackTo name) = refl
shape_told schema (statement.SetConstraints l m) = refl

pub shapes_told : ShapesAreTold
shapes_told = record { told = shape_told }
