-- The rule that is broken is told exactly of the statements that deserve SchemaFault.
use Rattle.std.proofs.Common.{◌≡◌, refl, ap, ◌∙◌, ℕ, suc, ◌+◌, Bool, true, false, not, ◌||◌, ◌&&◌, ◌==◌, cond, List, [], ◌∷◌, length, filter, zip, Option, Some, None, is_some, slice_get, option_map, nat_lt, arith}
use Rattle.std.proofs.lemmas.Bool.Decides.{nat_tests}
use Rattle.std.specs.List.{enumerate_from, list_any}
use Rattle.std.specs.Option.{option_or}
use Rattle.iv_expr.specs.declared.tree.Side.TheVariants as side
use Rattle.iv_syntax.specs.declared.table.ColumnDefinition.{ColumnDefinition}
use Rattle.iv_syntax.specs.declared.table.ColumnType.{ColumnType}
use Rattle.iv_syntax.specs.declared.table.Literal.{Literal}
use Rattle.iv_syntax.specs.declared.table.References.{References}
use Rattle.iv_syntax.specs.declared.table.TableElement.{TableElement}
use Rattle.iv_syntax.specs.declared.statement.Statement.{Statement}
use Rattle.iv_syntax.specs.declared.statement.Statement.TheVariants as statement
use Rattle.iv_syntax.specs.declared.trigger.Referencing.{Referencing}
use Rattle.iv_syntax.specs.declared.trigger.TransitionName.{TransitionName}
use Rattle.iv_syntax.specs.declared.trigger.TransitionName.TheVariants as what
use Rattle.iv_syntax.specs.declared.trigger.TriggerAction.{TriggerAction}
use Rattle.iv_syntax.specs.declared.trigger.TriggerAction.TheVariants as action
use Rattle.iv_syntax.specs.declared.trigger.TriggerDefinition.{TriggerDefinition}
use Rattle.iv_catalogue.specs.Catalogues.{Schema}
use Rattle.iv_resolution.specs.declared.origin.Origin.{Origin}
use Rattle.iv_resolution.specs.Scopes.{NamedColumn, NamedRange, type_named}
use Rattle.iv_resolution.specs.Terms.{has_exists}
use Rattle.iv_resolution.specs.Constraints.{WrittenRule, not_null, unique, primary_key, check, foreign_key, WrittenConstraint, written_columns, written_constraints, table_constraint, is_contradictory, Key, primary_key_of, is_reliable, same_type, types_differ, pairs_differ}
use Rattle.iv_resolution.specs.Constraints.{Referenced, Altered, referenced, faulty_reference, literal_fits, default_fits}
use Rattle.iv_resolution.specs.Tables.{created_table, is_primary_rule, two_primary_keys, faulty_rule, faulty_constraint, faulty_table, faulty_addition}
use Rattle.iv_resolution.specs.Triggers.{trigger_variables, variable_named, is_before, for_each_row, has_side, item_twice, some_item_twice, is_allowed_item, is_allowed_action, is_old, sets_old, faulty_trigger}
use Rattle.iv_resolution.specs.Resolution.{is_faulty}
use Rattle.iv_resolution.specs.Items.{Item, told_if, first_of}
use Rattle.iv_resolution.specs.NameFaults.{item_of_constraint}
use Rattle.iv_resolve_reasons.specs.SchemaFaults.{ReferenceFault, pair_count, pair_types, no_reliable_key, no_primary_key, deferrable_primary_key, types_told, fault_of_types, fault_of_pairs, fault_of_reference, fault_of_foreign_key}
use Rattle.iv_resolve_reasons.specs.SchemaFaults.{SchemaFault, columnless_table, unfit_default, second_primary_key, contradictory_time, exists_in_check, reference_at_fault, item_again, side_without_rows, row_of_statement, table_before, change_before, set_after, set_of_statement, set_of_old}
use Rattle.iv_resolve_reasons.specs.SchemaFaults.{fault_of_rule, fault_of_constraint, fault_of_default, primary_keys, fault_in_table, added_place, fault_of_addition, fault_of_names, fault_of_item, fault_of_action, fault_of_set, fault_in_trigger, schema_fault}
use Rattle.iv_resolve_reasons.specs.Laws.{SchemaFaultsAreTold}
use Rattle.iv_resolve_reasons.proofs.ShapesTold.{some_if, or_told, first_told, altered_told}
use Rattle.iv_resolve_reasons.proofs.Numbered.{numbered_told}

some_mapped : {A B : Type 0} (f : A → B) (o : Option A) → is_some (option_map f o) ≡ is_some o
some_mapped f None = refl
some_mapped f (Some x) = refl

not_both : (a b : Bool) → (not a || not b) ≡ not (a && b)
not_both true b = refl
not_both false b = refl

twice_not : (a : Bool) → a ≡ not (not a)
twice_not true = refl
twice_not false = refl

-- ---- foreign keys

types_are : (a b : List ℕ) (k m : Option ColumnType) → is_some (types_told a k b m) ≡ types_differ k m
unfolding types_told
types_are a b (Some k) (Some m) = some_if (not (same_type k m)) (pair_types a k b m)
types_are a b (Some k) None = refl
types_are a b None (Some m) = refl
types_are a b None None = refl

pairs_are : (columns : List NamedColumn) (referencing : List (List ℕ)) (others : List NamedColumn) (names : List (List ℕ))
    → is_some (fault_of_pairs columns referencing others names) ≡ pairs_differ columns referencing others names
unfolding fault_of_pairs fault_of_types
pairs_are columns referencing others names =
    or_told (told_if (not (length referencing == length names)) (pair_count (length referencing) (length names)))
    (first_of (λ (p : List ℕ × List ℕ). types_told p.0 (type_named columns p.0) p.1 (type_named others p.1)) (zip referencing names)) (not (length referencing == length names))
    (list_any (λ (p : List ℕ × List ℕ). types_differ (type_named columns p.0) (type_named others p.1)) (zip referencing names)) (some_if _ _)
    (first_told (λ (p : List ℕ × List ℕ). types_told p.0 (type_named columns p.0) p.1 (type_named others p.1))
    (λ (p : List ℕ × List ℕ). types_differ (type_named columns p.0) (type_named others p.1)) (λ p. types_are p.0 p.1 (type_named columns p.0) (type_named others p.1)) (zip referencing names))

reference_is : (columns : List NamedColumn) (referencing : List (List ℕ)) (r : Referenced) (names : Option (List (List ℕ)))
    → is_some (fault_of_reference columns referencing r names) ≡ faulty_reference columns referencing r names
reference_is columns referencing r (Some names) =
    or_told (fault_of_pairs columns referencing r.columns names) (told_if (not (list_any (is_reliable names) r.keys)) (no_reliable_key names))
    (pairs_differ columns referencing r.columns names) (not (list_any (is_reliable names) r.keys)) (pairs_are columns referencing r.columns names) (some_if _ _)
reference_is columns referencing r None = by (primary_key_of r.keys)
  where
    by : (o : Option Key)
        → is_some (elim o as (λ _. Option ReferenceFault) [ Some k ↦ option_or (told_if k.deferrable deferrable_primary_key) (fault_of_pairs columns referencing r.columns k.columns) | None ↦ Some no_primary_key ])
        ≡ elim o as (λ _. Bool) [ Some k ↦ k.deferrable || pairs_differ columns referencing r.columns k.columns | None ↦ true ]
    by None = refl
    by (Some k) =
        or_told (told_if k.deferrable deferrable_primary_key) (fault_of_pairs columns referencing r.columns k.columns) k.deferrable (pairs_differ columns referencing r.columns k.columns)
        (some_if _ _) (pairs_are columns referencing r.columns k.columns)

foreign_key_is : (schema : Schema) (own : Altered) (columns : List (List ℕ)) (r : References)
    → is_some (fault_of_foreign_key schema own columns r) ≡ faulty_rule schema own (foreign_key columns r)
unfolding fault_of_foreign_key
foreign_key_is schema own columns r = by (referenced schema own r.table)
  where
    by : (o : Option Referenced)
        → is_some (elim o as (λ _. Option ReferenceFault) [ Some t ↦ fault_of_reference own.columns columns t r.columns | None ↦ None ])
        ≡ elim o as (λ _. Bool) [ Some t ↦ faulty_reference own.columns columns t r.columns | None ↦ false ]
    by None = refl
    by (Some t) = reference_is own.columns columns t r.columns

-- ---- CREATE TABLE and ALTER TABLE

rule_is : (schema : Schema) (own : Altered) (item : Item) (r : WrittenRule) → is_some (fault_of_rule schema own item r) ≡ faulty_rule schema own r
rule_is schema own item (not_null column) = refl
rule_is schema own item (unique nulls columns) = refl
rule_is schema own item (primary_key columns) = refl
rule_is schema own item (check c) = some_if (has_exists c) (exists_in_check item)
rule_is schema own item (foreign_key columns r) = some_mapped (λ (f : ReferenceFault). reference_at_fault item r.table f) (fault_of_foreign_key schema own columns r) ∙ foreign_key_is schema own columns r

constraint_is : (schema : Schema) (own : Altered) (place : ℕ) (k : WrittenConstraint) → is_some (fault_of_constraint schema own place k) ≡ faulty_constraint schema own k
unfolding fault_of_constraint
constraint_is schema own place k =
    or_told (told_if (is_contradictory k.time) (contradictory_time (item_of_constraint own.name place k))) (fault_of_rule schema own (item_of_constraint own.name place k) k.rule)
    (is_contradictory k.time) (faulty_rule schema own k.rule) (some_if _ _) (rule_is schema own (item_of_constraint own.name place k) k.rule)

default_is : (c : ColumnDefinition) → is_some (fault_of_default c) ≡ not (default_fits c)
default_is c = by c.default
  where
    by : (o : Option Literal)
        → is_some (elim o as (λ _. Option SchemaFault) [ Some l ↦ told_if (not (literal_fits c.kind l)) (unfit_default c.name c.kind l) | None ↦ None ])
        ≡ not (elim o as (λ _. Bool) [ Some l ↦ literal_fits c.kind l | None ↦ true ])
    by None = refl
    by (Some l) = some_if _ _

some_second : {A : Type 0} (xs : List A) → is_some (slice_get xs 1) ≡ nat_lt 1 (length xs)
some_second [] = refl
some_second (x ∷ []) = refl
some_second (x ∷ y ∷ xs) = many (length xs)
  where
    many : (n : ℕ) → true ≡ nat_lt 1 (suc (suc n))
    many n = grind (arith, nat_tests)

primaries_counted : (place : ℕ) (ks : List WrittenConstraint) → length (primary_keys place ks) ≡ length (filter (λ (k : WrittenConstraint). is_primary_rule k.rule) ks)
unfolding primary_keys
primaries_counted place [] = refl
primaries_counted place (k ∷ ks) =
    elim (is_primary_rule k.rule)
    as (λ b. length (cond b ((place, k) ∷ filter (λ (p : ℕ × WrittenConstraint). is_primary_rule p.1.rule) (enumerate_from (place + 1) ks)) (filter (λ (p : ℕ × WrittenConstraint). is_primary_rule p.1.rule) (enumerate_from (place + 1) ks)))
    ≡ length (cond b (k ∷ filter (λ (k : WrittenConstraint). is_primary_rule k.rule) ks) (filter (λ (k : WrittenConstraint). is_primary_rule k.rule) ks)))
    [ true ↦ ap suc (primaries_counted (place + 1) ks) | false ↦ primaries_counted (place + 1) ks ]

second_is : (name : List ℕ) (ks : List WrittenConstraint)
    → is_some (option_map (λ (p : ℕ × WrittenConstraint). second_primary_key (item_of_constraint name p.0 p.1)) (slice_get (primary_keys 1 ks) 1)) ≡ two_primary_keys ks
second_is name ks = some_mapped (λ (p : ℕ × WrittenConstraint). second_primary_key (item_of_constraint name p.0 p.1)) (slice_get (primary_keys 1 ks) 1) ∙ some_second (primary_keys 1 ks) ∙ ap (nat_lt 1) (primaries_counted 1 ks)

table_told : (schema : Schema) (name : List ℕ) (elements : List TableElement) → is_some (fault_in_table schema name elements) ≡ faulty_table schema name elements
table_told schema name elements =
    or_told _ _ (length (written_columns elements) == 0)
    (list_any (λ c. not (default_fits c)) (written_columns elements)
    || (two_primary_keys (written_constraints elements) || list_any (faulty_constraint schema (created_table schema name elements)) (written_constraints elements)))
    (some_if (length (written_columns elements) == 0) (columnless_table name))
    (or_told _ _ (list_any (λ c. not (default_fits c)) (written_columns elements))
    (two_primary_keys (written_constraints elements) || list_any (faulty_constraint schema (created_table schema name elements)) (written_constraints elements))
    (first_told fault_of_default (λ c. not (default_fits c)) default_is (written_columns elements))
    (or_told _ _ (two_primary_keys (written_constraints elements)) (list_any (faulty_constraint schema (created_table schema name elements)) (written_constraints elements))
    (second_is name (written_constraints elements))
    (numbered_told (λ (p : ℕ × WrittenConstraint). fault_of_constraint schema (created_table schema name elements) p.0 p.1) (faulty_constraint schema (created_table schema name elements))
    (constraint_is schema (created_table schema name elements)) 1 (written_constraints elements))))

addition_told : (schema : Schema) (own : Altered) (k : WrittenConstraint) → is_some (fault_of_addition schema own k) ≡ faulty_addition schema own k
addition_told schema own k =
    or_told _ (fault_of_constraint schema own (added_place schema own) k) (is_primary_rule k.rule && elim (primary_key_of own.keys) [ Some p ↦ true | None ↦ false ]) (faulty_constraint schema own k)
    (some_if _ (second_primary_key (item_of_constraint own.name (added_place schema own) k))) (constraint_is schema own (added_place schema own) k)

-- ---- CREATE TRIGGER

names_told : (items : List Referencing) → is_some (fault_of_names items) ≡ some_item_twice items
names_told items =
    or_told _ _ (item_twice items side.Old true || item_twice items side.New true) (item_twice items side.Old false || item_twice items side.New false)
    (or_told _ _ (item_twice items side.Old true) (item_twice items side.New true) (some_if (item_twice items side.Old true) (item_again side.Old what.Row)) (some_if (item_twice items side.New true) (item_again side.New what.Row)))
    (or_told _ _ (item_twice items side.Old false) (item_twice items side.New false) (some_if (item_twice items side.Old false) (item_again side.Old what.Table)) (some_if (item_twice items side.New false) (item_again side.New what.Table)))

item_is : (t : TriggerDefinition) (i : Referencing) → is_some (fault_of_item t i) ≡ not (is_allowed_item t i)
unfolding fault_of_item is_allowed_item
item_is t i = by i.what
  where
    by : (w : TransitionName)
        → is_some (option_or (told_if (not (has_side t.event i.side)) (side_without_rows i.name i.side t.event))
        (elim w as (λ _. Option SchemaFault) [ what.Row ↦ told_if (not (for_each_row t)) (row_of_statement i.name) | what.Table ↦ told_if (is_before t) (table_before i.name) ]))
        ≡ not (has_side t.event i.side && elim w as (λ _. Bool) [ what.Row ↦ for_each_row t | what.Table ↦ not (is_before t) ])
    by what.Row =
        or_told (told_if (not (has_side t.event i.side)) (side_without_rows i.name i.side t.event)) (told_if (not (for_each_row t)) (row_of_statement i.name))
        (not (has_side t.event i.side)) (not (for_each_row t)) (some_if _ _) (some_if _ _)
        ∙ not_both (has_side t.event i.side) (for_each_row t)
    by what.Table =
        or_told (told_if (not (has_side t.event i.side)) (side_without_rows i.name i.side t.event)) (told_if (is_before t) (table_before i.name))
        (not (has_side t.event i.side)) (not (not (is_before t))) (some_if _ _) (some_if _ _ ∙ twice_not (is_before t))
        ∙ not_both (has_side t.event i.side) (not (is_before t))

action_is : (t : TriggerDefinition) (number : ℕ) (a : TriggerAction) → is_some (fault_of_action t number a) ≡ not (is_allowed_action t a)
unfolding fault_of_action is_allowed_action
action_is t number (action.Signal text) = refl
action_is t number (action.Set v column e) =
    or_told (told_if (not (is_before t)) (set_after number)) (told_if (not (for_each_row t)) (set_of_statement number)) (not (is_before t)) (not (for_each_row t)) (some_if _ _) (some_if _ _)
    ∙ not_both (is_before t) (for_each_row t)
action_is t number (action.Insert i) = some_if (is_before t) (change_before number) ∙ twice_not (is_before t)
action_is t number (action.Update u) = some_if (is_before t) (change_before number) ∙ twice_not (is_before t)
action_is t number (action.Delete d) = some_if (is_before t) (change_before number) ∙ twice_not (is_before t)

set_is : (variables : List NamedRange) (number : ℕ) (a : TriggerAction) → is_some (fault_of_set variables number a) ≡ sets_old variables a
unfolding fault_of_set sets_old
set_is variables number (action.Signal text) = refl
set_is variables number (action.Insert i) = refl
set_is variables number (action.Update u) = refl
set_is variables number (action.Delete d) = refl
set_is variables number (action.Set v column e) = by (variable_named variables v)
  where
    by : (o : Option Origin)
        → is_some (elim o as (λ _. Option SchemaFault) [ Some x ↦ told_if (is_old x) (set_of_old number v column) | None ↦ None ]) ≡ elim o as (λ _. Bool) [ Some x ↦ is_old x | None ↦ false ]
    by None = refl
    by (Some x) = some_if _ _

trigger_told : (schema : Schema) (t : TriggerDefinition) → is_some (fault_in_trigger schema t) ≡ faulty_trigger schema t
trigger_told schema t =
    or_told (fault_of_names t.referencing) _ (some_item_twice t.referencing)
    (list_any (λ i. not (is_allowed_item t i)) t.referencing || (list_any (λ a. not (is_allowed_action t a)) t.body || list_any (sets_old (trigger_variables schema t)) t.body))
    (names_told t.referencing)
    (or_told _ _ (list_any (λ i. not (is_allowed_item t i)) t.referencing) (list_any (λ a. not (is_allowed_action t a)) t.body || list_any (sets_old (trigger_variables schema t)) t.body)
    (first_told (fault_of_item t) (λ i. not (is_allowed_item t i)) (item_is t) t.referencing)
    (or_told _ _ (list_any (λ a. not (is_allowed_action t a)) t.body) (list_any (sets_old (trigger_variables schema t)) t.body)
    (numbered_told (λ (p : ℕ × TriggerAction). fault_of_action t p.0 p.1) (λ a. not (is_allowed_action t a)) (action_is t) 1 t.body)
    (numbered_told (λ (p : ℕ × TriggerAction). fault_of_set (trigger_variables schema t) p.0 p.1) (sets_old (trigger_variables schema t)) (set_is (trigger_variables schema t)) 1 t.body)))

fault_told : (schema : Schema) (s : Statement) → is_some (schema_fault schema s) ≡ is_faulty schema s
fault_told schema (statement.CreateTable name elements) = table_told schema name elements
fault_told schema (statement.AlterTable table k) =
    altered_told schema table (λ own. fault_of_addition schema own (table_constraint k)) (λ own. faulty_addition schema own (table_constraint k)) (λ own. addition_told schema own (table_constraint k))
fault_told schema (statement.CreateTrigger t) = trigger_told schema t
fault_told schema (statement.DropTrigger name) = refl
fault_told schema (statement.Insert i) = refl
fault_told schema (statement.Update u) = refl
fault_told schema (statement.Delete d) = refl
fault_told schema (statement.Select s) = refl
fault_told schema statement.StartTransaction = refl
fault_told schema statement.Commit = refl
fault_told schema statement.Rollback = refl
fault_told schema (statement.Savepoint name) = refl
fault_told schema (statement.Release name) = refl
fault_told schema (statement.RollbackTo name) = refl
fault_told schema (statement.SetConstraints l m) = refl

pub schema_faults_told : SchemaFaultsAreTold
schema_faults_told = record { told = fault_told }
