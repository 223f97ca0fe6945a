-- Of each refusal for Unknown or Duplicate a name of that kind is told.
use Rattle.std.proofs.Common.{◌≡◌, refl, ap, ◌∙◌, sym, ℕ, ◌+◌, ◌++◌, Bool, true, false, List, [], ◌∷◌, map, cond, Option, Some, None, option_map, Result, Ok, Err, slice_get}
use Rattle.std.specs.Option.{option_or}
use Rattle.iv_syntax.specs.declared.table.TableElement.{TableElement}
use Rattle.iv_syntax.specs.declared.statement.Insert.{Insert}
use Rattle.iv_syntax.specs.declared.statement.Insert.TheVariants as insert
use Rattle.iv_syntax.specs.declared.statement.Statement.{Statement}
use Rattle.iv_syntax.specs.declared.statement.Statement.TheVariants as statement
use Rattle.iv_syntax.specs.declared.trigger.TriggerAction.{TriggerAction}
use Rattle.iv_syntax.specs.declared.trigger.TriggerAction.TheVariants as action
use Rattle.iv_catalogue.specs.declared.catalogue.Table.{Table}
use Rattle.iv_catalogue.specs.declared.cause.Cause.TheVariants.{Unknown, Duplicate, SchemaFault, WrongShape, Limit}
use Rattle.iv_catalogue.specs.declared.cause.Refusal.{Refusal}
use Rattle.iv_catalogue.specs.declared.plan.Plan.{Plan}
use Rattle.iv_catalogue.specs.Catalogues.{Schema, has_constraint, has_table, has_trigger}
use Rattle.iv_catalogue.specs.Names.{is_among}
use Rattle.iv_catalogue.specs.Refusals.{refusal_answer}
use Rattle.iv_resolution.specs.Constraints.{WrittenRule, not_null, unique, primary_key, check, foreign_key, WrittenConstraint, written_columns, written_constraints, table_constraint, constraint_name, Altered}
use Rattle.iv_resolution.specs.Scopes.{table_place}
use Rattle.iv_resolution.specs.Tables.{altered_at}
use Rattle.iv_resolution.specs.Bound.{bound}
use Rattle.iv_resolution.specs.Resolution.{is_unknown, is_duplicate, is_faulty, is_misshaped, is_beyond_limits, refused_or_planned}
use Rattle.iv_resolution.specs.Items.{Item, Fault, table_item, column_item, trigger_item, transition_item, unknown_fault, in_use_fault, twice_fault, told_if, first_of, first_again}
use Rattle.iv_resolution.specs.NameFaults.{unknown_name, told_of_altered, column_twice, column_twice_listed, duplicate_in_insert, duplicate_in_action, duplicate_in_rule, item_of_constraint, duplicate_in_constraint, duplicate_in_constraints, before_column_again, duplicate_in_table, addition_in_use, duplicate_name}
use Rattle.iv_resolve_name_faults.specs.Laws.{is_duplicate_fault, RefusalsAreTold}
use Rattle.iv_resolution.proofs.Told.{some_of}

-- ---- what is told as a duplicate is in use or comes twice

-- what is told, if anything is, is in use or comes twice
abbrev of_kind : Option Fault → Bool
of_kind None = true
of_kind (Some f) = is_duplicate_fault f

kind_or : (a b : Option Fault) → of_kind a ≡ true → of_kind b ≡ true → of_kind (option_or a b) ≡ true
kind_or None b h g = g
kind_or (Some f) b h g = h

kind_first : {A : Type 0} (f : A → Option Fault) → ((x : A) → of_kind (f x) ≡ true) → (xs : List A) → of_kind (first_of f xs) ≡ true
kind_first f h [] = refl
kind_first f h (x ∷ xs) = kind_or (f x) (first_of f xs) (h x) (kind_first f h xs)

kind_in_use : (b : Bool) (item : Item) → of_kind (told_if b (in_use_fault item)) ≡ true
kind_in_use true item = refl
kind_in_use false item = refl

kind_again : (b : Bool) (item : Item) → of_kind (told_if b (twice_fault item)) ≡ true
kind_again true item = refl
kind_again false item = refl

kind_twice : {A : Type 0} (item : A → Item) (o : Option A) → of_kind (option_map (λ x. twice_fault (item x)) o) ≡ true
kind_twice item None = refl
kind_twice item (Some x) = refl

column_kind : (names : List (List ℕ)) → of_kind (column_twice names) ≡ true
column_kind names = kind_twice (λ n. column_item None n) (first_again (λ n. n) [] names)

listed_kind : (names : Option (List (List ℕ))) → of_kind (column_twice_listed names) ≡ true
listed_kind None = refl
listed_kind (Some names) = column_kind names

insert_kind : (i : Insert) → of_kind (duplicate_in_insert i) ≡ true
insert_kind (insert.DefaultValues table) = refl
insert_kind (insert.Rows table columns s) = listed_kind columns

action_kind : (a : TriggerAction) → of_kind (duplicate_in_action a) ≡ true
action_kind (action.Insert i) = insert_kind i
action_kind (action.Update u) = column_kind (map (λ a. a.column) u.assignments)
action_kind (action.Delete d) = refl
action_kind (action.Signal t) = refl
action_kind (action.Set v column e) = refl

rule_kind : (k : WrittenRule) → of_kind (duplicate_in_rule k) ≡ true
rule_kind (not_null column) = refl
rule_kind (unique nulls columns) = column_kind columns
rule_kind (primary_key columns) = column_kind columns
rule_kind (check c) = refl
rule_kind (foreign_key columns r) = kind_or (column_twice columns) (column_twice_listed r.columns) (column_kind columns) (listed_kind r.columns)

constraint_kind : (schema : Schema) (table : List ℕ) (place : ℕ) (before : List (List ℕ)) (k : WrittenConstraint) → of_kind (duplicate_in_constraint schema table place before k) ≡ true
constraint_kind schema table place before k =
    kind_or _ _ (kind_in_use (has_constraint schema (constraint_name table place k)) (item_of_constraint table place k))
    (kind_or _ _ (kind_again (is_among before (constraint_name table place k)) (item_of_constraint table place k)) (rule_kind k.rule))

constraints_kind : (schema : Schema) (table : List ℕ) (place : ℕ) (before : List (List ℕ)) (ks : List WrittenConstraint) → of_kind (duplicate_in_constraints schema table place before ks) ≡ true
constraints_kind schema table place before [] = refl
constraints_kind schema table place before (k ∷ ks) =
    kind_or (duplicate_in_constraint schema table place before k) (duplicate_in_constraints schema table (place + 1) (before ++ constraint_name table place k ∷ []) ks)
    (constraint_kind schema table place before k) (constraints_kind schema table (place + 1) (before ++ constraint_name table place k ∷ []) ks)

table_kind : (schema : Schema) (name : List ℕ) (elements : List TableElement) → of_kind (duplicate_in_table schema name elements) ≡ true
table_kind schema name elements =
    kind_or _ _ (kind_in_use (has_table schema name) (table_item name))
    (kind_or _ _ (constraints_kind schema name 1 [] (written_constraints (before_column_again [] elements)))
    (column_kind (map (λ c. c.name) (written_columns elements))))

altered_kind : (schema : Schema) (name : List ℕ) (tells : Altered → Option Fault) → ((own : Altered) → of_kind (tells own) ≡ true) → of_kind (told_of_altered schema name tells) ≡ true
altered_kind schema name tells h = by (table_place schema.tables name)
  where
    at : (place : ℕ) (o : Option Table) → of_kind (elim o as (λ _. Option Fault) [ Some t ↦ tells (altered_at schema place t) | None ↦ None ]) ≡ true
    at place None = refl
    at place (Some t) = h (altered_at schema place t)

    by : (o : Option ℕ)
        → of_kind (elim o as (λ _. Option Fault) [ Some place ↦ elim (slice_get schema.tables place) [ Some t ↦ tells (altered_at schema place t) | None ↦ None ] | None ↦ None ]) ≡ true
    by None = refl
    by (Some place) = at place (slice_get schema.tables place)

duplicate_kind : (schema : Schema) (s : Statement) → of_kind (duplicate_name schema s) ≡ true
duplicate_kind schema (statement.CreateTable name elements) = table_kind schema name elements
duplicate_kind schema (statement.AlterTable table k) =
    kind_or _ _ (altered_kind schema table (λ own. addition_in_use schema own (table_constraint k)) (λ own. kind_in_use _ _)) (rule_kind (table_constraint k).rule)
duplicate_kind schema (statement.CreateTrigger t) =
    kind_or _ _ (kind_in_use (has_trigger schema t.name) (trigger_item t.name))
    (kind_or _ _ (column_kind t.columns)
    (kind_or _ _ (kind_twice (λ n. transition_item n) (first_again (λ n. n) [] (map (λ i. i.name) t.referencing))) (kind_first duplicate_in_action action_kind t.body)))
duplicate_kind schema (statement.DropTrigger name) = refl
duplicate_kind schema (statement.Insert i) = insert_kind i
duplicate_kind schema (statement.Update u) = column_kind (map (λ a. a.column) u.assignments)
duplicate_kind schema (statement.Delete d) = refl
duplicate_kind schema (statement.Select s) = refl
duplicate_kind schema statement.StartTransaction = refl
duplicate_kind schema statement.Commit = refl
duplicate_kind schema statement.Rollback = refl
duplicate_kind schema (statement.Savepoint name) = refl
duplicate_kind schema (statement.Release name) = refl
duplicate_kind schema (statement.RollbackTo name) = refl
duplicate_kind schema (statement.SetConstraints l m) = refl

-- ---- the cause of a refusal is deserved

-- which of the five causes of resolution are deserved
abbrev refused_by : Bool → Bool → Bool → Bool → Bool → Plan → Result Plan Refusal
refused_by a b c d e p =
    refused_or_planned
    (cond a (Some Unknown) (cond b (Some Duplicate) (cond c (Some SchemaFault) (cond d (Some WrongShape) (cond e (Some Limit) None))))) p

-- the answer is a refusal for this cause
abbrev for_unknown : Result Plan Refusal → Bool
for_unknown (Ok p) = false
for_unknown (Err r) = elim r.cause [ Unknown ↦ true | _ ↦ false ]

abbrev for_duplicate : Result Plan Refusal → Bool
for_duplicate (Ok p) = false
for_duplicate (Err r) = elim r.cause [ Duplicate ↦ true | _ ↦ false ]

deserves_unknown : (a b c d e : Bool) (p : Plan) → refused_by a b c d e p ≡ refusal_answer Unknown → a ≡ true
deserves_unknown true b c d e p h = refl
deserves_unknown false true c d e p h = ap for_unknown h
deserves_unknown false false true d e p h = ap for_unknown h
deserves_unknown false false false true e p h = ap for_unknown h
deserves_unknown false false false false true p h = ap for_unknown h
deserves_unknown false false false false false p h = ap for_unknown h

deserves_duplicate : (a b c d e : Bool) (p : Plan) → refused_by a b c d e p ≡ refusal_answer Duplicate → b ≡ true
deserves_duplicate true b c d e p h = let n : false ≡ true = ap for_duplicate h in cc
deserves_duplicate false true c d e p h = refl
deserves_duplicate false false true d e p h = ap for_duplicate h
deserves_duplicate false false false true e p h = ap for_duplicate h
deserves_duplicate false false false false true p h = ap for_duplicate h
deserves_duplicate false false false false false p h = ap for_duplicate h

pub refusals_told : RefusalsAreTold
refusals_told = record {
  unknown = λ schema s h.
      let item = some_of (unknown_name schema s) (deserves_unknown (is_unknown schema s) (is_duplicate schema s) (is_faulty schema s) (is_misshaped schema s) (is_beyond_limits schema s) (bound schema s) h) in
      (item.0, ap (option_map unknown_fault) item.1);
  duplicate = λ schema s h.
      let fault = some_of (duplicate_name schema s) (deserves_duplicate (is_unknown schema s) (is_duplicate schema s) (is_faulty schema s) (is_misshaped schema s) (is_beyond_limits schema s) (bound schema s) h) in
      (fault.0, fault.1, sym (ap of_kind fault.1) ∙ duplicate_kind schema s);
}
