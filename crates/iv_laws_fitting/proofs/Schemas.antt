-- The plans of CREATE TABLE and ALTER TABLE that deserve no cause.
use Rattle.std.proofs.Common.{◌≡◌, ℕ, zero, suc, ◌+◌, ◌≤◌, min, nat_lt, nat_le, Bool, true, false, not, ◌&&◌, ◌==◌, if◌then◌else◌, List, [], ◌∷◌, ◌++◌, ◌∙◌, Option, Some, None, is_some, refl, sym, ap, cond, length, map, filter, slice_get, subst, unwrap_or, arith}
use Rattle.std.proofs.lemmas.Bool.{and_from, or_parts}
use Rattle.std.proofs.lemmas.Option.{same_Some}
use Rattle.std.specs.List.{list_any, list_all, enumerate_from}
use Rattle.std.specs.Option.{option_or}
use Rattle.std.proofs.lemmas.Bool.Decides.{nat_tests}
use Rattle.iv_laws_fitting.specs.Types.{Kind, Statement, Column, Table, Constraint}
use Rattle.iv_laws_fitting.specs.Types.plan
use Rattle.iv_laws_fitting.specs.Types.schema.{CreateTable, AddConstraint}
use Rattle.iv_syntax.specs.declared.table.ColumnType.{ColumnType}
use Rattle.iv_syntax.specs.declared.table.ColumnType.TheVariants as type
use Rattle.iv_syntax.specs.declared.table.ColumnDefinition.{ColumnDefinition}
use Rattle.iv_syntax.specs.declared.table.ConstraintTime.{ConstraintTime}
use Rattle.iv_syntax.specs.declared.table.TableConstraint.{TableConstraint}
use Rattle.iv_syntax.specs.declared.table.TableElement.{TableElement}
use Rattle.iv_syntax.specs.declared.statement.Statement.TheVariants as statement
use Rattle.iv_catalogue.specs.Catalogues.{Schema, has_table, has_constraint, places_from}
use Rattle.iv_catalogue.specs.declared.limits.TheConstants.{MOST_CHARACTERS, MOST_COLUMNS, MOST_CONSTRAINTS, MOST_TABLES}
use Rattle.iv_catalogue.specs.declared.plan.Plan.{Plan}
use Rattle.iv_catalogue.specs.declared.plan.TransactionPlan.TheVariants as transaction
use Rattle.iv_resolution.specs.Scopes.{NamedColumn, type_of, table_place}
use Rattle.iv_resolution.specs.Constraints.{WrittenRule, not_null, unique, primary_key, check, foreign_key, WrittenConstraint, written_columns, defined_column, defined_columns, written_constraints, table_constraint, constraints_of, is_contradictory, Key, primary_key_of, key_of_written, Altered, default_fits}
use Rattle.iv_resolution.specs.Tables.{created_table, altered_at, creating, table_names, faulty_rule, faulty_constraint, misshaped_rule, two_primary_keys, long_key, type_beyond_limits, added_name, is_primary_rule, faulty_addition, addition_beyond_limits}
use Rattle.iv_resolution.specs.Bound.{table_id, bound_kind, bound_column_definition, bound_place, bound_rule, bound_constraint, bound_table, bound_addition}
use Rattle.iv_resolution.specs.Resolution.{of_altered}
use Rattle.iv_resolution.specs.Changes.{is_table}
use Rattle.iv_resolution.specs.Items.{column_item, table_item, in_use_fault, twice_fault, told_if, first_of, first_again}
use Rattle.iv_resolution.specs.NameFaults.{unknown_in_target, unknown_in_rule, told_of_altered, column_twice, duplicate_in_rule, duplicate_in_constraints, before_column_again, addition_in_use}
use Rattle.iv_resolution.proofs.Told.{none_parts, none_mapped, none_told, untold}
use Rattle.iv_laws_fitting.specs.Naming.{table_is_called}
use Rattle.iv_laws_fitting.proofs.Firsts.{Search, nothing, something, search, first_position, first_there, none_position}
use Rattle.iv_laws_fitting.specs.ConstraintShapes.{has_named_key, rule_suits, constraint_suits, TableFits, ConstraintFits}
use Rattle.iv_laws_fitting.specs.Laws.{TablesFit, AdditionsFit}
use Rattle.iv_laws_fitting.specs.PlanShapes.{kinds_of, table_kinds, table_suits}
use Rattle.iv_laws_fitting.proofs.ColumnKinds.{ColumnsMatch, stored_match}
use Rattle.iv_laws_fitting.proofs.KeysThere.{AllNamed, written_keys_named, stored_keys_named, others_named, key_of_rule_there}
use Rattle.iv_laws_fitting.proofs.NewConstraints.{KeyMatches, key_of_names}
use Rattle.iv_laws_fitting.proofs.NewTables.{columns_suit, columns_once, text_whole, new_names, all_on}
use Rattle.iv_laws_fitting.proofs.Plans.{Accepted, accepted, alteration}
use Rattle.iv_laws_fitting.proofs.Pointwise.{any_at, all_at, made_of, placed_at, mapped_length, enumerated_length, all_by}
use Rattle.iv_laws_fitting.proofs.References.{made_by, stored_keys_match}
use Rattle.iv_laws_fitting.proofs.Rules.{OwnFits, stored_fits, rule_of_written_suits}
use Rattle.iv_laws_fitting.proofs.Targets.{few_columns, place_is_there}

-- ---- the columns of a new table

kept_type : (t : ColumnType) → type_beyond_limits t ≡ false → type_of (bound_kind t) ≡ t
kept_type type.Integer h = refl
kept_type (type.Varchar n) h =
    let parts = or_parts (n == 0) (nat_lt MOST_CHARACTERS n) h in
    let low : n ≤ MOST_CHARACTERS = let x = parts.1 in grind (arith, nat_tests) in
    let same : min n 65535 ≡ n = omega arith in
    ap (λ m. type.Varchar m) same

defined_types : (cs : List ColumnDefinition) → list_any (λ c. type_beyond_limits c.kind) cs ≡ false
    → map (λ (c : NamedColumn). c.kind) (map defined_column cs) ≡ map type_of (map (λ (c : Column). c.kind) (map bound_column_definition cs))
defined_types [] h = refl
defined_types (c ∷ cs) h =
    let parts = or_parts (type_beyond_limits c.kind) (list_any (λ x. type_beyond_limits x.kind) cs) h in
    ap (λ t. t ∷ map (λ (x : NamedColumn). x.kind) (map defined_column cs)) (sym (kept_type c.kind parts.0)) ∙ ap (λ l. type_of (bound_kind c.kind) ∷ l) (defined_types cs parts.1)

new_columns_match : (elements : List TableElement) → nat_lt MOST_COLUMNS (length (written_columns elements)) ≡ false → list_any (λ c. type_beyond_limits c.kind) (written_columns elements) ≡ false
    → ColumnsMatch (defined_columns elements) (map (λ (c : Column). c.kind) (map bound_column_definition (written_columns elements)))
new_columns_match elements few types = record {
  types = defined_types (written_columns elements) types;
  few = let l = mapped_length defined_column (written_columns elements) in let low : length (written_columns elements) ≤ MOST_COLUMNS = grind (arith, nat_tests) in omega arith;
}

-- ---- places among more tables

last_there : {X : Type 0} (xs : List X) (x : X) → slice_get (xs ++ x ∷ []) (length xs) ≡ Some x
last_there [] x = refl
last_there (y ∷ ys) x = last_there ys x

still_there : {X : Type 0} (xs : List X) (x : X) (place : ℕ) (y : X) → slice_get xs place ≡ Some y → slice_get (xs ++ x ∷ []) place ≡ Some y
still_there [] x place y h = cc
still_there (z ∷ zs) x zero y h = h
still_there (z ∷ zs) x (suc n) y h = still_there zs x n y h

kinds_at : (tables : List Table) (place : ℕ) (t : Table) → slice_get tables place ≡ Some t → table_kinds tables place ≡ kinds_of t
kinds_at tables place t h = ap (λ (o : Option Table). elim o as (λ x. List Kind) [ Some x ↦ kinds_of x | None ↦ [] ]) h

-- ---- the keys that a CREATE TABLE writes

key_written : (schema : Schema) (own : Altered) (kinds : List Kind) → ColumnsMatch own.columns kinds → (time : ConstraintTime) (r : WrittenRule)
    → unknown_in_rule schema (creating schema own) own r ≡ None → (k : Key) → key_of_written own.columns time r ≡ Some k → KeyMatches own.columns kinds k
key_written schema own kinds m time (unique nulls names) u k h = subst (KeyMatches own.columns kinds) (same_Some _ k h) (key_of_names own.columns kinds m names u false _)
key_written schema own kinds m time (primary_key names) u k h = subst (KeyMatches own.columns kinds) (same_Some _ k h) (key_of_names own.columns kinds m names u true _)
key_written schema own kinds m time (not_null column) u k h = cc
key_written schema own kinds m time (check c) u k h = cc
key_written schema own kinds m time (foreign_key columns r) u k h = cc

-- ---- constraints

written_suit : (schema : Schema) (own : Altered) (tables : List Table) (kinds : List Kind) → OwnFits schema own tables kinds → (ks : List WrittenConstraint)
    → first_of (λ k. unknown_in_rule schema (creating schema own) own k.rule) ks ≡ None → list_any (faulty_constraint schema own) ks ≡ false
    → list_any (λ k. misshaped_rule (creating schema own) own k.rule) ks ≡ false
    → list_all (constraint_suits tables) (map (bound_place schema own) (enumerate_from 1 ks)) ≡ true
written_suit schema own tables kinds o ks u f w =
    all_by (constraint_suits tables) (map (bound_place schema own) (enumerate_from 1 ks))
    (λ j k h.
    let made = made_of (bound_place schema own) (enumerate_from 1 ks) j k h in
    let placed = placed_at 1 ks j made.0 made.1 in
    let known = none_told (λ (x : WrittenConstraint). unknown_in_rule schema (creating schema own) own x.rule) ks u j made.0.1 placed.0 in
    let fine = or_parts (is_contradictory made.0.1.time) (faulty_rule schema own made.0.1.rule) (any_at (faulty_constraint schema own) ks f j made.0.1 placed.0) in
    let shaped = any_at (λ (x : WrittenConstraint). misshaped_rule (creating schema own) own x.rule) ks w j made.0.1 placed.0 in
    ap (constraint_suits tables) made.2
    ∙ and_from _ _ o.there
    (ap (λ (l : List Kind). rule_suits tables l (bound_place schema own made.0).rule) o.of_kinds
    ∙ rule_of_written_suits schema (creating schema own) own tables kinds o made.0.1.rule known fine.1 shaped))

-- the key that each foreign key names is there, or comes with it
written_keys_there : (schema : Schema) (own : Altered) (ks : List WrittenConstraint) → AllNamed schema own (schema.constraints ++ map (bound_place schema own) (enumerate_from 1 ks))
    → first_of (λ k. unknown_in_rule schema (creating schema own) own k.rule) ks ≡ None → list_any (faulty_constraint schema own) ks ≡ false
    → list_all (has_named_key (schema.constraints ++ map (bound_place schema own) (enumerate_from 1 ks))) (map (bound_place schema own) (enumerate_from 1 ks)) ≡ true
written_keys_there schema own ks n u f =
    all_by (has_named_key (schema.constraints ++ map (bound_place schema own) (enumerate_from 1 ks))) (map (bound_place schema own) (enumerate_from 1 ks))
    (λ j k h.
    let made = made_of (bound_place schema own) (enumerate_from 1 ks) j k h in
    let placed = placed_at 1 ks j made.0 made.1 in
    let known = none_told (λ (x : WrittenConstraint). unknown_in_rule schema (creating schema own) own x.rule) ks u j made.0.1 placed.0 in
    let fine = or_parts (is_contradictory made.0.1.time) (faulty_rule schema own made.0.1.rule) (any_at (faulty_constraint schema own) ks f j made.0.1 placed.0) in
    ap (has_named_key (schema.constraints ++ map (bound_place schema own) (enumerate_from 1 ks))) made.2
    ∙ key_of_rule_there schema (creating schema own) own (schema.constraints ++ map (bound_place schema own) (enumerate_from 1 ks)) n made.0.1.rule known fine.1)

-- ---- CREATE TABLE

pub table_fits : (schema : Schema) → list_all table_suits schema.tables ≡ true → list_all (constraint_suits schema.tables) schema.constraints ≡ true
    → (name : List ℕ) (elements : List TableElement) → Accepted schema (statement.CreateTable name elements) (bound_table schema name elements)
    → TableFits schema (record { name = name; columns = map bound_column_definition (written_columns elements) })
    (map (bound_place schema (created_table schema name elements)) (enumerate_from 1 (written_constraints elements)))
table_fits schema d c name elements a =
    let own = created_table schema name elements in
    let ks = written_constraints elements in
    let columns_again = column_twice (map (λ (x : ColumnDefinition). x.name) (written_columns elements)) in
    let listed = none_parts (told_if (has_table schema name) (in_use_fault (table_item name)))
    (option_or (duplicate_in_constraints schema name 1 [] (written_constraints (before_column_again [] elements))) columns_again) a.single in
    let free = untold (has_table schema name) (in_use_fault (table_item name)) listed.0 in
    let ones = none_parts (duplicate_in_constraints schema name 1 [] (written_constraints (before_column_again [] elements))) columns_again listed.1 in
    let once = none_mapped (λ (n : List ℕ). twice_fault (column_item None n)) (first_again (λ n. n) [] (map (λ (x : ColumnDefinition). x.name) (written_columns elements))) ones.1 in
    let whole = text_whole [] elements once in
    let some = or_parts (length (written_columns elements) == 0) _ a.allowed in
    let defaults = or_parts (list_any (λ (x : ColumnDefinition). not (default_fits x)) (written_columns elements)) _ some.1 in
    let faults = or_parts (two_primary_keys ks) (list_any (faulty_constraint schema own) ks) defaults.1 in
    let room = or_parts (nat_le MOST_TABLES (length schema.tables)) _ a.small in
    let columns = or_parts (nat_lt MOST_COLUMNS (length (written_columns elements))) _ room.1 in
    let constraints = or_parts (nat_lt MOST_CONSTRAINTS (length ks)) _ columns.1 in
    let types = or_parts (list_any (λ (x : ColumnDefinition). type_beyond_limits x.kind) (written_columns elements)) (list_any (λ (k : WrittenConstraint). long_key k.rule) ks) constraints.1 in
    let match = new_columns_match elements columns.0 types.0 in
    let table : Table = record { name = name; columns = map bound_column_definition (written_columns elements) } in
    let kinds = kinds_of table in
    let tables = schema.tables ++ table ∷ [] in
    let length_is = mapped_length (bound_place schema own) (enumerate_from 1 ks) ∙ enumerated_length 1 ks in
    let there = last_there schema.tables table in
    let fits : OwnFits schema own tables kinds = record {
      there = place_is_there tables (length schema.tables) table there;
      of_kinds = kinds_at tables (length schema.tables) table there;
      columns = match;
      keys = λ j k h.
          let made = made_by (λ (x : WrittenConstraint). key_of_written own.columns x.time x.rule) ks j k h in
          key_written schema own kinds match made.1.time made.1.rule
          (none_told (λ (x : WrittenConstraint). unknown_in_rule schema (creating schema own) own x.rule) ks a.known made.0 made.1 made.2) k made.3;
      others = stored_fits schema d c tables (λ place t h. still_there schema.tables table place t h);
    } in
    record {
      room = let x = room.0 in grind (arith, nat_tests);
      few = let x = constraints.0 in let e = length_is in grind (arith, nat_tests);
      own = all_on schema own (enumerate_from 1 ks);
      free = free;
      names = new_names schema own ks (ap (λ (es : List TableElement). duplicate_in_constraints schema name 1 [] (written_constraints es)) (sym whole) ∙ ones.0);
      suit = columns_suit elements columns.0 defaults.0 (columns_once [] (map (λ (x : ColumnDefinition). x.name) (written_columns elements)) once) types.0 name;
      rules = written_suit schema own tables kinds fits ks a.known faults.1 a.shaped;
      keys = written_keys_there schema own ks (record {
        own_keys = written_keys_named schema own ks;
        others = others_named schema d c (map (bound_place schema own) (enumerate_from 1 ks));
      }) a.known faults.1;
    }

pub tables_fit : TablesFit
tables_fit schema s table constraints d c h = by s (accepted schema s (plan.Schema (CreateTable table constraints)) h)
  where
    by : (x : Statement) → Accepted schema x (plan.Schema (CreateTable table constraints)) → TableFits schema table constraints
    by (statement.CreateTable name elements) a =
        let own = created_table schema name elements in
        let written : Table = record { name = name; columns = map bound_column_definition (written_columns elements) } in
        let bound_ones = map (bound_place schema own) (enumerate_from 1 (written_constraints elements)) in
        let is = a.is in
        let same_table : written ≡ table = cc in
        let same_ones : bound_ones ≡ constraints = cc in
        let fits = table_fits schema d c name elements
        (record { known = a.known; single = a.single; allowed = a.allowed; shaped = a.shaped; small = a.small; writable = a.writable; is = refl }) in
        subst (λ (t : Table). TableFits schema t constraints) same_table (subst (TableFits schema written) same_ones fits)
    by (statement.AlterTable name k) a = no_table (slice_get schema.tables (table_id (table_names schema) name)) a.is
      where
        no_table : (o : Option Table)
            → elim o as (λ x. Plan) [ Some t ↦ bound_addition schema (altered_at schema (table_id (table_names schema) name) t) (table_constraint k) | None ↦ plan.Transaction transaction.Commit ]
            ≡ plan.Schema (CreateTable table constraints)
            → TableFits schema table constraints
        no_table None e = cc
        no_table (Some t) e = cc
    by (statement.CreateTrigger t) a = let e = a.is in cc
    by (statement.DropTrigger name) a = let e = a.is in cc
    by (statement.Insert i) a = let e = a.is in cc
    by (statement.Update u) a = let e = a.is in cc
    by (statement.Delete x) a = let e = a.is in cc
    by (statement.Select x) a = let e = a.is in cc
    by statement.StartTransaction a = let e = a.is in cc
    by statement.Commit a = let e = a.is in cc
    by statement.Rollback a = let e = a.is in cc
    by (statement.Savepoint name) a = let e = a.is in cc
    by (statement.Release name) a = let e = a.is in cc
    by (statement.RollbackTo name) a = let e = a.is in cc
    by (statement.SetConstraints l m) a = let e = a.is in cc

-- ---- ALTER TABLE

as_many_places : (table place : ℕ) (ks : List Constraint) → length (places_from table place ks) ≡ length (filter (λ (k : Constraint). k.table == table) ks)
as_many_places table place [] = refl
as_many_places table place (k ∷ ks) = by (k.table == table) (as_many_places table (place + 1) ks)
  where
    by : (b : Bool) → length (places_from table (place + 1) ks) ≡ length (filter (λ (x : Constraint). x.table == table) ks)
        → length (if b then place ∷ places_from table (place + 1) ks else places_from table (place + 1) ks)
        ≡ length (cond b (k ∷ filter (λ (x : Constraint). x.table == table) ks) (filter (λ (x : Constraint). x.table == table) ks))
    by true h = ap suc h
    by false h = h

-- what is asked of the table of this name
asked_of : (schema : Schema) (name : List ℕ) (place : ℕ) (t : Table) → table_place schema.tables name ≡ Some place → slice_get schema.tables place ≡ Some t
    → (asks : Altered → Bool) → of_altered schema name asks ≡ asks (altered_at schema place t)
asked_of schema name place t h g asks =
    ap (λ (o : Option ℕ). elim o as (λ x. Bool) [ Some p ↦ elim (slice_get schema.tables p) as (λ x. Bool) [ Some x ↦ asks (altered_at schema p x) | None ↦ false ] | None ↦ false ]) h
    ∙ ap (λ (o : Option Table). elim o as (λ x. Bool) [ Some x ↦ asks (altered_at schema place x) | None ↦ false ]) g

-- and what is told of it
told_at : {A : Type 0} (schema : Schema) (name : List ℕ) (place : ℕ) (t : Table) → table_place schema.tables name ≡ Some place → slice_get schema.tables place ≡ Some t
    → (tells : Altered → Option A) → told_of_altered schema name tells ≡ tells (altered_at schema place t)
told_at {A} schema name place t h g tells =
    ap (λ (o : Option ℕ). elim o as (λ x. Option A) [ Some p ↦ elim (slice_get schema.tables p) as (λ x. Option A) [ Some x ↦ tells (altered_at schema p x) | None ↦ None ] | None ↦ None ]) h
    ∙ ap (λ (o : Option Table). elim o as (λ x. Option A) [ Some x ↦ tells (altered_at schema place x) | None ↦ None ]) g

addition_fits : (schema : Schema) → list_all table_suits schema.tables ≡ true → list_all (constraint_suits schema.tables) schema.constraints ≡ true
    → (place : ℕ) (t : Table) → slice_get schema.tables place ≡ Some t → (k : WrittenConstraint)
    → unknown_in_rule schema (table_names schema) (altered_at schema place t) k.rule ≡ None
    → has_constraint schema (added_name schema (altered_at schema place t) k) ≡ false
    → faulty_constraint schema (altered_at schema place t) k ≡ false
    → misshaped_rule (table_names schema) (altered_at schema place t) k.rule ≡ false
    → nat_le MOST_CONSTRAINTS (length (constraints_of schema place)) ≡ false
    → ConstraintFits schema (bound_constraint schema (table_names schema) (altered_at schema place t) (added_name schema (altered_at schema place t) k) k)
addition_fits schema d c place t h k u n f w l =
    let own = altered_at schema place t in
    let there = place_is_there schema.tables place t h in
    let kinds = kinds_at schema.tables place t h in
    let fine = or_parts (is_contradictory k.time) (faulty_rule schema own k.rule) f in
    let many = as_many_places place 0 schema.constraints in
    let fits : OwnFits schema own schema.tables (kinds_of t) = record {
      there = there;
      of_kinds = kinds;
      columns = stored_match t (few_columns t (all_at table_suits schema.tables d place t h));
      keys = stored_keys_match schema d c place t h;
      others = stored_fits schema d c schema.tables (λ p x g. g);
    } in
    record {
      there = grind (arith, nat_tests);
      few = grind (arith, nat_tests);
      free = n;
      suits = and_from _ _ there
          (ap (λ (ks : List Kind). rule_suits schema.tables ks (bound_rule schema (table_names schema) own k.rule)) kinds
          ∙ rule_of_written_suits schema (table_names schema) own schema.tables (kinds_of t) fits k.rule u fine.1 w);
      key = key_of_rule_there schema (table_names schema) own
          (schema.constraints ++ bound_constraint schema (table_names schema) own (added_name schema own k) k ∷ [])
          (record {
            own_keys = stored_keys_named schema d c (bound_constraint schema (table_names schema) own (added_name schema own k) k ∷ []) place t h;
            others = others_named schema d c (bound_constraint schema (table_names schema) own (added_name schema own k) k ∷ []);
          }) k.rule u fine.1;
    }

the_addition : (schema : Schema) → list_all table_suits schema.tables ≡ true → list_all (constraint_suits schema.tables) schema.constraints ≡ true
    → (name : List ℕ) (k : TableConstraint) (kk : Constraint) → Accepted schema (statement.AlterTable name k) (plan.Schema (AddConstraint kk)) → ConstraintFits schema kk
unfolding table_id
the_addition schema d c name k kk a = by (search (table_is_called name) schema.tables)
  where
    parts : (unknown_in_target (table_names schema) name ≡ None) × (told_of_altered schema name (λ own. unknown_in_rule schema (table_names schema) own (table_constraint k).rule) ≡ None)
    parts = none_parts (unknown_in_target (table_names schema) name) (told_of_altered schema name (λ own. unknown_in_rule schema (table_names schema) own (table_constraint k).rule)) a.known

    there_is : not (is_table (table_names schema) name) ≡ false
    there_is = untold (not (is_table (table_names schema) name)) (table_item name) parts.0

    by : Search (table_is_called name) schema.tables → ConstraintFits schema kk
    by (nothing n) = let e : true ≡ false = ap (λ (o : Option ℕ). not (is_some o)) (sym (none_position (table_is_called name) schema.tables n)) ∙ there_is in cc
    by (something place t f) =
        let at = first_position (table_is_called name) schema.tables place t f in
        let there = first_there (table_is_called name) schema.tables place t f in
        let own = altered_at schema place t in
        let w = table_constraint k in
        let known = sym (told_at schema name place t at there (λ o. unknown_in_rule schema (table_names schema) o w.rule)) ∙ parts.1 in
        let single = none_parts (told_of_altered schema name (λ o. addition_in_use schema o w)) (duplicate_in_rule w.rule) a.single in
        let unused = untold (has_constraint schema (added_name schema own w)) _ (sym (told_at schema name place t at there (λ o. addition_in_use schema o w)) ∙ single.0) in
        let allowed = sym (asked_of schema name place t at there (λ o. faulty_addition schema o w)) ∙ a.allowed in
        let fine = or_parts (is_primary_rule w.rule && elim (primary_key_of own.keys) as (λ x. Bool) [ Some p ↦ true | None ↦ false ]) (faulty_constraint schema own w) allowed in
        let shaped = sym (asked_of schema name place t at there (λ o. misshaped_rule (table_names schema) o w.rule)) ∙ a.shaped in
        let small = sym (asked_of schema name place t at there (λ o. addition_beyond_limits schema o w)) ∙ a.small in
        let few = or_parts (nat_le MOST_CONSTRAINTS (length (constraints_of schema place))) (long_key w.rule) small in
        let fits = addition_fits schema d c place t there w known unused fine.1 shaped few.0 in
        let plan_is : alteration schema place w (Some t) ≡ plan.Schema (AddConstraint kk) =
        sym (ap (alteration schema place w) there) ∙ sym (ap (λ (o : Option ℕ). alteration schema (unwrap_or o 0) w (slice_get schema.tables (unwrap_or o 0))) at) ∙ a.is in
        let same : bound_constraint schema (table_names schema) own (added_name schema own w) w ≡ kk = cc in
        subst (ConstraintFits schema) same fits

pub additions_fit : AdditionsFit
additions_fit schema s k d c h = by s (accepted schema s (plan.Schema (AddConstraint k)) h)
  where
    by : (x : Statement) → Accepted schema x (plan.Schema (AddConstraint k)) → ConstraintFits schema k
    by (statement.AlterTable name w) a = the_addition schema d c name w k a
    by (statement.CreateTable name elements) a = let e = a.is in cc
    by (statement.CreateTrigger t) a = let e = a.is in cc
    by (statement.DropTrigger name) a = let e = a.is in cc
    by (statement.Insert i) a = let e = a.is in cc
    by (statement.Update u) a = let e = a.is in cc
    by (statement.Delete x) a = let e = a.is in cc
    by (statement.Select x) a = let e = a.is in cc
    by statement.StartTransaction a = let e = a.is in cc
    by statement.Commit a = let e = a.is in cc
    by statement.Rollback a = let e = a.is in cc
    by (statement.Savepoint name) a = let e = a.is in cc
    by (statement.Release name) a = let e = a.is in cc
    by (statement.RollbackTo name) a = let e = a.is in cc
    by (statement.SetConstraints l m) a = let e = a.is in cc
