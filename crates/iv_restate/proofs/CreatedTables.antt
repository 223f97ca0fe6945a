-- CREATE TABLE creates just the table and the constraints that it is written from.
use Rattle.std.proofs.Common.{◌≡◌, ℕ, ◌+◌, Bool, List, [], ◌∷◌, ◌++◌, ◌∙◌, Option, Some, None, refl, sym, ap, subst, map, take, drop, append_assoc}
use Rattle.std.specs.Prelude.{filter_map, flat_map, unwrap_or}
use Rattle.std.specs.List.{enumerate_from}
use Rattle.std.proofs.lemmas.Grind.{flat_map-append}
use Rattle.std.proofs.lemmas.List.{append-nil, take-append-drop}
use Rattle.std.proofs.lemmas.List.Elements.{filter_map-append}
use Rattle.iv_restate.specs.Types.{ConstraintMode, Column, Table, ColumnConstraint, ColumnDefinition, TableConstraint, TableElement, TableRule, Rule, Constraint}
use Rattle.iv_restate.specs.Types.element
use Rattle.iv_restate.specs.Types.rule
use Rattle.iv_catalogue.specs.Catalogues.{Schema}
use Rattle.iv_catalogue.specs.Names.{generated_name}
use Rattle.iv_resolution.specs.Types.plan
use Rattle.iv_resolution.specs.Types.schema.{CreateTable}
use Rattle.iv_resolution.specs.Scopes.{NamedColumn, Names, named_column, named_columns, place_of}
use Rattle.iv_resolution.specs.Constraints.{Altered, WrittenConstraint, column_definition, written_columns, defined_column, defined_columns, element_constraints, written_constraints, column_constraint, table_constraint, rule_of_column, is_deferrable, initial_mode}
use Rattle.iv_resolution.specs.Tables.{created_table, creating}
use Rattle.iv_resolution.specs.Bound.{bound_column_definition, bound_rule, bound_constraint, bound_place, bound_table}
use Rattle.iv_restate.specs.Constraints.{time_of, column_rule_of, column_constraint_of, table_rule_of, table_constraint_of, with_rule, definition_of, written_name}
use Rattle.iv_restate.specs.Statements.{before_null, from_null, up_to_null, after_null, count_before, count_up_to, constraint_elements, column_element, elements_of}
use Rattle.iv_restate.specs.TableLaws.{AreDefined, AreNamed, IsRule, IsOwn, AllOwn, IsOfTable, AreOfTable, IsOfColumn, AreOfColumn, AreInOrder, AreNameable, TablesAreThemselves}
use Rattle.iv_restate.specs.Laws.{IsColumn}
use Rattle.iv_restate.proofs.Unbound.{check_bound}
use Rattle.iv_restate.proofs.WrittenTables.{columns_bound, constraint_bound, deferrable_bound, mode_bound, reference_bound}

-- ---- columns

no_columns : (xs : List TableConstraint) (rest : List TableElement)
    → filter_map column_definition (map element.Constraint xs ++ rest) ≡ filter_map column_definition rest
no_columns [] rest = refl
no_columns (x ∷ xs) rest = no_columns xs rest

-- the elements after those that come before the next column
abbrev rest_of : List Table → ℕ → Column → List Column → List Constraint → List TableElement
rest_of tables place c columns ks =
    column_element tables c (up_to_null place (from_null place ks)) ∷ elements_of tables (place + 1) columns (after_null place (from_null place ks))

columns_again : (tables : List Table) (place : ℕ) (columns : List Column) (ks : List Constraint) → AreDefined columns
    → map bound_column_definition (written_columns (elements_of tables place columns ks)) ≡ columns
columns_again tables place [] ks h =
    ap (λ es. map bound_column_definition (filter_map column_definition es)) (sym (append-nil (constraint_elements tables ks)))
    ∙ ap (map bound_column_definition) (no_columns (filter_map (table_constraint_of tables) ks) [])
columns_again tables place (c ∷ columns) ks (h, i) =
    ap (map bound_column_definition) (no_columns (filter_map (table_constraint_of tables) (before_null place ks)) (rest_of tables place c columns ks))
    ∙ ap (λ x. x ∷ map bound_column_definition (written_columns (elements_of tables (place + 1) columns (after_null place (from_null place ks)))))
    (columns_bound c (map (column_constraint_of tables) (up_to_null place (from_null place ks))) h.0 h.1)
    ∙ ap (λ xs. c ∷ xs) (columns_again tables (place + 1) columns (after_null place (from_null place ks)) i)

names_again : (tables : List Table) (place : ℕ) (columns : List Column) (ks : List Constraint)
    → defined_columns (elements_of tables place columns ks) ≡ named_columns columns
names_again tables place [] ks =
    ap (λ es. map defined_column (filter_map column_definition es)) (sym (append-nil (constraint_elements tables ks)))
    ∙ ap (map defined_column) (no_columns (filter_map (table_constraint_of tables) ks) [])
names_again tables place (c ∷ columns) ks =
    ap (map defined_column) (no_columns (filter_map (table_constraint_of tables) (before_null place ks)) (rest_of tables place c columns ks))
    ∙ ap (λ xs. named_column c ∷ xs) (names_again tables (place + 1) columns (after_null place (from_null place ks)))

-- ---- constraints: each has its name, and means just that one

abbrev Mean : Schema → Altered → List WrittenConstraint → List Constraint → Type 0
Mean schema own [] [] = Unit {0}
Mean schema own [] (k ∷ ks) = ⊥
Mean schema own (w ∷ ws) [] = ⊥
Mean schema own (w ∷ ws) (k ∷ ks) =
    (w.name ≡ written_name k.name) × (bound_constraint schema (creating schema own) own k.name w ≡ k) × Mean schema own ws ks

mean_both : (schema : Schema) (own : Altered) (ws : List WrittenConstraint) (ks : List Constraint) (vs : List WrittenConstraint) (js : List Constraint)
    → Mean schema own ws ks → Mean schema own vs js → Mean schema own (ws ++ vs) (ks ++ js)
mean_both schema own [] [] vs js h i = i
mean_both schema own [] (k ∷ ks) vs js h i = absurd h
mean_both schema own (w ∷ ws) [] vs js h i = absurd h
mean_both schema own (w ∷ ws) (k ∷ ks) vs js h i = (h.0, h.1, mean_both schema own ws ks vs js h.2 i)

numbered : (schema : Schema) (own : Altered) (n : ℕ) (ws : List WrittenConstraint) (ks : List Constraint) → Mean schema own ws ks
    → AreNameable own.name n ks → map (bound_place schema own) (enumerate_from n ws) ≡ ks
numbered schema own n [] [] h i = refl
numbered schema own n [] (k ∷ ks) h i = absurd h
numbered schema own n (w ∷ ws) [] h i = absurd h
numbered schema own n (w ∷ ws) (k ∷ ks) h i =
    ap (λ o. bound_constraint schema (creating schema own) own (unwrap_or o (generated_name own.name n)) w ∷ map (bound_place schema own) (enumerate_from (n + 1) ws)) h.0
    ∙ ap (λ name. bound_constraint schema (creating schema own) own name w ∷ map (bound_place schema own) (enumerate_from (n + 1) ws)) i.0
    ∙ ap (λ x. x ∷ map (bound_place schema own) (enumerate_from (n + 1) ws)) h.1
    ∙ ap (λ xs. k ∷ xs) (numbered schema own (n + 1) ws ks h.2 i.1)

-- ---- elements of their own

filter_some : {X Y : Type 0} (f : X → Option Y) (x : X) (xs : List X) (y : Y) → f x ≡ Some y → filter_map f (x ∷ xs) ≡ y ∷ filter_map f xs
filter_some f x xs y e = rw e refl

is_table : (tables : List Table) (columns : List NamedColumn) (r : Rule) → IsOfTable r → table_rule_of tables columns r ≡ None → ⊥
is_table tables columns (rule.NotNull p) h e = absurd h
is_table tables columns (rule.Check c) h e = cc
is_table tables columns (rule.Unique nulls places) h e = cc
is_table tables columns (rule.PrimaryKey places) h e = cc
is_table tables columns (rule.ForeignKey f) h e = cc

one_part : (tables : List Table) (schema : Schema) (own : Altered) (k : Constraint) (ks : List Constraint) (o : Option TableRule)
    → table_rule_of tables own.columns k.rule ≡ o → IsOfTable k.rule → IsOwn tables schema own k
    → Mean schema own (written_constraints (constraint_elements tables ks)) ks
    → Mean schema own (written_constraints (constraint_elements tables (k ∷ ks))) (k ∷ ks)
one_part tables schema own k ks (Some r) found h i more =
    let e : table_constraint_of tables k ≡ Some (with_rule k r) =
    ap (λ cs. elim (table_rule_of tables cs k.rule) as (λ _. Option TableConstraint) [ Some x ↦ Some (with_rule k x) | None ↦ None ]) i.columns
    ∙ ap (λ o. elim o as (λ _. Option TableConstraint) [ Some x ↦ Some (with_rule k x) | None ↦ None ]) found in
    subst (λ es. Mean schema own (flat_map element_constraints (map element.Constraint es)) (k ∷ ks)) (sym (filter_some (table_constraint_of tables) k ks (with_rule k r) e))
    (refl, constraint_bound tables schema (creating schema own) own k r i found, more)
one_part tables schema own k ks None found h i more = absurd (is_table tables own.columns k.rule h found)

table_part : (tables : List Table) (schema : Schema) (own : Altered) (ks : List Constraint) → AreOfTable ks → AllOwn tables schema own ks
    → Mean schema own (written_constraints (constraint_elements tables ks)) ks
table_part tables schema own [] h i = tt {0}
table_part tables schema own (k ∷ ks) (h, hs) (i, is) =
    one_part tables schema own k ks (table_rule_of tables own.columns k.rule) refl h i (table_part tables schema own ks hs is)

-- ---- constraints of a column

abbrev meant : List ℕ → ℕ → Rule → Bool → ConstraintMode → Constraint
meant name table rule deferrable initially = record { name = name; table = table; rule = rule; deferrable = deferrable; initially = initially }

column_rule_bound : (tables : List Table) (schema : Schema) (names : Names) (own : Altered) (place : ℕ) (name : List ℕ) (r : Rule)
    → place_of own.columns name ≡ place → IsOfColumn place r → IsRule tables schema own r
    → bound_rule schema names own (rule_of_column name (column_rule_of tables own.columns r)) ≡ r
column_rule_bound tables schema names own place name (rule.NotNull p) n e h = ap rule.NotNull (n ∙ sym e)
column_rule_bound tables schema names own place name (rule.Check c) n e h = ap rule.Check (check_bound own.columns c h names own.name)
column_rule_bound tables schema names own place name (rule.Unique nulls places) n e h =
    ap (λ x. rule.Unique nulls (x ∷ [])) n ∙ ap (rule.Unique nulls) (sym e)
column_rule_bound tables schema names own place name (rule.PrimaryKey places) n e h =
    ap (λ x. rule.PrimaryKey (x ∷ [])) n ∙ ap rule.PrimaryKey (sym e)
column_rule_bound tables schema names own place name (rule.ForeignKey k) n e (h, i) =
    ap rule.ForeignKey (reference_bound tables schema own k (name ∷ []) (ap (λ x. x ∷ []) n ∙ sym e) i)

column_constraint_bound : (tables : List Table) (schema : Schema) (own : Altered) (place : ℕ) (name : List ℕ) (k : Constraint)
    → place_of own.columns name ≡ place → IsOfColumn place k.rule → IsOwn tables schema own k
    → bound_constraint schema (creating schema own) own k.name (column_constraint name (column_constraint_of tables k)) ≡ k
column_constraint_bound tables schema own place name k n c h =
    ap (λ x. meant k.name own.table (bound_rule schema (creating schema own) own (rule_of_column name (column_rule_of tables x k.rule))) (is_deferrable (time_of k.deferrable k.initially)) (initial_mode (time_of k.deferrable k.initially))) h.columns
    ∙ ap (λ x. meant k.name x (bound_rule schema (creating schema own) own (rule_of_column name (column_rule_of tables own.columns k.rule))) (is_deferrable (time_of k.deferrable k.initially)) (initial_mode (time_of k.deferrable k.initially))) (sym h.table)
    ∙ ap (λ x. meant k.name k.table x (is_deferrable (time_of k.deferrable k.initially)) (initial_mode (time_of k.deferrable k.initially))) (column_rule_bound tables schema (creating schema own) own place name k.rule n c h.rule)
    ∙ ap (λ x. meant k.name k.table k.rule x (initial_mode (time_of k.deferrable k.initially))) (deferrable_bound k.deferrable k.initially)
    ∙ ap (λ x. meant k.name k.table k.rule k.deferrable x) (mode_bound k.deferrable k.initially)

column_part : (tables : List Table) (schema : Schema) (own : Altered) (place : ℕ) (name : List ℕ) (ks : List Constraint)
    → place_of own.columns name ≡ place → AreOfColumn place ks → AllOwn tables schema own ks
    → Mean schema own (map (column_constraint name) (map (column_constraint_of tables) ks)) ks
column_part tables schema own place name [] n h i = tt {0}
column_part tables schema own place name (k ∷ ks) n (h, hs) (i, is) =
    (refl, column_constraint_bound tables schema own place name k n h i, column_part tables schema own place name ks n hs is)

-- ---- all elements

own_parts : (tables : List Table) (schema : Schema) (own : Altered) (ks js : List Constraint) → AllOwn tables schema own (ks ++ js)
    → AllOwn tables schema own ks × AllOwn tables schema own js
own_parts tables schema own [] js h = (tt, h)
own_parts tables schema own (k ∷ ks) js (h, hs) = let more = own_parts tables schema own ks js hs in ((h, more.0), more.1)

own_cut : (tables : List Table) (schema : Schema) (own : Altered) (n : ℕ) (ks : List Constraint) → AllOwn tables schema own ks
    → AllOwn tables schema own (take n ks) × AllOwn tables schema own (drop n ks)
own_cut tables schema own n ks h = own_parts tables schema own (take n ks) (drop n ks) (subst (AllOwn tables schema own) (sym (take-append-drop n ks)) h)

whole : (tables : List Table) (schema : Schema) (own : Altered) (place : ℕ) (columns : List Column) (ks : List Constraint)
    → AreNamed own.columns place columns → AreInOrder place columns ks → AllOwn tables schema own ks
    → Mean schema own (written_constraints (elements_of tables place columns ks)) ks
whole tables schema own place [] ks n o h = table_part tables schema own ks o h
whole tables schema own place (c ∷ columns) ks (n, ns) o h =
    let cut = own_cut tables schema own (count_before place ks) ks h in
    let more = own_cut tables schema own (count_up_to place (from_null place ks)) (from_null place ks) cut.1 in
    let first = table_part tables schema own (before_null place ks) o.0 cut.0 in
    let second = column_part tables schema own place c.name (up_to_null place (from_null place ks)) n o.1 more.0 in
    let third = whole tables schema own (place + 1) columns (after_null place (from_null place ks)) ns o.2 more.1 in
    let one = written_constraints (constraint_elements tables (before_null place ks)) in
    let two = map (column_constraint c.name) (map (column_constraint_of tables) (up_to_null place (from_null place ks))) in
    let three = written_constraints (elements_of tables (place + 1) columns (after_null place (from_null place ks))) in
    let all : before_null place ks ++ (up_to_null place (from_null place ks) ++ after_null place (from_null place ks)) ≡ ks =
    ap (λ xs. before_null place ks ++ xs) (take-append-drop (count_up_to place (from_null place ks)) (from_null place ks)) ∙ take-append-drop (count_before place ks) ks in
    subst (λ ws. Mean schema own ws ks) (sym (flat_map-append element_constraints (constraint_elements tables (before_null place ks)) (rest_of tables place c columns ks)))
    (subst (Mean schema own (one ++ (two ++ three))) all
    (mean_both schema own one (before_null place ks) (two ++ three) (up_to_null place (from_null place ks) ++ after_null place (from_null place ks)) first
    (mean_both schema own two (up_to_null place (from_null place ks)) three (after_null place (from_null place ks)) second third)))

pub tables_bound : TablesAreThemselves
tables_bound tables schema t ks d n o names h =
    let own = created_table schema t.name (elements_of tables 0 t.columns ks) in
    let named = subst (λ cs. AreNamed cs 0 t.columns) (sym (names_again tables 0 t.columns ks)) n in
    ap (λ cs. plan.Schema (CreateTable (record { name = t.name; columns = cs }) (map (bound_place schema own) (enumerate_from 1 (written_constraints (elements_of tables 0 t.columns ks)))))) (columns_again tables 0 t.columns ks d)
    ∙ ap (λ xs. plan.Schema (CreateTable t xs)) (numbered schema own 1 (written_constraints (elements_of tables 0 t.columns ks)) ks (whole tables schema own 0 t.columns ks named o h) names)
