-- The rule of a constraint that deserves no cause suits the tables.
use Rattle.std.proofs.Common.{◌≡◌, ℕ, Bool, true, false, not, ◌&&◌, ◌||◌, ◌==◌, List, [], ◌∙◌, Option, Some, None, refl, sym, ap, length, zip, slice_get, option_map, subst, arith}
use Rattle.std.proofs.lemmas.Bool.{and_from, or_parts}
use Rattle.std.proofs.lemmas.Option.{same_Some}
use Rattle.std.specs.List.{list_any, list_all}
use Rattle.std.specs.Str.{bytes_eq}
use Rattle.iv_laws_fitting.specs.Types.{Kind, Table}
use Rattle.iv_syntax.specs.declared.table.References.{References}
use Rattle.iv_catalogue.specs.Catalogues.{Schema}
use Rattle.iv_resolution.specs.Scopes.{Names, named_columns, has_column}
use Rattle.iv_resolution.specs.Items.{column_item}
use Rattle.iv_resolution.specs.Constraints.{WrittenRule, not_null, unique, primary_key, check, foreign_key, Key, places_of, stored_keys, constraints_of, Altered, Referenced, stored_reference, referenced, pairs_differ, faulty_reference, is_reliable}
use Rattle.iv_resolution.specs.Tables.{check_ranges, faulty_rule, misshaped_rule}
use Rattle.iv_resolution.specs.Bound.{key_places, bound_reference, bound_rule}
use Rattle.iv_resolution.specs.NameFaults.{unknown_in_columns, unknown_in_reference, unknown_in_rule}
use Rattle.iv_resolution.proofs.Told.{none_parts, untold}
use Rattle.iv_laws_fitting.specs.Naming.{table_is_called}
use Rattle.iv_laws_fitting.proofs.Firsts.{Search, nothing, something, search, first_position, first_found, first_there, none_position, none_found}
use Rattle.iv_laws_fitting.specs.PlanShapes.{kinds_of, table_kinds, is_there, table_suits}
use Rattle.iv_laws_fitting.specs.ConstraintShapes.{check_shape, pair_suits, pairs_suit, rule_suits, constraint_suits}
use Rattle.iv_laws_fitting.proofs.ColumnKinds.{ColumnsMatch, stored_match}
use Rattle.iv_laws_fitting.proofs.NewConstraints.{plain_condition_suits, check_matches, named_place, named_places, key_of_names, pairs_of_key}
use Rattle.iv_laws_fitting.proofs.Pointwise.{all_at}
use Rattle.iv_laws_fitting.proofs.References.{KeysMatch, stored_keys_match}
use Rattle.iv_laws_fitting.proofs.Targets.{few_columns, place_is_there}

-- ---- the table that a foreign key refers to

pub record ReferenceFits (tables : List Table) (t : Referenced) : Type 0 where
  pub there : is_there tables t.table ≡ true
  pub columns : ColumnsMatch t.columns (table_kinds tables t.table)
  pub keys : KeysMatch t.columns (table_kinds tables t.table) t.keys

-- the table that constraints are of, among the tables that there are then
pub record OwnFits (schema : Schema) (own : Altered) (tables : List Table) (kinds : List Kind) : Type 0 where
  pub there : is_there tables own.table ≡ true
  pub of_kinds : table_kinds tables own.table ≡ kinds
  pub columns : ColumnsMatch own.columns kinds
  pub keys : KeysMatch own.columns kinds own.keys
  pub others : (name : List ℕ) (t : Referenced) → stored_reference schema name ≡ Some t → ReferenceFits tables t

the_reference : (schema : Schema) (place : ℕ) → Table → Referenced
the_reference schema place t = record { table = place; columns = named_columns t.columns; keys = stored_keys (named_columns t.columns) (constraints_of schema place) }

kinds_at : (tables : List Table) (place : ℕ) (t : Table) → slice_get tables place ≡ Some t → table_kinds tables place ≡ kinds_of t
kinds_at tables place t h = ap (λ (o : Option Table). elim o as (λ x. List Kind) [ Some x ↦ kinds_of x | None ↦ [] ]) h

-- a table of the catalogue, if it has the same place among more tables
pub stored_fits : (schema : Schema) → list_all table_suits schema.tables ≡ true → list_all (constraint_suits schema.tables) schema.constraints ≡ true
    → (tables : List Table) → ((place : ℕ) (t : Table) → slice_get schema.tables place ≡ Some t → slice_get tables place ≡ Some t)
    → (name : List ℕ) (t : Referenced) → stored_reference schema name ≡ Some t → ReferenceFits tables t
unfolding the_reference
stored_fits schema d c tables more name t h = by (search (table_is_called name) schema.tables)
  where
    by : Search (table_is_called name) schema.tables → ReferenceFits tables t
    by (nothing n) =
        let e = sym (ap (λ (o : Option ℕ). elim o as (λ x. Option Referenced) [ Some place ↦ option_map (the_reference schema place) (slice_get schema.tables place) | None ↦ None ])
        (none_position (table_is_called name) schema.tables n)) ∙ h in cc
    by (something i s f) =
        let there = first_there (table_is_called name) schema.tables i s f in
        let is : the_reference schema i s ≡ t =
        same_Some _ _
        (sym (ap (λ (o : Option ℕ). elim o as (λ x. Option Referenced) [ Some place ↦ option_map (the_reference schema place) (slice_get schema.tables place) | None ↦ None ])
        (first_position (table_is_called name) schema.tables i s f)
        ∙ ap (option_map (the_reference schema i)) there)
        ∙ h) in
        let kinds = kinds_at tables i s (more i s there) in
        subst (ReferenceFits tables) is
        (record {
          there = place_is_there tables i s (more i s there);
          columns = subst (ColumnsMatch (named_columns s.columns)) (sym kinds) (stored_match s (few_columns s (all_at table_suits schema.tables d i s there)));
          keys = subst (λ (ks : List Kind). KeysMatch (named_columns s.columns) ks (stored_keys (named_columns s.columns) (constraints_of schema i))) (sym kinds)
              (stored_keys_match schema d c i s there);
        })

referenced_fits : (schema : Schema) (own : Altered) (tables : List Table) (kinds : List Kind) → OwnFits schema own tables kinds
    → (name : List ℕ) (t : Referenced) → referenced schema own name ≡ Some t → ReferenceFits tables t
referenced_fits schema own tables kinds o name t h = by (bytes_eq name own.name) refl
  where
    itself : Referenced
    itself = record { table = own.table; columns = own.columns; keys = own.keys }

    by : (b : Bool) → bytes_eq name own.name ≡ b → ReferenceFits tables t
    by false e = o.others name t (sym (ap (λ b. elim b as (λ x. Option Referenced) [ true ↦ Some itself | false ↦ stored_reference schema name ]) e) ∙ h)
    by true e =
        let is : itself ≡ t = same_Some _ _ (sym (ap (λ b. elim b as (λ x. Option Referenced) [ true ↦ Some itself | false ↦ stored_reference schema name ]) e) ∙ h) in
        subst (ReferenceFits tables) is
        (record {
          there = o.there;
          columns = subst (ColumnsMatch own.columns) (sym o.of_kinds) o.columns;
          keys = subst (λ (ks : List Kind). KeysMatch own.columns ks own.keys) (sym o.of_kinds) o.keys;
        })

-- ---- pairs of a foreign key

-- the columns that are referred to, by their places
pairs_of_reference : (own : Altered) (kinds : List Kind) → ColumnsMatch own.columns kinds → (columns : List (List ℕ)) → unknown_in_columns own.columns columns ≡ None
    → (tables : List Table) (t : Referenced) → ReferenceFits tables t → (names : Option (List (List ℕ))) (table : List ℕ) → unknown_in_reference table (Some t) names ≡ None
    → faulty_reference own.columns columns t names ≡ false
    → ((length (places_of own.columns columns) == length (key_places t names)) && list_all (pair_suits kinds (table_kinds tables t.table)) (zip (places_of own.columns columns) (key_places t names))) ≡ true
pairs_of_reference own kinds m columns u tables t f (Some names) table n w =
    let parts = or_parts (pairs_differ own.columns columns t.columns names) (not (list_any (is_reliable names) t.keys)) w in
    pairs_of_key own.columns kinds m columns u t.columns (table_kinds tables t.table) (record { columns = names; places = places_of t.columns names; is_primary = false; deferrable = false })
    (key_of_names t.columns (table_kinds tables t.table) f.columns names n false false) parts.0
pairs_of_reference own kinds m columns u tables t f None table n w = by (search (λ (k : Key). k.is_primary) t.keys)
  where
    places : Option Key → List ℕ
    places o = elim o [ Some k ↦ k.places | None ↦ [] ]

    fault : Option Key → Bool
    fault o = elim o [ Some k ↦ k.deferrable || pairs_differ own.columns columns t.columns k.columns | None ↦ true ]

    by : Search (λ (k : Key). k.is_primary) t.keys
        → ((length (places_of own.columns columns) == length (key_places t None)) && list_all (pair_suits kinds (table_kinds tables t.table)) (zip (places_of own.columns columns) (key_places t None))) ≡ true
    by (nothing none) = let e : true ≡ false = sym (ap fault (none_found (λ (k : Key). k.is_primary) t.keys none)) ∙ w in cc
    by (something i k first) =
        let found = first_found (λ (x : Key). x.is_primary) t.keys i k first in
        let fine = or_parts k.deferrable (pairs_differ own.columns columns t.columns k.columns) (sym (ap fault found) ∙ w) in
        ap (λ (o : Option Key). (length (places_of own.columns columns) == length (places o)) && list_all (pair_suits kinds (table_kinds tables t.table)) (zip (places_of own.columns columns) (places o))) found
        ∙ pairs_of_key own.columns kinds m columns u t.columns (table_kinds tables t.table) k (f.keys i k (first_there (λ (x : Key). x.is_primary) t.keys i k first)) fine.1

reference_suits : (schema : Schema) (own : Altered) (tables : List Table) (kinds : List Kind) → OwnFits schema own tables kinds
    → (columns : List (List ℕ)) → unknown_in_columns own.columns columns ≡ None → (r : References) (o : Option Referenced) → referenced schema own r.table ≡ o
    → unknown_in_reference r.table o r.columns ≡ None → elim o as (λ x. Bool) [ Some t ↦ faulty_reference own.columns columns t r.columns | None ↦ false ] ≡ false
    → (is_there tables (bound_reference own columns r o).referenced && pairs_suit kinds (table_kinds tables (bound_reference own columns r o).referenced) (bound_reference own columns r o)) ≡ true
reference_suits schema own tables kinds f columns u r None e n w = cc
reference_suits schema own tables kinds f columns u r (Some t) e n w =
    let fits = referenced_fits schema own tables kinds f r.table t e in
    and_from _ _ fits.there (pairs_of_reference own kinds f.columns columns u tables t fits r.columns r.table n w)

-- ---- rules

pub rule_of_written_suits : (schema : Schema) (names : Names) (own : Altered) (tables : List Table) (kinds : List Kind) → OwnFits schema own tables kinds
    → (r : WrittenRule) → unknown_in_rule schema names own r ≡ None → faulty_rule schema own r ≡ false → misshaped_rule names own r ≡ false
    → rule_suits tables kinds (bound_rule schema names own r) ≡ true
rule_of_written_suits schema names own tables kinds o (not_null column) u f w =
    named_place own.columns kinds o.columns column (untold (not (has_column own.columns column)) (column_item None column) u)
rule_of_written_suits schema names own tables kinds o (unique nulls columns) u f w = named_places own.columns kinds o.columns columns u
rule_of_written_suits schema names own tables kinds o (primary_key columns) u f w = named_places own.columns kinds o.columns columns u
rule_of_written_suits schema names own tables kinds o (check c) u f w =
    plain_condition_suits names (check_ranges own) (check_shape kinds) (check_matches own.name own.columns kinds o.columns) (omega arith) c f u w
rule_of_written_suits schema names own tables kinds o (foreign_key columns r) u f w =
    let known = none_parts (unknown_in_columns own.columns columns) (unknown_in_reference r.table (referenced schema own r.table) r.columns) u in
    reference_suits schema own tables kinds o columns known.0 r (referenced schema own r.table) refl known.1 f
