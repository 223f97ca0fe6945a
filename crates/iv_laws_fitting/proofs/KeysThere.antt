-- The key that a foreign key names is among the constraints, as the set of its columns.
use Rattle.std.proofs.Common.{◌≡◌, ℕ, zero, suc, ◌+◌, Bool, true, false, not, ◌||◌, ◌==◌, List, [], ◌∷◌, ◌++◌, ◌∙◌, Option, Some, None, refl, sym, ap, length, map, slice_get, option_map, unwrap_or, subst, arith}
use Rattle.std.proofs.lemmas.Bool.{and_from, and_parts, not-false, not-true, or_parts}
use Rattle.std.proofs.lemmas.Map.Keys.{any_passes_from_place}
use Rattle.std.proofs.lemmas.Option.{same_Some}
use Rattle.std.specs.List.{list_any, list_all, enumerate_from}
use Rattle.std.specs.Str.{bytes_eq}
use Rattle.std.proofs.lemmas.Bool.Decides.{nat_tests}
use Rattle.iv_catalogue.specs.Names.{is_among, has_repeated}
use Rattle.iv_laws_fitting.specs.Types.{Constraint, ForeignKey, Rule, Kind, Column, Table}
use Rattle.iv_laws_fitting.specs.Types.rule
use Rattle.iv_catalogue.specs.Catalogues.{Schema}
use Rattle.iv_syntax.specs.declared.table.ConstraintTime.{ConstraintTime}
use Rattle.iv_syntax.specs.declared.table.References.{References}
use Rattle.iv_machine.specs.ReferentialActions.{foreign_key}
use Rattle.iv_resolution.specs.Scopes.{NamedColumn, Names, named_columns, number, place_of}
use Rattle.iv_resolution.specs.Constraints as written
use Rattle.iv_resolution.specs.Constraints.{WrittenRule, not_null, unique, primary_key, check, WrittenConstraint, Altered, Key, Referenced, key_of_rule, key_of_written, stored_keys, written_keys, stored_reference, referenced, constraints_of, places_of, name_at, same_set, pairs_differ, faulty_reference, is_reliable}
use Rattle.iv_resolution.specs.Tables.{creating, faulty_rule}
use Rattle.iv_resolution.specs.Bound.{bound_rule, bound_place, bound_reference, key_places}
use Rattle.iv_resolution.specs.NameFaults.{unknown_in_columns, unknown_in_reference, unknown_in_rule}
use Rattle.iv_resolution.proofs.Told.{none_parts}
use Rattle.iv_store.specs.Stores.{all_among, are_same_columns, unique_columns, is_named_key, has_key}
use Rattle.iv_laws_fitting.specs.Naming.{column_is_called, table_is_called}
use Rattle.iv_laws_fitting.proofs.Firsts.{Search, nothing, something, search, later, first_position, first_found, first_there, none_position, none_found}
use Rattle.iv_laws_fitting.specs.ConstraintShapes.{is_place, rule_suits, constraint_suits}
use Rattle.iv_laws_fitting.specs.PlanShapes.{kinds_of, table_kinds, is_there, table_suits}
use Rattle.iv_laws_fitting.proofs.ColumnKinds.{stored_match, there_below}
use Rattle.iv_laws_fitting.proofs.Changes.{column_of_kind}
use Rattle.iv_laws_fitting.proofs.References.{distinct_is_first, names_kept, at_place, made_by, kept_by}
use Rattle.iv_laws_fitting.proofs.Targets.{few_columns, distinct_columns}
use Rattle.iv_laws_fitting.proofs.Pointwise.{some_pair, all_at, made_of, map_at, all_by}

-- ---- one of a list

-- some element passes
pub found_at : {X : Type 0} (p : X → Bool) (xs : List X) → list_any p xs ≡ true → (i : ℕ) × (x : X) × (slice_get xs i ≡ Some x) × (p x ≡ true)
found_at p [] h = cc
found_at {X = X} p (x ∷ xs) h = by (p x) refl h (λ g. found_at p xs g)
  where
    by : (b : Bool) → p x ≡ b → (b || list_any p xs) ≡ true → (list_any p xs ≡ true → (i : ℕ) × (y : X) × (slice_get xs i ≡ Some y) × (p y ≡ true))
        → (i : ℕ) × (y : X) × (slice_get (x ∷ xs) i ≡ Some y) × (p y ≡ true)
    by true e g later = (zero, x, refl, e)
    by false e g later = let r = later g in (suc r.0, r.1, r.2, r.3)

-- ---- names that are one

one_name : (a b : List ℕ) → bytes_eq a b ≡ true → a ≡ b
one_name [] [] h = refl
one_name [] (y ∷ ys) h = cc
one_name (x ∷ xs) [] h = cc
one_name (x ∷ xs) (y ∷ ys) h =
    let p = and_parts (x == y) (bytes_eq xs ys) h in
    let e : x ≡ y = let q = p.0 in grind (arith, nat_tests) in
    ap (λ z. z ∷ xs) e ∙ ap (λ l. y ∷ l) (one_name xs ys p.1)

same_number : (n : ℕ) → (n == n) ≡ true
same_number n = grind (arith, nat_tests)

-- places of names that are all among others are all among the places of those
among_places : (columns : List NamedColumn) (some others : List (List ℕ)) → list_all (is_among others) some ≡ true → all_among (places_of columns some) (places_of columns others) ≡ true
among_places columns some others h =
    all_by (λ c. list_any (λ d. c == d) (places_of columns others)) (places_of columns some)
    (λ j place g.
    let made = made_of (place_of columns) some j place g in
    let found = found_at (bytes_eq made.0) others (all_at (is_among others) some h j made.0 made.1) in
    let same = one_name made.0 found.1 found.3 in
    any_passes_from_place (λ d. place == d) (places_of columns others) found.0 (place_of columns found.1) (map_at (place_of columns) others found.0 ∙ ap (option_map (place_of columns)) found.2)
    (ap (λ n. n == place_of columns found.1) (made.2 ∙ ap (place_of columns) same) ∙ same_number (place_of columns found.1)))

pub same_places : (columns : List NamedColumn) (names others : List (List ℕ)) → same_set names others ≡ true → are_same_columns (places_of columns others) (places_of columns names) ≡ true
same_places columns names others h =
    let p = and_parts (list_all (is_among others) names) (list_all (is_among names) others) h in
    and_from _ _ (among_places columns others names p.1) (among_places columns names others p.0)

among_itself : (places : List ℕ) → all_among places places ≡ true
among_itself places = all_by (λ c. list_any (λ d. c == d) places) places (λ j place g. any_passes_from_place (λ d. place == d) places j place g (same_number place))

pub same_itself : (places : List ℕ) → are_same_columns places places ≡ true
same_itself places = and_from _ _ (among_itself places) (among_itself places)

-- ---- keys by name and by place

place_of_name : (t : Table) → table_suits t ≡ true → (place : ℕ) → is_place (kinds_of t) place ≡ true → place_of (named_columns t.columns) (name_at (named_columns t.columns) place) ≡ place
place_of_name t s place h =
    let columns = named_columns t.columns in
    let match = stored_match t (few_columns t s) in
    let kind = at_place (kinds_of t) place h in
    let column = column_of_kind columns (kinds_of t) match.types place kind.0 kind.1 in
    let first = distinct_is_first [] columns (ap (has_repeated []) (names_kept t.columns) ∙ not-true (has_repeated [] (map (λ (c : Column). c.name) t.columns)) (distinct_columns t s)) place column.0 column.1 in
    let few = match.few in
    let less = there_below columns place column.0 column.1 in
    let small : number place ≡ place = omega arith in
    ap (λ (o : Option NamedColumn). place_of columns (elim o as (λ x. List ℕ) [ Some c ↦ c.name | None ↦ [] ])) column.1
    ∙ ap (λ (o : Option ℕ). unwrap_or (option_map number o) 0) (first_position (column_is_called column.0.name) columns place column.0 first) ∙ small

places_of_names : (t : Table) → table_suits t ≡ true → (places : List ℕ) → list_all (is_place (kinds_of t)) places ≡ true
    → places ≡ places_of (named_columns t.columns) (map (name_at (named_columns t.columns)) places)
places_of_names t s [] h = refl
places_of_names t s (p ∷ ps) h =
    let parts = and_parts (is_place (kinds_of t) p) (list_all (is_place (kinds_of t)) ps) h in
    ap (λ n. n ∷ ps) (sym (place_of_name t s p parts.0)) ∙ ap (λ l. place_of (named_columns t.columns) (name_at (named_columns t.columns) p) ∷ l) (places_of_names t s ps parts.1)

-- a key of these columns is a constraint among these, of this table
pub record KeyNamed (all : List Constraint) (table : ℕ) (columns : List NamedColumn) (k : Key) : Type 0 where
  pub index : ℕ
  pub constraint : Constraint
  pub there : slice_get all index ≡ Some constraint
  pub on : constraint.table ≡ table
  pub unique : unique_columns constraint.rule ≡ Some k.places
  pub places : k.places ≡ places_of columns k.columns

abbrev pub KeysNamed : List Constraint → ℕ → List NamedColumn → List Key → Type 0
KeysNamed all table columns keys = (j : ℕ) (k : Key) → slice_get keys j ≡ Some k → KeyNamed all table columns k

earlier_there : {X : Type 0} (xs ys : List X) (i : ℕ) (x : X) → slice_get xs i ≡ Some x → slice_get (xs ++ ys) i ≡ Some x
earlier_there [] ys i x h = cc
earlier_there (z ∷ zs) ys zero x h = h
earlier_there (z ∷ zs) ys (suc i) x h = earlier_there zs ys i x h

-- the places of a rule that is a key
rule_places : (columns : List NamedColumn) (deferrable : Bool) (r : Rule) (k : Key) → key_of_rule columns deferrable r ≡ Some k
    → (unique_columns r ≡ Some k.places) × (k.columns ≡ map (name_at columns) k.places)
rule_places columns d (rule.Unique nulls places) k h = let e = same_Some _ k h in (ap (λ (x : Key). Some x.places) e, sym (ap (λ (x : Key). x.columns) e) ∙ ap (λ (x : Key). map (name_at columns) x.places) e)
rule_places columns d (rule.PrimaryKey places) k h = let e = same_Some _ k h in (ap (λ (x : Key). Some x.places) e, sym (ap (λ (x : Key). x.columns) e) ∙ ap (λ (x : Key). map (name_at columns) x.places) e)
rule_places columns d (rule.NotNull c) k h = cc
rule_places columns d (rule.Check c) k h = cc
rule_places columns d (rule.ForeignKey fk) k h = cc

in_range : (tables : List Table) (kinds : List Kind) (r : Rule) (places : List ℕ) → unique_columns r ≡ Some places → rule_suits tables kinds r ≡ true → list_all (is_place kinds) places ≡ true
in_range tables kinds (rule.Unique nulls ps) places h g = ap (list_all (is_place kinds)) (sym (same_Some ps places h)) ∙ g
in_range tables kinds (rule.PrimaryKey ps) places h g = ap (list_all (is_place kinds)) (sym (same_Some ps places h)) ∙ g
in_range tables kinds (rule.NotNull c) places h g = cc
in_range tables kinds (rule.Check c) places h g = cc
in_range tables kinds (rule.ForeignKey fk) places h g = cc

pub stored_keys_named : (schema : Schema) → list_all table_suits schema.tables ≡ true → list_all (constraint_suits schema.tables) schema.constraints ≡ true
    → (more : List Constraint) (place : ℕ) (t : Table) → slice_get schema.tables place ≡ Some t
    → KeysNamed (schema.constraints ++ more) place (named_columns t.columns) (stored_keys (named_columns t.columns) (constraints_of schema place))
stored_keys_named schema d c more place t h j k g =
    let s = all_at table_suits schema.tables d place t h in
    let made = made_by (λ (x : Constraint). key_of_rule (named_columns t.columns) x.deferrable x.rule) (constraints_of schema place) j k g in
    let kept = kept_by (λ (x : Constraint). x.table == place) schema.constraints made.0 made.1 made.2 in
    let suits = all_at (constraint_suits schema.tables) schema.constraints c kept.0 made.1 kept.1 in
    let ruled = (and_parts (is_there schema.tables made.1.table) (rule_suits schema.tables (table_kinds schema.tables made.1.table) made.1.rule) suits).1 in
    let same : made.1.table ≡ place = let x = kept.2 in grind (arith, nat_tests) in
    let kinds : table_kinds schema.tables made.1.table ≡ kinds_of t =
    ap (table_kinds schema.tables) same ∙ ap (λ (o : Option Table). elim o as (λ x. List Kind) [ Some x ↦ kinds_of x | None ↦ [] ]) h in
    let named = rule_places (named_columns t.columns) made.1.deferrable made.1.rule k made.3 in
    let within = in_range schema.tables (kinds_of t) made.1.rule k.places named.0 (ap (λ (ks : List Kind). rule_suits schema.tables ks made.1.rule) (sym kinds) ∙ ruled) in
    record {
      index = kept.0;
      constraint = made.1;
      there = earlier_there schema.constraints more kept.0 made.1 kept.1;
      on = same;
      unique = named.0;
      places = places_of_names t s k.places within ∙ ap (places_of (named_columns t.columns)) (sym named.1);
    }

-- ---- keys that a CREATE TABLE writes

later_there : {X : Type 0} (xs ys : List X) (i : ℕ) (y : X) → slice_get ys i ≡ Some y → slice_get (xs ++ ys) (length xs + i) ≡ Some y
later_there [] ys i y h = let none : 0 + i ≡ i = omega arith in ap (slice_get ys) none ∙ h
later_there (x ∷ xs) ys i y h =
    let one : suc (length xs) + i ≡ suc (length xs + i) = omega arith in
    ap (slice_get (x ∷ xs ++ ys)) one ∙ later_there xs ys i y h

numbered_at : {X : Type 0} (from : ℕ) (xs : List X) (i : ℕ) (x : X) → slice_get xs i ≡ Some x → slice_get (enumerate_from from xs) i ≡ Some (from + i, x)
numbered_at from [] i x h = cc
numbered_at {X = X} from (y ∷ ys) zero x h =
    let here : from ≡ from + 0 = omega arith in ap (λ (z : X). some_pair from z) (same_Some y x h) ∙ ap (λ n. some_pair n x) here
numbered_at from (y ∷ ys) (suc i) x h =
    let further : from + 1 + i ≡ from + suc i = omega arith in
    numbered_at (from + 1) ys i x h ∙ ap (λ n. some_pair n x) further

written_places : (schema : Schema) (names : Names) (own : Altered) (time : ConstraintTime) (r : WrittenRule) (k : Key) → key_of_written own.columns time r ≡ Some k
    → (unique_columns (bound_rule schema names own r) ≡ Some k.places) × (k.places ≡ places_of own.columns k.columns)
written_places schema names own time (unique nulls columns) k h =
    let e = same_Some _ k h in (ap (λ (x : Key). Some x.places) e, sym (ap (λ (x : Key). x.places) e) ∙ ap (λ (x : Key). places_of own.columns x.columns) e)
written_places schema names own time (primary_key columns) k h =
    let e = same_Some _ k h in (ap (λ (x : Key). Some x.places) e, sym (ap (λ (x : Key). x.places) e) ∙ ap (λ (x : Key). places_of own.columns x.columns) e)
written_places schema names own time (not_null c) k h = cc
written_places schema names own time (check c) k h = cc
written_places schema names own time (written.foreign_key columns r) k h = cc

pub written_keys_named : (schema : Schema) (own : Altered) (ks : List WrittenConstraint)
    → KeysNamed (schema.constraints ++ map (bound_place schema own) (enumerate_from 1 ks)) own.table own.columns (written_keys own.columns ks)
written_keys_named schema own ks j k g =
    let made = made_by (λ (x : WrittenConstraint). key_of_written own.columns x.time x.rule) ks j k g in
    let named = written_places schema (creating schema own) own made.1.time made.1.rule k made.3 in
    let at = map_at (bound_place schema own) (enumerate_from 1 ks) made.0 ∙ ap (option_map (bound_place schema own)) (numbered_at 1 ks made.0 made.1 made.2) in
    record {
      index = length schema.constraints + made.0;
      constraint = bound_place schema own (1 + made.0, made.1);
      there = later_there schema.constraints (map (bound_place schema own) (enumerate_from 1 ks)) made.0 (bound_place schema own (1 + made.0, made.1)) at;
      on = refl;
      unique = named.0;
      places = named.1;
    }

-- ---- the key that a foreign key names

-- if keys are named, by what a name of a table refers to
pub record AllNamed (schema : Schema) (own : Altered) (all : List Constraint) : Type 0 where
  pub own_keys : KeysNamed all own.table own.columns own.keys
  pub others : (name : List ℕ) (t : Referenced) → stored_reference schema name ≡ Some t → KeysNamed all t.table t.columns t.keys

pub others_named : (schema : Schema) → list_all table_suits schema.tables ≡ true → list_all (constraint_suits schema.tables) schema.constraints ≡ true
    → (more : List Constraint) (name : List ℕ) (t : Referenced) → stored_reference schema name ≡ Some t → KeysNamed (schema.constraints ++ more) t.table t.columns t.keys
others_named schema d c more name t h = by (search (table_is_called name) schema.tables)
  where
    referred : Option ℕ → Option Referenced
    referred o = elim o [ Some place ↦ option_map (λ (x : Table). record { table = place; columns = named_columns x.columns; keys = stored_keys (named_columns x.columns) (constraints_of schema place) }) (slice_get schema.tables place) | None ↦ None ]

    by : Search (table_is_called name) schema.tables → KeysNamed (schema.constraints ++ more) t.table t.columns t.keys
    by (nothing n) = let e = sym (ap referred (none_position (table_is_called name) schema.tables n)) ∙ h in cc
    by (something i s f) =
        let there = first_there (table_is_called name) schema.tables i s f in
        let refer : Table → Referenced = λ x. record { table = i; columns = named_columns x.columns; keys = stored_keys (named_columns x.columns) (constraints_of schema i) } in
        let is : refer s ≡ t = same_Some _ _ (sym (ap referred (first_position (table_is_called name) schema.tables i s f) ∙ ap (option_map refer) there) ∙ h) in
        subst (λ (x : Referenced). KeysNamed (schema.constraints ++ more) x.table x.columns x.keys) is (stored_keys_named schema d c more i s there)

keys_of_reference : (schema : Schema) (own : Altered) (all : List Constraint) → AllNamed schema own all → (name : List ℕ) (t : Referenced) → referenced schema own name ≡ Some t
    → KeysNamed all t.table t.columns t.keys
keys_of_reference schema own all n name t h = by (bytes_eq name own.name) refl
  where
    itself : Referenced
    itself = record { table = own.table; columns = own.columns; keys = own.keys }

    by : (b : Bool) → bytes_eq name own.name ≡ b → KeysNamed all t.table t.columns t.keys
    by false e = n.others name t (sym (ap (λ b. elim b as (λ x. Option Referenced) [ true ↦ Some itself | false ↦ stored_reference schema name ]) e) ∙ h)
    by true e =
        let is : itself ≡ t = same_Some _ _ (sym (ap (λ b. elim b as (λ x. Option Referenced) [ true ↦ Some itself | false ↦ stored_reference schema name ]) e) ∙ h) in
        subst (λ (x : Referenced). KeysNamed all x.table x.columns x.keys) is n.own_keys

-- the constraint of a key that is meant is the one that the foreign key names
is_the_key : (all : List Constraint) (table : ℕ) (columns : List NamedColumn) (k : Key) → KeyNamed all table columns k → (fk : ForeignKey) → fk.referenced ≡ table
    → are_same_columns k.places fk.key ≡ true → has_key all (Some fk) ≡ true
is_the_key all table columns k n fk r h =
    any_passes_from_place (is_named_key fk) all n.index n.constraint n.there
    (and_from _ _ (let a = n.on in grind (arith, nat_tests))
    (ap (λ (o : Option (List ℕ)). elim o as (λ x. Bool) [ Some cs ↦ are_same_columns cs fk.key | None ↦ false ]) n.unique ∙ h))

reference_key : (own : Altered) (all : List Constraint) (t : Referenced) → KeysNamed all t.table t.columns t.keys → (columns : List (List ℕ)) (r : References)
    → faulty_reference own.columns columns t r.columns ≡ false → has_key all (Some (bound_reference own columns r (Some t))) ≡ true
reference_key own all t n columns r w = by r.columns refl
  where
    fk : ForeignKey
    fk = bound_reference own columns r (Some t)

    by : (o : Option (List (List ℕ))) → r.columns ≡ o → has_key all (Some (bound_reference own columns r (Some t))) ≡ true
    by (Some names) e =
        let fault = ap (λ (o : Option (List (List ℕ))). faulty_reference own.columns columns t o) (sym e) ∙ w in
        let parts = or_parts (pairs_differ own.columns columns t.columns names) (not (list_any (is_reliable names) t.keys)) fault in
        let found = found_at (is_reliable names) t.keys (not-false (list_any (is_reliable names) t.keys) parts.1) in
        let named = n found.0 found.1 found.2 in
        let reliable = and_parts (not found.1.deferrable) (same_set names found.1.columns) found.3 in
        is_the_key all t.table t.columns found.1 named (bound_reference own columns r (Some t)) refl
        (ap (λ (p : List ℕ). are_same_columns p (key_places t r.columns)) named.places
        ∙ ap (λ (o : Option (List (List ℕ))). are_same_columns (places_of t.columns found.1.columns) (key_places t o)) e
        ∙ same_places t.columns names found.1.columns reliable.1)
    by None e = by_primary (search (λ (k : Key). k.is_primary) t.keys)
      where
        fault : Option Key → Bool
        fault o = elim o [ Some k ↦ k.deferrable || pairs_differ own.columns columns t.columns k.columns | None ↦ true ]

        places : Option Key → List ℕ
        places o = elim o [ Some k ↦ k.places | None ↦ [] ]

        by_primary : Search (λ (k : Key). k.is_primary) t.keys → has_key all (Some (bound_reference own columns r (Some t))) ≡ true
        by_primary (nothing none) =
            let x : true ≡ false = sym (ap fault (none_found (λ (k : Key). k.is_primary) t.keys none)) ∙ ap (λ (o : Option (List (List ℕ))). faulty_reference own.columns columns t o) (sym e) ∙ w in cc
        by_primary (something i k first) =
            let named = n i k (first_there (λ (x : Key). x.is_primary) t.keys i k first) in
            is_the_key all t.table t.columns k named (bound_reference own columns r (Some t)) refl
            (ap (λ (o : Option (List (List ℕ))). are_same_columns k.places (key_places t o)) e
            ∙ ap (λ (o : Option Key). are_same_columns k.places (places o)) (first_found (λ (x : Key). x.is_primary) t.keys i k first)
            ∙ same_itself k.places)

referred_key : (schema : Schema) (own : Altered) (all : List Constraint) → AllNamed schema own all → (columns : List (List ℕ)) (r : References) (o : Option Referenced)
    → referenced schema own r.table ≡ o → unknown_in_reference r.table o r.columns ≡ None
    → elim o as (λ x. Bool) [ Some t ↦ faulty_reference own.columns columns t r.columns | None ↦ false ] ≡ false
    → has_key all (Some (bound_reference own columns r o)) ≡ true
referred_key schema own all n columns r None e u w = cc
referred_key schema own all n columns r (Some t) e u w = reference_key own all t (keys_of_reference schema own all n r.table t e) columns r w

pub key_of_rule_there : (schema : Schema) (names : Names) (own : Altered) (all : List Constraint) → AllNamed schema own all → (r : WrittenRule)
    → unknown_in_rule schema names own r ≡ None → faulty_rule schema own r ≡ false → has_key all (foreign_key (bound_rule schema names own r)) ≡ true
key_of_rule_there schema names own all n (not_null column) u f = refl
key_of_rule_there schema names own all n (unique nulls columns) u f = refl
key_of_rule_there schema names own all n (primary_key columns) u f = refl
key_of_rule_there schema names own all n (check c) u f = refl
key_of_rule_there schema names own all n (written.foreign_key columns r) u f =
    let known = none_parts (unknown_in_columns own.columns columns) (unknown_in_reference r.table (referenced schema own r.table) r.columns) u in
    referred_key schema own all n columns r (referenced schema own r.table) refl known.1 f
