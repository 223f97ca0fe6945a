-- What a foreign key refers to: the columns of its keys are there, each of the kind of its type.
use Rattle.std.proofs.Common.{◌≡◌, ℕ, zero, suc, nat_lt, Bool, true, false, ◌&&◌, ◌==◌, List, [], ◌∷◌, ◌++◌, ◌∙◌, Option, Some, None, refl, sym, ap, cond, length, map, filter, filter_map, slice_get, option_map, subst, arith}
use Rattle.std.proofs.lemmas.Bool.{and_parts, not-true, or_parts}
use Rattle.std.proofs.lemmas.List.Folds.{list_any-append}
use Rattle.std.proofs.lemmas.Option.{same_Some}
use Rattle.std.specs.List.{list_all, cons_option}
use Rattle.std.specs.Str.{bytes_eq}
use Rattle.std.proofs.lemmas.Bool.Decides.{nat_tests}
use Rattle.iv_laws_fitting.specs.Types.{Kind, Column, Table, Constraint, Rule}
use Rattle.iv_laws_fitting.specs.Types.rule
use Rattle.iv_syntax.specs.declared.table.ColumnType.{ColumnType}
use Rattle.iv_catalogue.specs.Catalogues.{Schema}
use Rattle.iv_catalogue.specs.Names.{is_among, has_repeated}
use Rattle.iv_resolution.specs.Scopes.{NamedColumn, named_columns, type_named}
use Rattle.iv_resolution.specs.Constraints.{Key, name_at, key_of_rule, stored_keys, constraints_of}
use Rattle.iv_laws_fitting.specs.Naming.{IsFirst, column_is_called}
use Rattle.iv_laws_fitting.proofs.Firsts.{at_front, later, first_found}
use Rattle.iv_laws_fitting.specs.PlanShapes.{kinds_of, table_kinds, is_there, table_suits}
use Rattle.iv_laws_fitting.specs.ConstraintShapes.{is_place, rule_suits, constraint_suits}
use Rattle.iv_laws_fitting.proofs.ColumnKinds.{stored_match}
use Rattle.iv_laws_fitting.proofs.Changes.{column_of_kind}
use Rattle.iv_laws_fitting.proofs.NewConstraints.{KeyMatches}
use Rattle.iv_laws_fitting.proofs.Pointwise.{all_at, made_of, mapped_length}
use Rattle.iv_laws_fitting.proofs.Targets.{few_columns, distinct_columns}

-- ---- columns of one name each

pub same_self : (n : List ℕ) → bytes_eq n n ≡ true
same_self [] = refl
same_self (x ∷ xs) = let e : (x == x) ≡ true = grind (arith, nat_tests) in ap (λ b. b && bytes_eq xs xs) e ∙ same_self xs

-- no column has one of the names before it
not_before : (earlier : List (List ℕ)) (columns : List NamedColumn) → has_repeated earlier (map (λ c. c.name) columns) ≡ false → (p : ℕ) (c : NamedColumn) → slice_get columns p ≡ Some c
    → is_among earlier c.name ≡ false
unfolding has_repeated
not_before earlier [] d p c h = cc
not_before earlier (x ∷ xs) d zero c h =
    ap (λ (y : NamedColumn). is_among earlier y.name) (sym (same_Some x c h)) ∙ (or_parts (is_among earlier x.name) (has_repeated (earlier ++ x.name ∷ []) (map (λ (y : NamedColumn). y.name) xs)) d).0
not_before earlier (x ∷ xs) d (suc p) c h =
    let rest = (or_parts (is_among earlier x.name) (has_repeated (earlier ++ x.name ∷ []) (map (λ (y : NamedColumn). y.name) xs)) d).1 in
    (or_parts (is_among earlier c.name) (is_among (x.name ∷ []) c.name)
    (sym (list_any-append (bytes_eq c.name) earlier (x.name ∷ [])) ∙ not_before (earlier ++ x.name ∷ []) xs rest p c h)).0

-- the first column of a name is the only one
pub distinct_is_first : (earlier : List (List ℕ)) (columns : List NamedColumn) → has_repeated earlier (map (λ c. c.name) columns) ≡ false → (p : ℕ) (c : NamedColumn)
    → slice_get columns p ≡ Some c → IsFirst (column_is_called c.name) columns p c
unfolding has_repeated
distinct_is_first earlier [] d p c h = cc
distinct_is_first earlier (x ∷ xs) d zero c h =
    let e = same_Some x c h in
    subst (λ (y : NamedColumn). IsFirst (column_is_called y.name) (x ∷ xs) zero y) e (at_front (column_is_called x.name) x xs (same_self x.name))
distinct_is_first earlier (x ∷ xs) d (suc p) c h =
    let rest = (or_parts (is_among earlier x.name) (has_repeated (earlier ++ x.name ∷ []) (map (λ (y : NamedColumn). y.name) xs)) d).1 in
    let among = (or_parts (is_among earlier c.name) (is_among (x.name ∷ []) c.name)
    (sym (list_any-append (bytes_eq c.name) earlier (x.name ∷ [])) ∙ not_before (earlier ++ x.name ∷ []) xs rest p c h)).1 in
    later (column_is_called c.name) x xs p c ((or_parts (bytes_eq c.name x.name) false among).0) (distinct_is_first (earlier ++ x.name ∷ []) xs rest p c h)

pub names_kept : (columns : List Column) → map (λ (c : NamedColumn). c.name) (named_columns columns) ≡ map (λ (c : Column). c.name) columns
names_kept [] = refl
names_kept (c ∷ cs) = ap (λ l. c.name ∷ l) (names_kept cs)

pub at_place : (kinds : List Kind) (place : ℕ) → nat_lt place (length kinds) ≡ true → (k : Kind) × (slice_get kinds place ≡ Some k)
at_place [] place h = let n : nat_lt place 0 ≡ false = grind (arith, nat_tests) in let e : true ≡ false = sym h ∙ n in cc
at_place (k ∷ ks) zero h = (k, refl)
at_place (k ∷ ks) (suc n) h = at_place ks n (grind (arith, nat_tests))

-- ---- keys of a table that is there

key_of_places : (t : Table) → table_suits t ≡ true → (places : List ℕ) → list_all (is_place (kinds_of t)) places ≡ true → (primary deferrable : Bool)
    → KeyMatches (named_columns t.columns) (kinds_of t)
    (record { columns = map (name_at (named_columns t.columns)) places; places = places; is_primary = primary; deferrable = deferrable })
key_of_places t s places h primary deferrable = record {
  same = mapped_length (name_at (named_columns t.columns)) places;
  each = λ j name place g p.
      let made = made_of (name_at (named_columns t.columns)) places j name g in
      let same : made.0 ≡ place = same_Some made.0 place (sym made.1 ∙ p) in
      let kind = at_place (kinds_of t) place (all_at (is_place (kinds_of t)) places h j place p) in
      let column = column_of_kind (named_columns t.columns) (kinds_of t) (stored_match t (few_columns t s)).types place kind.0 kind.1 in
      let named : name ≡ column.0.name =
      made.2 ∙ ap (name_at (named_columns t.columns)) same ∙ ap (λ (o : Option NamedColumn). elim o as (λ x. List ℕ) [ Some c ↦ c.name | None ↦ [] ]) column.1 in
      let only = distinct_is_first [] (named_columns t.columns)
      (ap (has_repeated []) (names_kept t.columns) ∙ not-true (has_repeated [] (map (λ (c : Column). c.name) t.columns)) (distinct_columns t s)) place column.0 column.1 in
      let first = first_found (column_is_called column.0.name) (named_columns t.columns) place column.0 only in (
        kind.0,
        kind.1,
        ap (type_named (named_columns t.columns)) named ∙ ap (option_map (λ (c : NamedColumn). c.kind)) first ∙ ap (λ (x : ColumnType). Some x) column.2,
      );
}

-- ---- members

pub made_by : {X Y : Type 0} (f : X → Option Y) (xs : List X) (j : ℕ) (y : Y) → slice_get (filter_map f xs) j ≡ Some y → (i : ℕ) × (x : X) × (slice_get xs i ≡ Some x) × (f x ≡ Some y)
made_by f [] j y h = cc
made_by {X = X} {Y = Y} f (x ∷ xs) j y h = by (f x) refl j h (λ k g. made_by f xs k y g)
  where
    by : (o : Option Y) → f x ≡ o → (k : ℕ) → slice_get (cons_option o (filter_map f xs)) k ≡ Some y
        → ((m : ℕ) → slice_get (filter_map f xs) m ≡ Some y → (i : ℕ) × (z : X) × (slice_get xs i ≡ Some z) × (f z ≡ Some y))
        → (i : ℕ) × (z : X) × (slice_get (x ∷ xs) i ≡ Some z) × (f z ≡ Some y)
    by None e k g later = let r = later k g in (suc r.0, r.1, r.2, r.3)
    by (Some w) e zero g later = (zero, x, refl, e ∙ g)
    by (Some w) e (suc k) g later = let r = later k g in (suc r.0, r.1, r.2, r.3)

pub kept_by : {X : Type 0} (p : X → Bool) (xs : List X) (j : ℕ) (x : X) → slice_get (filter p xs) j ≡ Some x → (i : ℕ) × (slice_get xs i ≡ Some x) × (p x ≡ true)
kept_by p [] j x h = cc
kept_by {X = X} p (y ∷ ys) j x h = by (p y) refl j h (λ k g. kept_by p ys k x g)
  where
    by : (b : Bool) → p y ≡ b → (k : ℕ) → slice_get (cond b (y ∷ filter p ys) (filter p ys)) k ≡ Some x
        → ((m : ℕ) → slice_get (filter p ys) m ≡ Some x → (i : ℕ) × (slice_get ys i ≡ Some x) × (p x ≡ true))
        → (i : ℕ) × (slice_get (y ∷ ys) i ≡ Some x) × (p x ≡ true)
    by false e k g later = let r = later k g in (suc r.0, r.1, r.2)
    by true e zero g later = (zero, g, ap p (sym (same_Some y x g)) ∙ e)
    by true e (suc k) g later = let r = later k g in (suc r.0, r.1, r.2)

-- each key of the list is of these columns
abbrev pub KeysMatch : List NamedColumn → List Kind → List Key → Type 0
KeysMatch columns kinds keys = (j : ℕ) (k : Key) → slice_get keys j ≡ Some k → KeyMatches columns kinds k

of_rule : (tables : List Table) (t : Table) → table_suits t ≡ true → (deferrable : Bool) (r : Rule) (k : Key) → key_of_rule (named_columns t.columns) deferrable r ≡ Some k
    → rule_suits tables (kinds_of t) r ≡ true → KeyMatches (named_columns t.columns) (kinds_of t) k
of_rule tables t s d (rule.Unique nulls places) k h g = subst (KeyMatches (named_columns t.columns) (kinds_of t)) (same_Some _ k h) (key_of_places t s places g false d)
of_rule tables t s d (rule.PrimaryKey places) k h g = subst (KeyMatches (named_columns t.columns) (kinds_of t)) (same_Some _ k h) (key_of_places t s places g true d)
of_rule tables t s d (rule.NotNull c) k h g = cc
of_rule tables t s d (rule.Check c) k h g = cc
of_rule tables t s d (rule.ForeignKey fk) k h g = cc

-- the keys of a table of the catalogue
pub stored_keys_match : (schema : Schema) → list_all table_suits schema.tables ≡ true → list_all (constraint_suits schema.tables) schema.constraints ≡ true
    → (place : ℕ) (t : Table) → slice_get schema.tables place ≡ Some t
    → KeysMatch (named_columns t.columns) (kinds_of t) (stored_keys (named_columns t.columns) (constraints_of schema place))
stored_keys_match schema d c place t h j k g =
    let s = all_at table_suits schema.tables d place t h in
    let made = made_by (λ (x : Constraint). key_of_rule (named_columns t.columns) x.deferrable x.rule) (constraints_of schema place) j k g in
    let kept = kept_by (λ (x : Constraint). x.table == place) schema.constraints made.0 made.1 made.2 in
    let suits = all_at (constraint_suits schema.tables) schema.constraints c kept.0 made.1 kept.1 in
    let ruled = (and_parts (is_there schema.tables made.1.table) (rule_suits schema.tables (table_kinds schema.tables made.1.table) made.1.rule) suits).1 in
    let same : made.1.table ≡ place = let x = kept.2 in grind (arith, nat_tests) in
    let kinds : table_kinds schema.tables made.1.table ≡ kinds_of t =
    ap (table_kinds schema.tables) same ∙ ap (λ (o : Option Table). elim o as (λ x. List Kind) [ Some x ↦ kinds_of x | None ↦ [] ]) h in
    of_rule schema.tables t s made.1.deferrable made.1.rule k made.3 (ap (λ (ks : List Kind). rule_suits schema.tables ks made.1.rule) (sym kinds) ∙ ruled)
