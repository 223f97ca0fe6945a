-- The plan of a CREATE TABLE that deserves no cause.
use Rattle.std.proofs.Common.{◌≡◌, ℕ, ◌≤◌, min, nat_lt, nat_le, Bool, true, false, not, ◌&&◌, ◌||◌, ◌==◌, if◌then◌else◌, List, [], ◌∷◌, ◌++◌, ◌∙◌, Option, Some, None, refl, sym, ap, chars, length, map, arith, ◌+◌, append-nil}
use Rattle.std.proofs.lemmas.Bool.{and_from, not-false, or_parts}
use Rattle.std.specs.List.{list_any, enumerate_from}
use Rattle.std.specs.Option.{option_or}
use Rattle.std.proofs.lemmas.List.{append_assoc}
use Rattle.std.specs.Str.{bytes_eq}
use Rattle.std.proofs.lemmas.Bool.Decides.{nat_tests}
use Rattle.std.proofs.lemmas.List.Folds.{list_any-append}
use Rattle.iv_value.specs.declared.value.Fit.TheVariants.{Yes, TooLong}
use Rattle.iv_value.specs.Values.{fit_of}
use Rattle.iv_syntax.specs.declared.tree.Sign.TheVariants as sign
use Rattle.iv_syntax.specs.declared.table.ColumnType.{ColumnType}
use Rattle.iv_syntax.specs.declared.table.ColumnType.TheVariants as type
use Rattle.iv_syntax.specs.declared.table.ColumnDefinition.{ColumnDefinition}
use Rattle.iv_syntax.specs.declared.table.Literal.{Literal}
use Rattle.iv_syntax.specs.declared.table.Literal.TheVariants as literal
use Rattle.iv_syntax.specs.declared.table.TableElement.{TableElement}
use Rattle.iv_syntax.specs.declared.table.TableElement.TheVariants as element
use Rattle.iv_catalogue.specs.Catalogues.{Schema, AllOn, has_constraint}
use Rattle.iv_catalogue.specs.Names.{is_among, has_repeated}
use Rattle.iv_catalogue.proofs.NamedLists.{any_map}
use Rattle.iv_laws_fitting.specs.Types.{Column, Constraint}
use Rattle.iv_catalogue.specs.declared.limits.TheConstants.{MOST_CHARACTERS, MOST_COLUMNS}
use Rattle.iv_resolution.specs.Constraints.{WrittenConstraint, written_columns, constraint_name, Altered, default_fits, literal_fits}
use Rattle.iv_resolution.specs.Items.{in_use_fault, twice_fault, first_again}
use Rattle.iv_resolution.specs.NameFaults.{item_of_constraint, constraint_in_use, constraint_again, duplicate_in_rule, duplicate_in_constraint, duplicate_in_constraints, before_column_again}
use Rattle.iv_resolution.proofs.Told.{none_parts, untold}
use Rattle.iv_resolution.specs.Tables.{type_beyond_limits}
use Rattle.iv_resolution.specs.Bound.{bound_literal, bound_kind, bound_default, bound_column_definition, bound_place}
use Rattle.iv_store.specs.Stores.{is_fit}
use Rattle.iv_laws_fitting.specs.PlanShapes.{default_suits, table_suits}
use Rattle.iv_laws_fitting.proofs.Pointwise.{any_at, made_of, mapped_length, all_by}

-- ---- defaults

-- the length of a type within limits is kept
kept_length : (n : ℕ) → type_beyond_limits (type.Varchar n) ≡ false → min n 65535 ≡ n
kept_length n h =
    let parts = or_parts (n == 0) (nat_lt MOST_CHARACTERS n) h in
    let low : n ≤ MOST_CHARACTERS = let x = parts.1 in grind (arith, nat_tests) in
    omega arith

literal_fit : (t : ColumnType) (l : Literal) → type_beyond_limits t ≡ false → literal_fits t l ≡ true → is_fit (fit_of (bound_literal l) (bound_kind t)) ≡ true
literal_fit type.Integer (literal.Number None n) b h = refl
literal_fit type.Integer (literal.Number (Some sign.Plus) n) b h = refl
literal_fit type.Integer (literal.Number (Some sign.Minus) n) b h = refl
literal_fit (type.Varchar m) (literal.Number s n) b h = cc
literal_fit type.Integer (literal.Text t) b h = cc
literal_fit (type.Varchar m) (literal.Text t) b h =
    ap (λ n. is_fit (if nat_le (length (chars t)) n then Yes else TooLong)) (kept_length m b) ∙ ap (λ x. is_fit (if x then Yes else TooLong)) h
literal_fit type.Integer literal.Null b h = refl
literal_fit (type.Varchar m) literal.Null b h = refl

default_fit : (t : ColumnType) (o : Option Literal) → type_beyond_limits t ≡ false → elim o as (λ x. Bool) [ Some l ↦ literal_fits t l | None ↦ true ] ≡ true
    → is_fit (fit_of (bound_default o) (bound_kind t)) ≡ true
default_fit t None b h = refl
default_fit t (Some l) b h = literal_fit t l b h

names_of_columns : (cs : List ColumnDefinition) → map (λ (c : Column). c.name) (map bound_column_definition cs) ≡ map (λ (c : ColumnDefinition). c.name) cs
names_of_columns [] = refl
names_of_columns (c ∷ cs) = ap (λ l. c.name ∷ l) (names_of_columns cs)

pub columns_suit : (elements : List TableElement) → nat_lt MOST_COLUMNS (length (written_columns elements)) ≡ false → list_any (λ c. not (default_fits c)) (written_columns elements) ≡ false
    → has_repeated [] (map (λ c. c.name) (written_columns elements)) ≡ false → list_any (λ c. type_beyond_limits c.kind) (written_columns elements) ≡ false
    → (name : List ℕ) → table_suits (record { name = name; columns = map bound_column_definition (written_columns elements) }) ≡ true
columns_suit elements few fits once types name =
    let length_is = mapped_length bound_column_definition (written_columns elements) in
    and_from _ _ (grind (arith, nat_tests))
    (and_from _ _
    (all_by default_suits (map bound_column_definition (written_columns elements))
    (λ j c h.
    let made = made_of bound_column_definition (written_columns elements) j c h in
    ap default_suits made.2
    ∙ default_fit made.0.kind made.0.default (any_at (λ (x : ColumnDefinition). type_beyond_limits x.kind) (written_columns elements) types j made.0 made.1)
    (not-false (default_fits made.0) (any_at (λ (x : ColumnDefinition). not (default_fits x)) (written_columns elements) fits j made.0 made.1))))
    (ap (λ (names : List (List ℕ)). not (has_repeated [] names)) (names_of_columns (written_columns elements)) ∙ ap (λ b. not b) once))

-- ---- names

-- and_from names are one, whichever comes first
pub same_either_way : (a b : List ℕ) → bytes_eq a b ≡ bytes_eq b a
same_either_way [] [] = refl
same_either_way [] (y ∷ ys) = refl
same_either_way (x ∷ xs) [] = refl
same_either_way (x ∷ xs) (y ∷ ys) = let e : (x == y) ≡ (y == x) = grind (arith, nat_tests) in ap (λ b. b && bytes_eq xs ys) e ∙ ap (λ b. (y == x) && b) (same_either_way xs ys)

-- columns of which none comes again
pub columns_once : (earlier names : List (List ℕ)) → first_again (λ n. n) earlier names ≡ None → has_repeated earlier names ≡ false
unfolding has_repeated
columns_once earlier [] h = refl
columns_once earlier (name ∷ names) h = by (is_among earlier name) (columns_once (earlier ++ name ∷ []) names) h
  where
    by : (b : Bool) → (first_again (λ n. n) (earlier ++ name ∷ []) names ≡ None → has_repeated (earlier ++ name ∷ []) names ≡ false)
        → (if b then Some name else first_again (λ n. n) (earlier ++ name ∷ []) names) ≡ None → (b || has_repeated (earlier ++ name ∷ []) names) ≡ false
    by true rest e = cc
    by false rest e = rest e

-- then the whole text stands before the first one that does
pub text_whole : (before : List (List ℕ)) (elements : List TableElement) → first_again (λ n. n) before (map (λ c. c.name) (written_columns elements)) ≡ None
    → before_column_again before elements ≡ elements
text_whole before [] h = refl
text_whole before (element.Constraint k ∷ elements) h = ap (λ l. element.Constraint k ∷ l) (text_whole before elements h)
text_whole before (element.Column c ∷ elements) h = by (is_among before c.name) (text_whole (before ++ c.name ∷ []) elements) h
  where
    by : (b : Bool)
        → (first_again (λ n. n) (before ++ c.name ∷ []) (map (λ (x : ColumnDefinition). x.name) (written_columns elements)) ≡ None → before_column_again (before ++ c.name ∷ []) elements ≡ elements)
        → (if b then Some c.name else first_again (λ n. n) (before ++ c.name ∷ []) (map (λ (x : ColumnDefinition). x.name) (written_columns elements))) ≡ None
        → (if b then [] else element.Column c ∷ before_column_again (before ++ c.name ∷ []) elements) ≡ element.Column c ∷ elements
    by true rest e = cc
    by false rest e = ap (λ l. element.Column c ∷ l) (rest e)

-- names of constraints that are neither in use nor among those before them
constraints_once : (schema : Schema) (table : List ℕ) (place : ℕ) (before : List (List ℕ)) (ks : List WrittenConstraint) → duplicate_in_constraints schema table place before ks ≡ None
    → has_repeated (map (λ (k : Constraint). k.name) schema.constraints ++ before) (map (λ (p : ℕ × WrittenConstraint). constraint_name table p.0 p.1) (enumerate_from place ks)) ≡ false
unfolding has_repeated
constraints_once schema table place before [] h = refl
constraints_once schema table place before (k ∷ ks) h =
    let name = constraint_name table place k in
    let used = map (λ (x : Constraint). x.name) schema.constraints in
    let parts = none_parts (duplicate_in_constraint schema table place before k) (duplicate_in_constraints schema table (place + 1) (before ++ name ∷ []) ks) h in
    let named = none_parts (constraint_in_use schema table place k) (option_or (constraint_again table place before k) (duplicate_in_rule k.rule)) parts.0 in
    let unused = untold (has_constraint schema name) (in_use_fault (item_of_constraint table place k)) named.0 in
    let new = untold (is_among before name) (twice_fault (item_of_constraint table place k)) (none_parts (constraint_again table place before k) (duplicate_in_rule k.rule) named.1).0 in
    ap (λ b. b || has_repeated ((used ++ before) ++ name ∷ []) (map (λ (p : ℕ × WrittenConstraint). constraint_name table p.0 p.1) (enumerate_from (place + 1) ks)))
    (list_any-append (bytes_eq name) used before ∙ ap (λ b. b || is_among before name) (sym (any_map (bytes_eq name) (λ (x : Constraint). x.name) schema.constraints) ∙ unused) ∙ new)
    ∙ ap (λ l. has_repeated l (map (λ (p : ℕ × WrittenConstraint). constraint_name table p.0 p.1) (enumerate_from (place + 1) ks))) (append_assoc used before (name ∷ []))
    ∙ constraints_once schema table (place + 1) (before ++ name ∷ []) ks parts.1

bound_names : (schema : Schema) (own : Altered) (ps : List (ℕ × WrittenConstraint))
    → map (λ (k : Constraint). k.name) (map (bound_place schema own) ps) ≡ map (λ (p : ℕ × WrittenConstraint). constraint_name own.name p.0 p.1) ps
bound_names schema own [] = refl
bound_names schema own (p ∷ ps) = ap (λ l. constraint_name own.name p.0 p.1 ∷ l) (bound_names schema own ps)

pub new_names : (schema : Schema) (own : Altered) (ks : List WrittenConstraint) → duplicate_in_constraints schema own.name 1 [] ks ≡ None
    → has_repeated (map (λ (k : Constraint). k.name) schema.constraints) (map (λ (k : Constraint). k.name) (map (bound_place schema own) (enumerate_from 1 ks))) ≡ false
new_names schema own ks h =
    ap (has_repeated (map (λ (k : Constraint). k.name) schema.constraints)) (bound_names schema own (enumerate_from 1 ks))
    ∙ ap (λ l. has_repeated l (map (λ (p : ℕ × WrittenConstraint). constraint_name own.name p.0 p.1) (enumerate_from 1 ks))) (sym (append-nil (map (λ (k : Constraint). k.name) schema.constraints)))
    ∙ constraints_once schema own.name 1 [] ks h

-- ---- constraints of the table

pub all_on : (schema : Schema) (own : Altered) (ps : List (ℕ × WrittenConstraint)) → AllOn own.table (map (bound_place schema own) ps)
all_on schema own [] = tt
all_on schema own (p ∷ ps) = (refl, all_on schema own ps)
