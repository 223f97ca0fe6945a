-- The first of the keys of a table that is looked for.
use Rattle.std.proofs.Common.{◌≡◌, refl, ℕ, ◌+◌, ◌<◌, ◌==◌, Bool, true, false, cond, nat_eq, List, [], ◌∷◌, ◌++◌, ◌∙◌, Option, Some, None, sym, ap, length, drop, get_or, filter, filter_map, find, slice_get, is_some, option_map, ◌||◌}
use Rattle.std.proofs.lemmas.List.{append_assoc, length-append}
use Rattle.std.proofs.lemmas.List.Elements.{filter_map-append}
use Rattle.std.proofs.lemmas.List.Folds.{find-append}
use Rattle.std.specs.Option.{option_or}
use Rattle.std.specs.List.{cons_option, list_any}
use Rattle.iv_syntax.specs.declared.table.TableElement.{TableElement}
use Rattle.iv_catalogue.specs.Catalogues.{places_from}
use Rattle.iv_catalogue.specs.declared.constraint.Constraint.{Constraint}
use Rattle.iv_resolution.specs.Constraints.{Key, element_constraints, key_of_rule, key_of_written, stored_keys, written_constraints, written_keys}
use Rattle.iv_resolution.specs.Scopes.{NamedColumn}
use Rattle.iv_resolve_scope.proofs.Places.{next_of}
use Rattle.iv_resolve_tables.specs.Keys.{key_at}

-- that of an element comes before those of the elements after it
pub element_step : (p : Key → Bool) (columns : List NamedColumn) (elements : List TableElement) (i : ℕ) (e : TableElement) → i < length elements → e ≡ get_or elements i e
    → find p (written_keys columns (written_constraints (drop i elements)))
    ≡ option_or (find p (written_keys columns (element_constraints e))) (find p (written_keys columns (written_constraints (drop (i + 1) elements))))
element_step p columns elements i e h g =
    ap (λ l. find p (written_keys columns (written_constraints l))) (next_of elements i e h g)
    ∙ ap (find p) (filter_map-append (λ k. key_of_written columns k.time k.rule) (element_constraints e) (written_constraints (drop (i + 1) elements)))
    ∙ find-append p (written_keys columns (element_constraints e)) (written_keys columns (written_constraints (drop (i + 1) elements)))

got_after : {X : Type 0} (front : List X) (x : X) (xs : List X) → slice_get (front ++ x ∷ xs) (length front) ≡ Some x
got_after [] x xs = refl
got_after (y ∷ front) x xs = got_after front x xs

-- the keys of a table's constraints, found by their places
keys_after : (columns : List NamedColumn) (t : ℕ) (front ks : List Constraint)
    → filter_map (key_at columns (front ++ ks)) (places_from t (length front) ks) ≡ stored_keys columns (filter (λ k. k.table == t) ks)
keys_after columns t front [] = refl
keys_after columns t front (k ∷ ks) =
    let rest : filter_map (key_at columns (front ++ k ∷ ks)) (places_from t (length front + 1) ks) ≡ stored_keys columns (filter (λ x. x.table == t) ks) =
    ap (λ l. filter_map (key_at columns l) (places_from t (length front + 1) ks)) (sym (append_assoc front (k ∷ []) ks))
    ∙ ap (λ n. filter_map (key_at columns ((front ++ k ∷ []) ++ ks)) (places_from t n ks)) (sym (length-append front (k ∷ [])))
    ∙ keys_after columns t (front ++ k ∷ []) ks in
    let here : key_at columns (front ++ k ∷ ks) (length front) ≡ key_of_rule columns k.deferrable k.rule =
    ap (λ (o : Option Constraint). elim o [ Some x ↦ key_of_rule columns x.deferrable x.rule | None ↦ None ]) (got_after front k ks) in
    elim (nat_eq k.table t) as (λ b. filter_map (key_at columns (front ++ k ∷ ks)) (cond b (length front ∷ places_from t (length front + 1) ks) (places_from t (length front + 1) ks))
    ≡ stored_keys columns (cond b (k ∷ filter (λ x. x.table == t) ks) (filter (λ x. x.table == t) ks))) [
      | true ↦ ap (λ o. cons_option o (filter_map (key_at columns (front ++ k ∷ ks)) (places_from t (length front + 1) ks))) here ∙ ap (cons_option (key_of_rule columns k.deferrable k.rule)) rest
      | false ↦ rest
    ]

pub keys_by_place : (columns : List NamedColumn) (t : ℕ) (ks : List Constraint)
    → filter_map (key_at columns ks) (places_from t 0 ks) ≡ stored_keys columns (filter (λ k. k.table == t) ks)
keys_by_place columns t ks = keys_after columns t [] ks

-- ---- whether there is one

pub any_found : {X : Type 0} (p : X → Bool) (xs : List X) → list_any p xs ≡ is_some (find p xs)
any_found p [] = refl
any_found p (x ∷ xs) = elim (p x) as (λ b. (b || list_any p xs) ≡ is_some (cond b (Some x) (find p xs))) [ true ↦ refl | false ↦ any_found p xs ]

pub some_mapped : {X Y : Type 0} (f : X → Y) (o : Option X) → is_some o ≡ is_some (option_map f o)
some_mapped f None = refl
some_mapped f (Some x) = refl
