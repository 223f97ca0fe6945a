-- What foreign keys do to a row is what those on its table do.
use Rattle.std.proofs.Common.{◌≡◌, refl, ℕ, zero, suc, ◌+◌, ◌<◌, Bool, true, false, ◌&&◌, if◌then◌else◌, List, [], ◌∷◌, ◌++◌, length, get_or, drop, filter, flat_map, find, slice_get, Some, None, sym, ap, ◌∙◌, arith, append_assoc}
use Rattle.std.specs.Bool.{◌==◌}
use Rattle.std.specs.List.{cons_option}
use Rattle.std.proofs.lemmas.Bool.{eq-eqb, ne_eqb, true≢false}
use Rattle.std.proofs.lemmas.List.Elements.{filter_map-append}
use Rattle.iv_value.specs.Values.{all_same}
use Rattle.iv_expr.specs.declared.row.StoredRow.{StoredRow}
use Rattle.iv_catalogue.specs.Catalogues.{Schema}
use Rattle.iv_key.specs.Keys.{key_of}
use Rattle.iv_machine.specs.ReferentialActions.{is_restrict, keeps_reference}
use Rattle.iv_exec_actions.specs.AffectedForeignKey.{AffectedForeignKey, action_for, change_losing}
use Rattle.iv_exec_actions.specs.ByTable.{on_table, at_places}
use Rattle.iv_exec_actions.specs.Following.{restricts, effects_by, effects_among}
use Rattle.iv_exec_actions.proofs.Taking.{left_from}

-- ---- a test that only some elements can pass

find_within : {A : Type 0} (p q : A → Bool) → ((x : A) → q x ≡ false → p x ≡ false) → (xs : List A) → find p (filter q xs) ≡ find p xs
find_within p q h [] = refl
find_within p q h (x ∷ xs) = by (q x) refl (find_within p q h xs)
  where
    by : (b : Bool) → q x ≡ b → find p (filter q xs) ≡ find p xs
        → find p (if b then x ∷ filter q xs else filter q xs) ≡ (if p x then Some x else find p xs)
    by true e rest = ap (λ o. if p x then Some x else o) rest
    by false e rest = rest ∙ sym (ap (λ b. if b then Some x else find p xs) (h x e))

pub filter_within : {A : Type 0} (p q : A → Bool) → ((x : A) → q x ≡ false → p x ≡ false) → (xs : List A) → filter p (filter q xs) ≡ filter p xs
filter_within p q h [] = refl
filter_within p q h (x ∷ xs) = by (q x) refl (filter_within p q h xs)
  where
    by : (b : Bool) → q x ≡ b → filter p (filter q xs) ≡ filter p xs
        → filter p (if b then x ∷ filter q xs else filter q xs) ≡ (if p x then x ∷ filter p xs else filter p xs)
    by true e rest = ap (λ l. if p x then x ∷ l else l) rest
    by false e rest = rest ∙ sym (ap (λ b. if b then x ∷ filter p xs else filter p xs) (h x e))

-- ---- foreign keys on other tables

apart : (a b : ℕ) → (a == b) ≡ false → (b == a) ≡ false
apart a b e = ne_eqb b a (λ f. true≢false (sym (eq-eqb a b (sym f)) ∙ e))

restricts_apart : (row : StoredRow) (x : AffectedForeignKey) → (x.reference.table == row.table) ≡ false → restricts row x ≡ false
restricts_apart row x e =
    ap (λ b. b && elim (change_losing x row) [ Some c ↦ is_restrict (action_for x.reference.key c) | None ↦ false ]) (apart x.reference.table row.table e)

-- the first that restricts a row is the first of those on its table
pub first_at_places : (xs : List AffectedForeignKey) (places : List ℕ) (table : ℕ) (row : StoredRow) → table ≡ row.table → at_places xs places ≡ on_table table xs
    → find (restricts row) (at_places xs places) ≡ find (restricts row) xs
first_at_places xs places table row is at =
    ap (find (restricts row)) (at ∙ ap (λ t. on_table t xs) is)
    ∙ find_within (restricts row) (λ x. x.reference.table == row.table) (restricts_apart row) xs

pub kept_apart : (before after : StoredRow) (x : AffectedForeignKey) → (x.reference.table == before.table) ≡ false → keeps_reference before after x.reference ≡ false
kept_apart before after x e =
    ap (λ b. b && all_same (key_of x.reference.key.columns before.values) (key_of x.reference.key.columns after.values)) e

-- the effects on a row are those of the foreign keys on its table
pub effects_at_places : (schema : Schema) (xs : List AffectedForeignKey) (places : List ℕ) (table : ℕ) (before after : StoredRow) → table ≡ before.table
    → at_places xs places ≡ on_table table xs → effects_among schema (at_places xs places) before after ≡ effects_among schema xs before after
effects_at_places schema xs places table before after is at =
    ap (λ l. effects_among schema l before after) (at ∙ ap (λ t. on_table t xs) is)
    ∙ ap (flat_map (effects_by schema before))
    (filter_within (λ x. keeps_reference before after x.reference) (λ x. x.reference.table == before.table) (kept_apart before after) xs)

-- ---- the places of those on a table

slice_there : {A : Type 0} (xs : List A) (i : ℕ) (x : A) → i < length xs → x ≡ get_or xs i x → slice_get xs i ≡ Some x
slice_there [] i x h is = absurd (omega (arith, h))
slice_there (y ∷ ys) zero x h is = ap Some (sym is)
slice_there (y ∷ ys) (suc i) x h is = slice_there ys i x (omega (arith, h)) is

-- those on a table so far, and those from a place on
pub one_more : (xs : List AffectedForeignKey) (before after : List ℕ) (i table t : ℕ) (x : AffectedForeignKey) → i < length xs → x ≡ get_or xs i x → table ≡ x.reference.table
    → after ≡ (if table == t then before ++ i ∷ [] else before)
    → at_places xs after ++ on_table t (drop (i + 1) xs) ≡ at_places xs before ++ on_table t (drop i xs)
one_more xs before after i table t x h is on e =
    ap (λ l. at_places xs l ++ rest) (e ∙ ap (λ n. if n == t then before ++ i ∷ [] else before) on)
    ∙ by (x.reference.table == t) ∙ ap (λ l. at_places xs before ++ on_table t l) (sym (left_from xs i x h is))
  where
    rest : List AffectedForeignKey
    rest = on_table t (drop (i + 1) xs)

    by : (b : Bool) → at_places xs (if b then before ++ i ∷ [] else before) ++ rest ≡ at_places xs before ++ (if b then x ∷ rest else rest)
    by true =
        ap (λ l. l ++ rest)
        (filter_map-append (slice_get xs) before (i ∷ []) ∙ ap (λ o. at_places xs before ++ cons_option o []) (slice_there xs i x h is))
        ∙ append_assoc (at_places xs before) (x ∷ []) rest
    by false = refl
