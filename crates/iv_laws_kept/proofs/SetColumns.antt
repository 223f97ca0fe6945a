-- Which foreign keys set values of rows: only those that do something.
use Rattle.std.proofs.Common.{◌≡◌, refl, ℕ, ◌+◌, ◌≤◌, Bool, true, false, ◌&&◌, ◌||◌, not, if◌then◌else◌, List, [], ◌∷◌, filter, map, Option, Some, None, ap, ◌∙◌, arith}
use mathlib.Core.Bool.{and-false}
use Rattle.std.specs.Bool.{◌==◌}
use Rattle.std.specs.List.{list_any, flat_map, cons_option}
use Rattle.std.proofs.lemmas.Bool.{ne_eqb, or_parts}
use Rattle.iv_expr.specs.declared.row.StoredRow.{StoredRow}
use Rattle.iv_catalogue.specs.Catalogues.{Schema}
use Rattle.iv_machine.specs.declared.effect.Effect.{Effect}
use Rattle.iv_machine.specs.ReferentialActions.{Reference, LostKeys, lost_reference, effects_of_loss, keeps_reference, have_deletion, sets_values}
use Rattle.iv_laws_kept.specs.FollowingWaves.{effects_of, EachReference}
use Rattle.iv_laws_kept.proofs.PickedRows.{picked}
use Rattle.iv_laws_kept.proofs.FirstPairs.{RisingReferences}
use Rattle.iv_laws_kept.proofs.Conflicts.{any_append}
use Rattle.iv_laws_kept.proofs.Idle.{effects_with}

-- ---- lists

pub none_of_all : {A : Type 0} (p : A → Bool) (xs : List A) → ((x : A) → p x ≡ false) → list_any p xs ≡ false
none_of_all p [] none = refl
none_of_all p (x ∷ xs) none = ap (λ b. b || list_any p xs) (none x) ∙ none_of_all p xs none

-- whether a row that is picked passes, by its number
pub any_of_numbers : (q : StoredRow → Bool) (at : ℕ → Option StoredRow) (numbers : List ℕ)
    → list_any q (picked at numbers) ≡ list_any (λ n. elim (at n) [ Some r ↦ q r | None ↦ false ]) numbers
any_of_numbers q at [] = refl
any_of_numbers q at (n ∷ numbers) = where_row (at n) (any_of_numbers q at numbers)
  where
    rest : Bool
    rest = list_any (λ m. elim (at m) [ Some r ↦ q r | None ↦ false ]) numbers

    where_row : (o : Option StoredRow) → list_any q (picked at numbers) ≡ rest
        → list_any q (cons_option o (picked at numbers)) ≡ (elim o [ Some r ↦ q r | None ↦ false ] || rest)
    where_row None e = e
    where_row (Some r) e = ap (λ b. q r || b) e

-- if those of a filter that fail one test fail another, the first of them may be left out
pub filter_acting : (q acts : Reference → Bool) (ks : List Reference) → EachReference (λ k. acts k ≡ false → q k ≡ false) ks
    → filter q ks ≡ filter q (filter acts ks)
filter_acting q acts [] h = refl
filter_acting q acts (k ∷ ks) h = where_acts (acts k) refl (filter_acting q acts ks h.1)
  where
    where_acts : (b : Bool) → acts k ≡ b → filter q ks ≡ filter q (filter acts ks)
        → (if q k then k ∷ filter q ks else filter q ks) ≡ filter q (if b then k ∷ filter acts ks else filter acts ks)
    where_acts true e rest = ap (λ l. if q k then k ∷ l else l) rest
    where_acts false e rest = ap (λ b. if b then k ∷ filter q ks else filter q ks) (h.0 e) ∙ rest

-- ---- foreign keys by their numbers

-- one of these foreign keys has this number
abbrev pub has_id : List Reference → ℕ → Bool
has_id ks id = list_any (λ k. k.id == id) ks

-- one that doesn't do something isn't among those that do
abbrev pub AreApart : (Reference → Bool) → List Reference → List Reference → Type 0
AreApart acts xs ks = EachReference (λ k. acts k ≡ false → has_id xs k.id ≡ false) ks

apart_from : (acts : Reference → Bool) (xs : List Reference) (j : Reference) (b : Bool) (low : ℕ) (ks : List Reference) → j.id + 1 ≤ low → RisingReferences low ks
    → AreApart acts xs ks → AreApart acts (if b then j ∷ xs else xs) ks
apart_from acts xs j b low [] le rise h = tt
apart_from acts xs j b low (k ∷ ks) le rise h = (
  λ e. elim b as (λ b'. has_id (if b' then j ∷ xs else xs) k.id ≡ false) [
    | true ↦ ap (λ x. x || has_id xs k.id) (ne_eqb j.id k.id (λ is. absurd (omega (arith, is, le, rise.0)))) ∙ h.0 e
    | false ↦ h.0 e
  ],
  apart_from acts xs j b (k.id + 1) ks (omega (arith, le, rise.0)) rise.1 h.1,
)

none_has : (n low : ℕ) (ks : List Reference) → n + 1 ≤ low → RisingReferences low ks → has_id ks n ≡ false
none_has n low [] le rise = refl
none_has n low (k ∷ ks) le rise =
    ap (λ b. b || has_id ks n) (ne_eqb k.id n (λ is. absurd (omega (arith, is, le, rise.0)))) ∙ none_has n (k.id + 1) ks (omega (arith, le, rise.0)) rise.1

filter_none_has : (acts : Reference → Bool) (n low : ℕ) (ks : List Reference) → n + 1 ≤ low → RisingReferences low ks → has_id (filter acts ks) n ≡ false
filter_none_has acts n low [] le rise = refl
filter_none_has acts n low (k ∷ ks) le rise = where_acts (acts k) (filter_none_has acts n (k.id + 1) ks (omega (arith, le, rise.0)) rise.1)
  where
    where_acts : (b : Bool) → has_id (filter acts ks) n ≡ false → has_id (if b then k ∷ filter acts ks else filter acts ks) n ≡ false
    where_acts true rest = ap (λ b. b || has_id (filter acts ks) n) (ne_eqb k.id n (λ is. absurd (omega (arith, is, le, rise.0)))) ∙ rest
    where_acts false rest = rest

pub are_apart : (acts : Reference → Bool) (low : ℕ) (ks : List Reference) → RisingReferences low ks → AreApart acts (filter acts ks) ks
are_apart acts low [] rise = tt
are_apart acts low (k ∷ ks) rise = (
  λ e. ap (λ b. has_id (if b then k ∷ filter acts ks else filter acts ks) k.id) e ∙ filter_none_has acts k.id (k.id + 1) ks (omega arith) rise.1,
  apart_from acts (filter acts ks) k (acts k) (k.id + 1) ks (omega arith) rise.1 (are_apart acts (k.id + 1) ks rise.1),
)

-- ---- effects

none_with : (schema : Schema) (lost : LostKeys) (before : StoredRow) (k : Reference) (id : ℕ) → (k.id == id) ≡ false
    → (es : List Effect) → list_any (λ (e : ℕ × Effect). e.0 == id) (map (λ effect. (k.id, effect)) es) ≡ false
none_with schema lost before k id e [] = refl
none_with schema lost before k id e (x ∷ es) =
    ap (λ b. b || list_any (λ (y : ℕ × Effect). y.0 == id) (map (λ effect. (k.id, effect)) es)) e ∙ none_with schema lost before k id e es

-- a foreign key that isn't among these has no effect
no_own_effect : (schema : Schema) (ks : List Reference) (lost : LostKeys) (before after : StoredRow) (id : ℕ) → has_id ks id ≡ false
    → list_any (λ (e : ℕ × Effect). e.0 == id) (effects_of schema ks lost before after) ≡ false
no_own_effect schema [] lost before after id h = refl
no_own_effect schema (k ∷ ks) lost before after id h =
    where_kept (keeps_reference before after k) (no_own_effect schema ks lost before after id parts.1)
  where
    parts : ((k.id == id) ≡ false) × (has_id ks id ≡ false)
    parts = or_parts (k.id == id) (has_id ks id) h

    own : ℕ × Effect → Bool
    own e = e.0 == id

    some : List Reference
    some = filter (keeps_reference before after) ks

    where_kept : (b : Bool) → list_any own (flat_map (effects_with schema lost before) some) ≡ false
        → list_any own (flat_map (effects_with schema lost before) (if b then k ∷ some else some)) ≡ false
    where_kept true rest =
        any_append own (effects_with schema lost before k) (flat_map (effects_with schema lost before) some)
        ∙ ap (λ b. b || list_any own (flat_map (effects_with schema lost before) some))
        (none_with schema lost before k id parts.0 (effects_of_loss schema k (lost_reference lost k.key before)))
        ∙ rest
    where_kept false rest = rest

pub sets_none : (schema : Schema) (ks : List Reference) (lost : LostKeys) (before after : StoredRow) (id : ℕ) → has_id ks id ≡ false
    → sets_values id (effects_of schema ks lost before after) ≡ false
sets_none schema ks lost before after id h =
    ap (λ b. not (have_deletion (effects_of schema ks lost before after)) && b) (no_own_effect schema ks lost before after id h)
    ∙ and-false (not (have_deletion (effects_of schema ks lost before after)))

pub each_reference : {P Q : Reference → Type 0} (ks : List Reference) → ((k : Reference) → P k → Q k) → EachReference P ks → EachReference Q ks
each_reference [] f h = tt
each_reference (k ∷ ks) f h = (f k h.0, each_reference ks f h.1)
