-- Which keys a change takes away, and the first change that takes one.
use Rattle.std.proofs.Common.{◌≡◌, refl, ℕ, suc, ◌+◌, ◌-◌, ◌<◌, ◌≤◌, Bool, true, false, ◌&&◌, if◌then◌else◌, List, [], ◌∷◌, length, get_or, drop, slice_get, Option, Some, None, sym, ap, ◌∙◌, arith, add-one, drop-cons}
use mathlib.Core.Bool.{and-true, and-false}
use Rattle.std.specs.Bool.{◌==◌}
use Rattle.std.specs.List.{find}
use Rattle.iv_value.specs.declared.value.Value.{Value}
use Rattle.iv_value.specs.Values.{all_same}
use Rattle.iv_expr.specs.declared.row.Change.{Change}
use Rattle.iv_catalogue.specs.declared.constraint.ForeignKey.{ForeignKey}
use Rattle.iv_key.specs.Keys.{key_of, none_null}
use Rattle.iv_laws_levels.specs.Holders.{leaves_key, loses_key, loses_key_from}
use Rattle.iv_exec_actions.specs.AffectedForeignKey.{taken_from, key_taken, first_taking}

-- a change takes the keys that are the same as the one that it takes
pub loses_is : (fk : ForeignKey) (key : List Value) (c : Change)
    → loses_key fk key c ≡ (elim (key_taken fk c) [ Some taken ↦ all_same taken key | None ↦ false ])
loses_is fk key c = by (c.table == fk.referenced) c.old
  where
    both : (old : List Value) (full leaves : Bool)
        → ((full && all_same (key_of fk.key old) key) && leaves)
        ≡ (elim (if full && leaves then Some (key_of fk.key old) else None) [ Some taken ↦ all_same taken key | None ↦ false ])
    both old true true = and-true (all_same (key_of fk.key old) key)
    both old true false = and-false (all_same (key_of fk.key old) key)
    both old false leaves = refl

    by : (here : Bool) (o : Option (List Value))
        → (here && loses_key_from fk key o c.new)
        ≡ (elim (if here then taken_from fk o c.new else None) [ Some taken ↦ all_same taken key | None ↦ false ])
    by false o = refl
    by true None = refl
    by true (Some old) = both old (none_null (key_of fk.key old)) (leaves_key fk old c.new)

-- ---- the first change that takes a key away

-- what is left from a place on, whose element is x
pub left_from : {A : Type 0} (xs : List A) (i : ℕ) (x : A) → i < length xs → x ≡ get_or xs i x → drop i xs ≡ x ∷ drop (i + 1) xs
left_from xs i x h is = rw add-one (drop-cons xs i x h ∙ ap (λ y. y ∷ drop (suc i) xs) (sym is))

pub first_at : (fk : ForeignKey) (key : List Value) (changes : List Change) (i : ℕ) (c : Change) → i < length changes → c ≡ get_or changes i c
    → first_taking fk key i (drop i changes)
    ≡ (if elim (key_taken fk c) [ Some taken ↦ all_same taken key | None ↦ false ] then Some i else first_taking fk key (i + 1) (drop (i + 1) changes))
first_at fk key changes i c h is =
    ap (first_taking fk key i) (left_from changes i c h is)
    ∙ ap (λ b. if b then Some i else first_taking fk key (i + 1) (drop (i + 1) changes)) (loses_is fk key c)

-- a place, counted from this one, and the change there
abbrev FoundAt : List Change → Option Change → ℕ → Option ℕ → Type 0
FoundAt changes found i None = None ≡ found
FoundAt changes found i (Some place) = (i ≤ place) × (slice_get changes (place - i) ≡ found)

found_at : (fk : ForeignKey) (key : List Value) (i : ℕ) (changes : List Change)
    → FoundAt changes (find (loses_key fk key) changes) i (first_taking fk key i changes)
found_at fk key i [] = refl
found_at fk key i (c ∷ changes) = by (loses_key fk key c) (first_taking fk key (i + 1) changes) (found_at fk key (i + 1) changes)
  where
    by : (b : Bool) (o : Option ℕ) → FoundAt changes (find (loses_key fk key) changes) (i + 1) o
        → FoundAt (c ∷ changes) (if b then Some c else find (loses_key fk key) changes) i (if b then Some i else o)
    by true o h = (omega arith, ap (slice_get (c ∷ changes)) (let e : i - i ≡ 0 = omega arith in e))
    by false None h = h
    by false (Some place) h =
        (omega (arith, h.0), ap (slice_get (c ∷ changes)) (let e : place - i ≡ suc (place - (i + 1)) = omega (arith, h.0) in e) ∙ h.1)

pub change_found : (fk : ForeignKey) (key : List Value) (changes : List Change)
    → (elim (first_taking fk key 0 changes) [ Some place ↦ slice_get changes place | None ↦ None ]) ≡ find (loses_key fk key) changes
change_found fk key changes = by (first_taking fk key 0 changes) (found_at fk key 0 changes)
  where
    by : (o : Option ℕ) → FoundAt changes (find (loses_key fk key) changes) 0 o → (elim o [ Some place ↦ slice_get changes place | None ↦ None ]) ≡ find (loses_key fk key) changes
    by None h = h
    by (Some place) h = ap (slice_get changes) (let e : place ≡ place - 0 = omega arith in e) ∙ h.1
