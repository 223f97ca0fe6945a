-- The place of the first change that takes a key away, as the only row of the key.
use Rattle.std.proofs.Common.{◌≡◌, refl, sym, ap, ◌∙◌, ℕ, suc, ◌<◌, Bool, true, false, if◌then◌else◌, List, [], ◌∷◌, length, slice_get, Option, Some, arith}
use Rattle.std.specs.Bool.{◌==◌}
use Rattle.std.specs.Option.{option_or}
use Rattle.std.proofs.lemmas.Bool.{eqb-true, false≢true}
use Rattle.iv_value.specs.declared.value.Value.{Value}
use Rattle.iv_value.specs.Values.{all_same}
use Rattle.iv_numbers.specs.Rows.{Rows, added, with_row}
use Rattle.iv_store_groups.specs.Groups.{GroupOf, groups_of, held_at, rows_of, with_groups, with_row_under}
use Rattle.iv_store_groups.proofs.GroupsLaws.{groups_after, held_after, same_is_equal}

none : (rows : List ℕ) → (length rows == 0) ≡ true → rows ≡ []
none [] h = refl
none (r ∷ rows) h = absurd (let e : suc (length rows) ≡ 0 = eqb-true (suc (length rows)) 0 h in omega (arith, e))

some : (rows : List ℕ) (later other : Option ℕ) → (length rows == 0) ≡ false → option_or (slice_get rows 0) later ≡ option_or (slice_get rows 0) other
some [] later other h = absurd (false≢true (sym h))
some (r ∷ rows) later other h = refl

-- a place that is noted for a key which had none
pub noted_first : (groups : List (List GroupOf)) (taken key : List Value) (place : ℕ) (later : Option ℕ)
    → 0 < length groups → (length (rows_of (groups_of groups 0) taken) == 0) ≡ true
    → option_or (slice_get (rows_of (groups_of (with_groups groups 0 (with_row_under taken place (groups_of groups 0))) 0) key) 0) later
    ≡ option_or (slice_get (rows_of (groups_of groups 0) key) 0) (if all_same taken key then Some place else later)
noted_first groups taken key place later known empty =
    ap (λ (gs : List GroupOf). option_or (slice_get (rows_of gs key) 0) later) (groups_after groups 0 0 (with_row_under taken place g) known)
    ∙ ap (λ (held : Rows). option_or (slice_get held.rows 0) later) (held_after g taken key (added place (held_at g taken)))
    ∙ by (all_same taken key) refl
  where
    g : List GroupOf
    g = groups_of groups 0

    by : (b : Bool) → all_same taken key ≡ b
        → option_or (slice_get (if b then added place (held_at g taken) else held_at g key).rows 0) later
        ≡ option_or (slice_get (rows_of g key) 0) (if b then Some place else later)
    by true e =
        ap (λ (rows : List ℕ). option_or (slice_get (with_row place rows) 0) later) (none (rows_of g taken) empty)
        ∙ sym (ap (λ (rows : List ℕ). option_or (slice_get rows 0) (Some place)) (sym (ap (rows_of g) ((same_is_equal taken key).0 e)) ∙ none (rows_of g taken) empty))
    by false e = refl

-- a place that isn't noted for a key which had one
pub noted_before : (g : List GroupOf) (taken key : List Value) (place : ℕ) (later : Option ℕ)
    → (length (rows_of g taken) == 0) ≡ false
    → option_or (slice_get (rows_of g key) 0) later ≡ option_or (slice_get (rows_of g key) 0) (if all_same taken key then Some place else later)
noted_before g taken key place later full = by (all_same taken key) refl
  where
    by : (b : Bool) → all_same taken key ≡ b
        → option_or (slice_get (rows_of g key) 0) later ≡ option_or (slice_get (rows_of g key) 0) (if b then Some place else later)
    by true e = some (rows_of g key) later (Some place) (ap (λ k. length (rows_of g k) == 0) (sym ((same_is_equal taken key).0 e)) ∙ full)
    by false e = refl
