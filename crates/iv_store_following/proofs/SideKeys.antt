-- The key of a side of a change.
use Rattle.std.proofs.Common.{◌≡◌, refl, ℕ, Bool, true, false, ◌&&◌, ◌||◌, not, if◌then◌else◌, List, Option, Some, None, sym, ap, ◌∙◌}
use mathlib.Core.Bool.{and-false}
use Rattle.std.specs.Bool.{◌==◌}
use Rattle.std.proofs.lemmas.Bool.{eqb-true}
use Rattle.iv_store_following.specs.Types.{Value, Change, Constraint, ForeignKey}
use Rattle.iv_key.specs.Keys.{key_of, none_null}
use Rattle.iv_laws_levels.proofs.Keys.{false_true, and_first, and_second, all_same_is, all_same_swap, same_test}
use Rattle.iv_laws_levels.proofs.RowNumbers.{some_none, some_same}
use Rattle.iv_laws_kept.specs.GroupFlags.{referenced_side}
use Rattle.iv_value.specs.Values.{all_same}
use Rattle.iv_laws_kept.specs.Kept.{kept_key}
use Rattle.iv_laws_kept.specs.Moves.{side_under}
use Rattle.iv_laws_kept.specs.Kept.{Group, rows_in}
use Rattle.iv_laws_kept.specs.Moves.{moved, rows_moved}
use Rattle.iv_laws_kept.specs.Numbers.{has, with_number, without, Rise}
use Rattle.iv_laws_kept.proofs.RisingNumbers.{has_with, has_without, rise_filter, rise_with, same_numbers}
use Rattle.iv_store_following.specs.BorrowedChange.{is_key, is_one_key, side_key, referenced_key}

-- a side is kept under the keys that are its key
pub under_is : (c : Constraint) (change : Change) (side : Option (List Value)) (other : List Value) → side_under c other change side ≡ is_key (side_key c change.table side) other
under_is c change None other = refl
under_is c change (Some values) other = by_table (change.table == c.table) (kept_key c.rule values)
  where
    by_table : (b : Bool) (o : Option (List Value)) → (b && elim o [ Some k ↦ all_same k other | None ↦ false ]) ≡ is_key (if b then o else None) other
    by_table true None = refl
    by_table true (Some k) = refl
    by_table false o = refl

-- what is changed under one key, said of a side
pub by_side : (f : List ℕ → List ℕ) (c : Constraint) (change : Change) (side : Option (List Value)) (key other : List Value) (rows : List ℕ) → side_key c change.table side ≡ Some key
    → (if all_same key other then f rows else rows) ≡ (if side_under c other change side then f rows else rows)
by_side f c change side key other rows e = ap (λ b. if b then f rows else rows) (sym (under_is c change side other ∙ ap (λ o. is_key o other) e))

pub no_side : (f : List ℕ → List ℕ) (c : Constraint) (change : Change) (side : Option (List Value)) (other : List Value) (rows : List ℕ) → side_key c change.table side ≡ None
    → rows ≡ (if side_under c other change side then f rows else rows)
no_side f c change side other rows e = ap (λ b. if b then f rows else rows) (sym (under_is c change side other ∙ ap (λ o. is_key o other) e))

-- ---- referenced keys

-- another key than that of a side isn't what it refers to
pub other_referenced : (fk : ForeignKey) (change : Change) (side : Option (List Value)) (key other : List Value) → referenced_key fk change.table side ≡ Some key
    → all_same other key ≡ false → referenced_side fk other change side ≡ false
other_referenced fk change None key other e f = refl
other_referenced fk change (Some values) key other e f =
    elim ((change.table == fk.referenced) && none_null (key_of fk.key values)) as (λ b. (if b then Some (key_of fk.key values) else None) ≡ Some key → referenced_side fk other change (Some values) ≡ false) [
      | true ↦ λ h. ap (λ b. (change.table == fk.referenced) && b) (all_same_swap (key_of fk.key values) other ∙ ap (all_same other) (some_same (key_of fk.key values) key h) ∙ f) ∙ and-false (change.table == fk.referenced)
      | false ↦ λ h. absurd (some_none key (sym h))
    ] e

-- a side with no such key is what no key without nulls refers to
pub none_referenced : (fk : ForeignKey) (change : Change) (side : Option (List Value)) (other : List Value) → referenced_key fk change.table side ≡ None
    → none_null other ≡ true → referenced_side fk other change side ≡ false
none_referenced fk change None other e given = refl
none_referenced fk change (Some values) other e given =
    same_test ((change.table == fk.referenced) && all_same (key_of fk.key values) other) false (λ h.
    let is : key_of fk.key values ≡ other = all_same_is (key_of fk.key values) other (and_second (change.table == fk.referenced) (all_same (key_of fk.key values) other) h) in
    absurd (some_none (key_of fk.key values) (sym (λ i. if (and_first (change.table == fk.referenced) (all_same (key_of fk.key values) other) h) i && (ap none_null is ∙ given) i then Some (key_of fk.key values) else None) ∙ e)))
    (λ h. absurd (false_true h))

-- ---- one key on both sides

-- a number that leaves and comes back
back_again : (n : ℕ) (rows : List ℕ) → Rise rows → has n rows ≡ true → rows ≡ with_number n (without n rows)
back_again n rows rises there =
    same_numbers rows (with_number n (without n rows)) rises (rise_with n (without n rows) (rise_filter (λ m. not (m == n)) rows rises))
    (λ k. sym (has_with k n (without n rows) ∙ ap (λ b. (n == k) || b) (has_without k n rows) ∙ by_number k (n == k) refl))
  where
    by_number : (k : ℕ) (b : Bool) → (n == k) ≡ b → (b || (not b && has k rows)) ≡ has k rows
    by_number k true e = sym (ap (λ m. has m rows) (sym (eqb-true n k e)) ∙ there)
    by_number k false e = refl

-- the rows under each key stay
pub stays_moved : (c : Constraint) (change : Change) (groups : List Group) (key : List Value) → is_one_key (side_key c change.table change.old) (side_key c change.table change.new) ≡ true
    → ((k : List Value) → side_key c change.table change.old ≡ Some k → has change.row (rows_in groups k) ≡ true) → Rise (rows_in groups key)
    → rows_in groups key ≡ rows_moved c key change (rows_in groups key)
stays_moved c change groups key one present rises =
    by_keys (side_key c change.table change.old) (side_key c change.table change.new) one present
    ∙ (λ i. moved (sym (under_is c change change.old key) i) (sym (under_is c change change.new key) i) change.row (rows_in groups key))
  where
    by_test : (a b : List Value) (t : Bool) → all_same a key ≡ t → all_same b key ≡ t → has change.row (rows_in groups a) ≡ true → rows_in groups key ≡ moved t t change.row (rows_in groups key)
    by_test a b true e f there = back_again change.row (rows_in groups key) rises (ap (λ k. has change.row (rows_in groups k)) (sym (all_same_is a key e)) ∙ there)
    by_test a b false e f there = refl

    by_keys : (o p : Option (List Value)) → is_one_key o p ≡ true → ((k : List Value) → o ≡ Some k → has change.row (rows_in groups k) ≡ true)
        → rows_in groups key ≡ moved (is_key o key) (is_key p key) change.row (rows_in groups key)
    by_keys None None e there = refl
    by_keys None (Some b) e there = absurd (false_true e)
    by_keys (Some a) None e there = absurd (false_true e)
    by_keys (Some a) (Some b) e there =
        let same : all_same b key ≡ all_same a key = ap (λ k. all_same k key) (sym (all_same_is a b e)) in
        by_test a b (all_same a key) refl same (there a refl) ∙ ap (λ t. moved (all_same a key) t change.row (rows_in groups key)) (sym same)
