-- Room for taking changes back.
use Rattle.std.proofs.Common.{◌≡◌, refl, ℕ, suc, ◌<◌, ◌≤◌, true, false, ◌||◌, not, if◌then◌else◌, List, [], ◌∷◌, length, filter, Option, Some, None, sym, ap, ◌∙◌, arith}
use Rattle.std.proofs.lemmas.Bool.{true≢false}
use Rattle.std.specs.Bool.{◌==◌}
use Rattle.iv_store_faults.specs.Types.{Value}
use Rattle.iv_laws_levels.proofs.Keys.{all_same_itself}
use Rattle.iv_store.specs.Stores.{numbers_of}
use Rattle.iv_store_groups.specs.Groups.{groups_of, rows_of}
use Rattle.iv_store_violating.proofs.Shown.{rows_under_shown}
use Rattle.iv_laws_kept.specs.Kept.{is_kept_under}
use Rattle.iv_laws_kept.specs.Moves.{moved, side_under}
use Rattle.iv_laws_kept.specs.Numbers.{has, without}
use Rattle.iv_laws_kept.proofs.Moves.{moved_is}
use Rattle.iv_laws_kept.proofs.Rows.{has_filtered, passes}
use Rattle.iv_store_following.specs.BorrowedChange.{is_key, is_one_key, side_key}
use Rattle.iv_store_faults.specs.Watching.{RoomSuffices}
use Rattle.iv_store_faults.proofs.Shows.{side_is_there}
use Rattle.iv_store_following.proofs.SideKeys.{under_is}

-- a list without a number that it has is shorter
no_longer : (n : ℕ) (numbers : List ℕ) → length (without n numbers) ≤ length numbers
no_longer n [] = omega arith
no_longer n (m ∷ numbers) =
    elim (m == n) as (λ b. length (if not b then m ∷ without n numbers else without n numbers) ≤ suc (length numbers)) [
      | true ↦ omega (arith, no_longer n numbers)
      | false ↦ omega (arith, no_longer n numbers)
    ]

shorter : (n : ℕ) (numbers : List ℕ) → has n numbers ≡ true → length (without n numbers) < length numbers
shorter n [] e = absurd (true≢false (sym e))
shorter n (m ∷ numbers) e =
    elim (m == n) as (λ b. (b || has n numbers) ≡ true → length (if not b then m ∷ without n numbers else without n numbers) < suc (length numbers)) [
      | true ↦ λ _. omega (arith, no_longer n numbers)
      | false ↦ λ h. omega (arith, shorter n numbers h)
    ] e

-- the new side isn't under the key of the old one
not_under : (o p : Option (List Value)) (key : List Value) → is_one_key o p ≡ false → p ≡ Some key → is_key o key ≡ false
not_under o p key differs e = by_keys o (ap (is_one_key o) (sym e) ∙ differs)
  where
    by_keys : (o : Option (List Value)) → is_one_key o (Some key) ≡ false → is_key o key ≡ false
    by_keys None h = refl
    by_keys (Some a) h = h

pub room_suffices : RoomSuffices
room_suffices rows constraints groups change holds shows sizes k c key at moves e =
    let numbers : List ℕ = numbers_of (filter (is_kept_under c key) rows) in
    let there : has change.row numbers ≡ true = has_filtered (is_kept_under c key) rows change.row holds.0 ∙ ap (passes (is_kept_under c key)) holds.1 ∙ side_is_there c change key change.old e in
    let was : side_under c key change change.old ≡ true = under_is c change change.old key ∙ ap (λ o. is_key o key) e ∙ all_same_itself key in
    let is : side_under c key change change.new ≡ false = under_is c change change.new key ∙ not_under (side_key c change.table change.new) (side_key c change.table change.old) key moves e in
    let now : rows_of (groups_of groups k) key ≡ without change.row numbers =
    sym (rows_under_shown groups k key) ∙ shows k c key at ∙ sym (moved_is rows c key change holds) ∙ (λ i. moved (was i) (is i) change.row numbers) in
    omega (arith, sizes k c key at, ap length now, shorter change.row numbers there)
