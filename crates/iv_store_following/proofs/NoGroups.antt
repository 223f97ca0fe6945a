-- A constraint of no group keeps neither side of a change.
use Rattle.std.proofs.Common.{◌≡◌, refl, ap, ◌∙◌, subst, ℕ, true, List, [], ◌∷◌, length, Option, Some, None, arith}
use Rattle.std.proofs.lemmas.Bool.{false≢true}
use Rattle.iv_store_following.specs.Types.{Value, Change, Constraint}
use Rattle.iv_store_groups.specs.Groups.{GroupOf}
use Rattle.iv_store_following.specs.BorrowedChange.{side_key, is_one_key, stays_put}
use Rattle.iv_store_following.specs.Steps.{IsReady}

pub none_kept : (change : Change) (c : Constraint) (groups : List GroupOf) → groups ≡ [] → IsReady change c groups → stays_put c change ≡ true
none_kept change c groups none ready = by (side_key c change.table change.old) (side_key c change.table change.new) refl refl
  where
    there : IsReady change c []
    there = subst (IsReady change c) none ready

    by : (old new : Option (List Value)) → side_key c change.table change.old ≡ old → side_key c change.table change.new ≡ new → is_one_key old new ≡ true
    by None None o n = refl
    by (Some key) new o n = absurd (false≢true (there.present key o))
    by None (Some key) o n =
        absurd (omega (arith, there.room_for key (ap (λ k. is_one_key k (side_key c change.table change.new)) o ∙ ap (is_one_key None) n) n))

-- no group is counted
pub none_counted : (groups : List GroupOf) (count : ℕ) → count ≡ length groups → count ≡ 0 → groups ≡ []
none_counted [] count is zero = refl
none_counted (g ∷ groups) count is zero = absurd (omega (arith, is, zero))
