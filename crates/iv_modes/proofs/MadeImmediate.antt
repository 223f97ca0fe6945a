-- Which constraints are deferred in one list of modes and not in another.
use Rattle.std.proofs.Common.{◌≡◌, ℕ, zero, suc, Bool, true, false, not, ◌&&◌, if◌then◌else◌, List, [], ◌∷◌, length, refl, ap, sym}
use Rattle.iv_syntax.specs.declared.statement.ConstraintMode.{ConstraintMode}
use Rattle.iv_syntax.specs.declared.statement.ConstraintMode.TheVariants.{Immediate}
use Rattle.iv_machine.specs.Databases.{defers, is_deferred}
use Rattle.iv_modes.specs.ModeMaps.{made_immediate}

pub as_long : (before after : List ConstraintMode) → length (made_immediate before after) ≡ length before
as_long [] after = refl
as_long (b ∷ before) [] = refl
as_long (b ∷ before) (a ∷ after) = ap suc (as_long before after)

and_true : (b : Bool) → b ≡ (b && true)
and_true true = refl
and_true false = refl

pub deferred_no_longer : (before after : List ConstraintMode) (id : ℕ)
    → is_deferred (made_immediate before after) id ≡ (is_deferred before id && not (is_deferred after id))
deferred_no_longer [] after id = refl
deferred_no_longer (b ∷ before) [] id = and_true (is_deferred (b ∷ before) id)
deferred_no_longer (b ∷ before) (a ∷ after) zero = by (defers a) where
  by : (d : Bool) → defers (if d then Immediate else b) ≡ (defers b && not d)
  by true = by_not (defers b) where
    by_not : (c : Bool) → false ≡ (c && false)
    by_not true = refl
    by_not false = refl
  by false = and_true (defers b)
deferred_no_longer (b ∷ before) (a ∷ after) (suc id) = deferred_no_longer before after id
