-- The groups of a constraint that is to be watched.
use Rattle.std.specs.Prelude.{◌≡◌, ℕ, Bool, false, List, Option, Some, None}
use Rattle.iv_store_faults.specs.Types.{Value, Constraint, ForeignKey}
use Rattle.iv_store_faults.specs.Types.rule
use Rattle.iv_store_following.specs.declared.reference.KeyReference.{KeyReference}
use Rattle.iv_laws_kept.specs.Kept.{Groups, rows_under, violate}
use Rattle.iv_store_following.specs.References.{IsReference}

-- There is a reference if the constraint is a foreign key, and it is that one's.
pub record IsReferring (constraints : List Constraint) (c : Constraint) (reference : Option KeyReference) : Type 0 where
  pub is : (r : KeyReference) → reference ≡ Some r → IsReference constraints c r
  pub there : (fk : ForeignKey) → c.rule ≡ rule.ForeignKey fk → (r : KeyReference) × (reference ≡ Some r)

-- the rows under a key, if there is one, violate the constraint of this number
abbrev pub violates_by : List Constraint → Groups → ℕ → Constraint → Option (List Value) → Bool
violates_by constraints groups id c None = false
violates_by constraints groups id c (Some key) = violate constraints groups c.rule key (rows_under groups id key)
