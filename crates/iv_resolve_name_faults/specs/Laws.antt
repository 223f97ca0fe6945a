-- A name is told of each refusal for Unknown or Duplicate.
use Rattle.std.specs.Prelude.{◌≡◌, Bool, true, false, Some}
use Rattle.iv_syntax.specs.declared.statement.Statement.{Statement}
use Rattle.iv_catalogue.specs.declared.cause.Cause.TheVariants.{Unknown, Duplicate}
use Rattle.iv_catalogue.specs.Catalogues.{Schema}
use Rattle.iv_catalogue.specs.Refusals.{refusal_answer}
use Rattle.iv_resolution.specs.Resolution.{resolution}
use Rattle.iv_resolution.specs.Items.{Item, Fault, unknown_fault, in_use_fault, twice_fault}
use Rattle.iv_resolution.specs.NameFaults.{name_fault}

-- the name is in use, or comes twice
abbrev pub is_duplicate_fault : Fault → Bool
is_duplicate_fault (unknown_fault item) = false
is_duplicate_fault (in_use_fault item) = true
is_duplicate_fault (twice_fault item) = true

-- Of a refusal for Unknown a name that names nothing is told, of one for Duplicate a name that is in use or comes twice.
pub record RefusalsAreTold : Type 0 where
  pub unknown : (schema : Schema) (s : Statement) → resolution schema s ≡ refusal_answer Unknown
      → (item : Item) × (name_fault schema s Unknown ≡ Some (unknown_fault item))
  pub duplicate : (schema : Schema) (s : Statement) → resolution schema s ≡ refusal_answer Duplicate
      → (fault : Fault) × (name_fault schema s Duplicate ≡ Some fault) × (is_duplicate_fault fault ≡ true)
