-- The modes of constraints: a finite map by the constraint's number (ISO/IEC 9075-2:1999, "Set constraints mode statement").
use Rattle.std.specs.Prelude.{◌≡◌, ℕ, Bool, false, ◌==◌, not, if◌then◌else◌, List, [], ◌∷◌, map, find, slice_get, Option, Some, None}
use Rattle.std.specs.List.{list_any}
use Rattle.iv_syntax.specs.declared.statement.ConstraintMode.{ConstraintMode}
use Rattle.iv_syntax.specs.declared.statement.ConstraintMode.TheVariants.{Immediate}
use Rattle.iv_catalogue.specs.declared.constraint.Constraint.{Constraint}
use Rattle.iv_machine.specs.Databases.{initial_modes, defers, is_deferred}
use Rattle.iv_machine.specs.Machine.{with_modes}

-- Of each constraint, whether SET CONSTRAINTS may set its mode, and the mode.
pub record ModeMap : Type 0 where
  pub deferrable : List Bool
  pub modes : List ConstraintMode

-- the modes at the start of a transaction
abbrev pub initial_map : List Constraint → ModeMap
initial_map constraints = record { deferrable = map (λ c. c.deferrable) constraints; modes = initial_modes constraints }

-- the mode of the constraint of this number may be set
abbrev pub is_deferrable : ModeMap → ℕ → Bool
is_deferrable m id = elim (slice_get m.deferrable id) [ Some deferrable ↦ deferrable | None ↦ false ]

-- the first of these constraints that isn't deferrable
abbrev pub first_not_deferrable : ModeMap → List ℕ → Option ℕ
first_not_deferrable m ids = find (λ id. not (is_deferrable m id)) ids

-- the map after the mode of each of these constraints is set
abbrev pub with_mode : ModeMap → List ℕ → ConstraintMode → ModeMap
with_mode m ids mode = record m { modes = with_modes m.modes ids mode }

-- of each mode, IMMEDIATE if the other list defers its place, and otherwise itself
abbrev pub made_immediate : List ConstraintMode → List ConstraintMode → List ConstraintMode
made_immediate [] after = []
made_immediate (b ∷ before) [] = b ∷ before
made_immediate (b ∷ before) (a ∷ after) = (if defers a then Immediate else b) ∷ made_immediate before after

-- After these constraints are set to a mode, they have it, and every other constraint has the mode that it had.
abbrev pub OnlyTheseAreSet : ModeMap → List ℕ → ConstraintMode → ModeMap → Type 0
OnlyTheseAreSet old ids mode new =
    (id : ℕ) → is_deferred new.modes id ≡ (if list_any (λ n. n == id) ids then defers mode else is_deferred old.modes id)
