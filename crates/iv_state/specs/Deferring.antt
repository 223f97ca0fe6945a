-- Modes after SET CONSTRAINTS to a mode, against those before it.
use Rattle.std.specs.Prelude.{◌≡◌, ℕ, true, List}
use Rattle.iv_syntax.specs.declared.statement.ConstraintMode.{ConstraintMode}
use Rattle.iv_syntax.specs.declared.statement.ConstraintMode.TheVariants as mode
use Rattle.iv_machine.specs.Databases.{is_deferred}

-- if constraints were set to DEFERRED, each that was deferred still is
abbrev pub DefersNoLess : List ConstraintMode → ConstraintMode → List ConstraintMode → Type 0
DefersNoLess old mode.Deferred new = (id : ℕ) → is_deferred old id ≡ true → is_deferred new id ≡ true
DefersNoLess old mode.Immediate new = Unit {0}
