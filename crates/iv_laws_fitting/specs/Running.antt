-- What a data statement that suits can be refused for while its rows are found and its values are made: a number out of range, or a text
-- that is too long, and never a value of the wrong kind.
use Rattle.std.specs.Prelude.{◌≡◌, ℕ, Bool, true, false, Err}
use Rattle.iv_expr.specs.Scopes.{Frame, scope_of}
use Rattle.iv_expr.specs.Suiting.{Shape, HasShape}
use Rattle.iv_laws_fitting.specs.Types.{Cause, DataStatement, Database}
use Rattle.iv_laws_fitting.specs.Types.cause.{NumberOutOfRange, TextTooLong}
use Rattle.iv_machine.specs.Context.{Context}
use Rattle.iv_machine.specs.Proposals.{proposed_changes}
use Rattle.iv_laws_fitting.specs.PlanShapes.{table_kinds, data_suits}

-- a cause that values have, which no kind tells beforehand
abbrev pub is_of_values : Cause → Bool
is_of_values NumberOutOfRange = true
is_of_values TextTooLong = true
is_of_values _ = false

-- A statement that suits the tables, if all that it sees is of the kinds of the shape, is refused only for its values.
abbrev pub ProposalsAreWellTyped : Type 0
ProposalsAreWellTyped =
    (context : Context) (db : Database) (frame : Frame) (shape : Shape) (d : DataStatement) (cause : Cause)
    → HasShape (scope_of frame db.rows) shape
    → ((t : ℕ) → shape.tables t ≡ table_kinds context.schema.tables t)
    → data_suits context.schema.tables shape d ≡ true
    → proposed_changes context db frame d ≡ Err cause → is_of_values cause ≡ true
