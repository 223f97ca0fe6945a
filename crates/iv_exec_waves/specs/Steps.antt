-- A wave of changes and columns that are passed apart, and the second of the two steps of one wave.
use Rattle.std.specs.Prelude.{List, Result, Ok}
use Rattle.iv_expr.specs.declared.row.Change.{Change}
use Rattle.iv_expr.specs.declared.wave.TableColumn.{TableColumn}
use Rattle.iv_expr.specs.Changes.{Wave}
use Rattle.iv_expr.specs.Evaluation.{and_then}
use Rattle.iv_machine.specs.declared.database.Database.{Database}
use Rattle.iv_machine.specs.Context.{Context, Failure}
use Rattle.iv_machine.specs.Databases.{database_after}
use Rattle.iv_machine.specs.ReferentialActions.{following_wave}
use Rattle.iv_machine.specs.Waves.{AppliedWave}

-- the wave of these columns and these changes
abbrev pub wave_with : List TableColumn → List Change → Wave
wave_with columns changes = record { changes = changes; columns = columns }

-- what follows a wave that was applied to this database
abbrev pub followed_by : Context → Database → Wave → Result AppliedWave Failure
followed_by context db applied =
    and_then (following_wave context db (database_after db applied)) (λ next. Ok (record { wave = applied; next = next }))
