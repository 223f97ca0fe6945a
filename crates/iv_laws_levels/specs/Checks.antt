-- What a data statement checks.
use Rattle.std.specs.Prelude.{◌≡◌, ℕ, [], Ok}
use Rattle.iv_expr.specs.Scopes.{Frame}
use Rattle.iv_laws_levels.specs.Types.{DataStatement, Database}
use Rattle.iv_laws_levels.specs.Types.which.{Immediate}
use Rattle.iv_machine.specs.Context.{Context}
use Rattle.iv_machine.specs.Databases.{scan, is_chosen}
use Rattle.iv_machine.specs.Levels.{Finished, nested_level, level}

-- no immediate constraint is violated
abbrev pub IsChecked : Context → Database → Type 0
IsChecked context db = scan db.rows context.schema.constraints (is_chosen context.modes Immediate) ≡ []

-- After an accepted data statement of a script no immediate constraint is violated, whatever was violated before.
abbrev pub LevelsCheck : Type 0
LevelsCheck =
    (deeper : ℕ) (context : Context) (statement : DataStatement) (frame : Frame) (db : Database) (budget : ℕ) (done : Finished)
    → level deeper context statement frame db budget ≡ Ok done
    → IsChecked context done.database

-- After an accepted data statement of a trigger's body no immediate constraint is violated either.
abbrev pub NestedLevelsCheck : Type 0
NestedLevelsCheck =
    (depth : ℕ) (context : Context) (trigger : ℕ) (statement : DataStatement) (frame : Frame) (db : Database) (budget : ℕ) (done : Finished)
    → nested_level depth context trigger statement frame db budget ≡ Ok done
    → IsChecked context done.database
