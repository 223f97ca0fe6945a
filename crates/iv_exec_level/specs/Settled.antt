-- What the waves of a level come to.
use Rattle.std.specs.Prelude.{◌≡◌, ℕ, List, [], Option, Some, None, Result, Ok, Err, MatchBool}
use Rattle.iv_expr.specs.declared.row.Change.{Change}
use Rattle.iv_expr.specs.declared.wave.TableColumn.{TableColumn}
use Rattle.iv_expr.specs.Changes.{Wave, names_column}
use Rattle.iv_catalogue.specs.Refusals.{is_memory_cause}
use Rattle.iv_catalogue.specs.declared.cause.Refusal.{Refusal}
use Rattle.iv_catalogue.specs.declared.plan.DataStatement.{DataStatement}
use Rattle.iv_machine.specs.declared.database.Database.{Database}
use Rattle.iv_machine.specs.Context.{Context}
use Rattle.iv_machine.specs.Levels.{firings, level_columns}
use Rattle.iv_machine.specs.Proposals.{set_columns}
use Rattle.iv_machine.specs.Waves.{net_wave, settled_waves}
use Rattle.iv_exec_triggers.specs.ByTable.{ByTableAndEvent}
use Rattle.iv_exec_waves.specs.Steps.{wave_with}
use Rattle.iv_exec_level.specs.declared.start.LevelChanges.{LevelChanges}

-- the two lists name the same columns
abbrev pub SameColumns : List TableColumn → List TableColumn → Type 0
SameColumns columns others = (table column : ℕ) → names_column columns table column ≡ names_column others table column

-- These are the columns and the net changes by table and event; or there are none, and no trigger fires on them.
abbrev pub Tells : Context → DataStatement → List TableColumn → Wave → Option LevelChanges → Type 0
Tells context statement columns net None = firings context statement columns net ≡ []
Tells context statement columns net (Some x) = SameColumns x.columns.items columns × ByTableAndEvent x.transitions net.changes

-- The waves of these changes, which a statement proposes, lead to a last database and leave a rest of the budget, and these are the
-- columns and the net changes of the level.
pub record SettledLevel (context : Context) (statement : DataStatement) (db : Database) (budget : ℕ) (changes : List Change) (last : Database) (rest : ℕ) (told : Option LevelChanges) : Type 0 where
  pub waves : List Wave
  pub is : settled_waves context db budget (wave_with (set_columns statement) changes) ≡ Ok (record { last = last; waves = waves; rest = rest })
  pub tells : Tells context statement (level_columns statement waves) (net_wave db.rows last.rows waves) told

-- The waves settle, or they are refused as the definition says, or an allocation failed.
abbrev pub Settles : Context → DataStatement → Database → ℕ → List Change → Database → ℕ → Result (Option LevelChanges) Refusal → Type 0
Settles context statement db budget changes last rest (Ok told) = SettledLevel context statement db budget changes last rest told
Settles context statement db budget changes last rest (Err r) =
    MatchBool (is_memory_cause r.cause) (Unit {0})
    (settled_waves context db budget (wave_with (set_columns statement) changes) ≡ Err (record { cause = r.cause; trigger = r.trigger; count = last.count }))
