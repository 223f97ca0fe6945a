-- What the triggers that fire are lent.
use Rattle.std.specs.Prelude.{◌≡◌, ℕ, ◌≤◌, true, List, length, Option, Some, None, slice_get}
use Rattle.std.specs.List.{list_all}
use Rattle.iv_expr.specs.declared.row.Change.{Change}
use Rattle.iv_expr.specs.Changes.{Wave}
use Rattle.iv_expr.specs.Scopes.{Frame}
use Rattle.iv_catalogue.specs.declared.catalogue.Table.{Table}
use Rattle.iv_catalogue.specs.declared.limits.TheConstants.{MOST_BODY_STATEMENTS}
use Rattle.iv_catalogue.specs.declared.plan.BodyStatement.{BodyStatement}
use Rattle.iv_catalogue.specs.declared.plan.BodyStatement.TheVariants as body
use Rattle.iv_laws_fitting.specs.PlanShapes.{trigger_suits}
use Rattle.iv_machine.specs.Levels.{row_firing}
use Rattle.iv_catalogue.specs.declared.plan.Trigger.{Trigger}
use Rattle.iv_machine.specs.BeforeTriggers.{event_of_change, is_on}
use Rattle.iv_laws_rows.specs.RowFits.{StatementFits, changes_fit, wave_fits}
use Rattle.iv_exec_triggers.specs.ByTable.{ByTableAndEvent}
use Rattle.iv_exec_level.specs.declared.start.LevelChanges.{LevelChanges}

-- these are changes of a trigger's table and event, which fit
pub record AreTransitions (tables : List Table) (t : Trigger) (changes : List Change) : Type 0 where
  pub fit : changes_fit tables changes ≡ true
  pub on : list_all (λ c. is_on c.table (event_of_change c) t) changes ≡ true

-- these are changes that fit, by their table and event
pub record AreParts (tables : List Table) (parts : List (List Change)) : Type 0 where
  pub net : Wave
  pub fit : wave_fits tables net ≡ true
  pub by_table : ByTableAndEvent parts net.changes

-- the same, if there are any
abbrev pub MayBeParts : List Table → Option LevelChanges → Type 0
MayBeParts tables None = Unit {0}
MayBeParts tables (Some x) = AreParts tables x.transitions

-- a trigger of the schema, with no more statements than a body may have
pub record CanFire (tables : List Table) (t : Trigger) : Type 0 where
  pub suits : trigger_suits tables t ≡ true
  pub short : length t.body ≤ MOST_BODY_STATEMENTS

-- a data statement of a body fits what the body sees
abbrev pub ActionFits : List Table → Frame → BodyStatement → Type 0
ActionFits tables frame (body.Data d) = StatementFits tables frame d
ActionFits tables frame _ = Unit {0}

-- this is what a row trigger sees at the transition of this place
abbrev pub FiresAt : Trigger → List Change → ℕ → Frame → Type 0
FiresAt t transitions place frame = (c : Change) × (slice_get transitions place ≡ Some c) × (frame ≡ (row_firing t transitions c).frame)
