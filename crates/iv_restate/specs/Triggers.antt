-- What a CREATE TRIGGER has of a trigger of the catalogue, whatever its names are.
use Rattle.std.specs.Prelude.{◌≡◌, ℕ, List, length}
use Rattle.iv_restate.specs.Types.{Table, Statement, Trigger, TriggerDefinition}
use Rattle.iv_restate.specs.Types.statement
use Rattle.iv_restate.specs.Constraints.{names_at, columns_at, table_name_at}

-- name, time, event, columns, table and granularity, and as many statements
pub record HasParts (tables : List Table) (t : Trigger) (d : TriggerDefinition) : Type 0 where
  pub name : d.name ≡ t.name
  pub time : d.time ≡ t.time
  pub event : d.event ≡ t.event
  pub columns : d.columns ≡ names_at (columns_at tables t.table) t.columns
  pub table : d.table ≡ table_name_at tables t.table
  pub granularity : d.granularity ≡ t.granularity
  pub body : length d.body ≡ length t.body

abbrev pub CreatesTrigger : List Table → Trigger → Statement → Type 0
CreatesTrigger tables t (statement.CreateTrigger d) = HasParts tables t d
CreatesTrigger tables t _ = ⊥
