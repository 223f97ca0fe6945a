-- How many keys a statement looks up.
use Rattle.std.specs.Prelude.{◌+◌, ◌*◌, ◌≤◌, Bool, true, false, length}
use Rattle.iv_syntax.specs.declared.statement.Statement.TheVariants as statement
use Rattle.iv_session.specs.Types.{Statement}
use Rattle.iv_machine.specs.Machine.{State}
use Rattle.iv_store.specs.Lookups.{most_lookups_for_a_change}
use Rattle.iv_state.specs.Kept.{Seen}

-- The last call looked up at most 8 keys for each constraint of the catalogue and each row change that it made or undid, whatever the
-- tables hold.
abbrev pub FewLookups : State → Seen → Type 0
FewLookups old new = new.lookups ≤ most_lookups_for_a_change * length old.schema.constraints * (new.work.changes + new.work.undone)

-- The statement changes the schema. One that adds a constraint looks up the keys of the rows that are there.
abbrev pub defines_schema : Statement → Bool
defines_schema (statement.CreateTable name elements) = true
defines_schema (statement.AlterTable name constraint) = true
defines_schema (statement.CreateTrigger trigger) = true
defines_schema (statement.DropTrigger name) = true
defines_schema _ = false
