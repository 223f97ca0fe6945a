-- Whether a trigger may fire.
use Rattle.std.specs.Prelude.{Bool, ◌||◌, List}
use Rattle.std.specs.List.{list_any}
use Rattle.iv_expr.specs.Changes.{Wave}
use Rattle.iv_catalogue.specs.declared.plan.DataStatement.{DataStatement}
use Rattle.iv_machine.specs.Context.{Context}
use Rattle.iv_machine.specs.Proposals.{table_of}
use Rattle.iv_exec_context.specs.Triggered.{has_trigger, some_have_triggers}

-- a trigger is on the table of the statement, or on one that the waves change
abbrev pub may_fire : Context → DataStatement → List Wave → Bool
may_fire context statement waves =
    has_trigger context.schema.triggers (table_of statement) || list_any (λ w. some_have_triggers context.schema.triggers w.changes) waves
