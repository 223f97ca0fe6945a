-- Which statements never fail for lack of memory.
use Rattle.std.specs.Prelude.{◌&&◌, ◌||◌, Bool, true, false}
use Rattle.iv_syntax.specs.declared.statement.Statement.{Statement}
use Rattle.iv_syntax.specs.declared.statement.Statement.TheVariants as statement
use Rattle.iv_machine.specs.Machine.{State}
use Rattle.iv_step.specs.Step.{takes_no_memory}

abbrev pub is_rollback_to : Statement → Bool
is_rollback_to (statement.RollbackTo name) = true
is_rollback_to _ = false

-- The statement allocates nothing, or goes back to a savepoint where that allocates nothing.
abbrev pub never_refused : Bool → State → Statement → Bool
never_refused sure_back s st = takes_no_memory s st || (sure_back && is_rollback_to st)
