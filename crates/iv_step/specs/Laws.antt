-- Laws of runs, which public functions carry.
use Rattle.std.specs.Prelude.{◌≡◌, List, Ok}
use Rattle.iv_syntax.specs.declared.statement.Statement.{Statement}
use Rattle.iv_catalogue.specs.Catalogues.{Schema}
use Rattle.iv_catalogue.specs.declared.plan.Plan.{Plan}
use Rattle.iv_machine.specs.Bounds.{Bounds}
use Rattle.iv_machine.specs.Laws.{IsSound}
use Rattle.iv_machine.specs.Machine.{empty_state, occasion_of, plan_occasion}
use Rattle.iv_resolution.specs.Resolution.{resolution}
use Rattle.iv_step.specs.Step.{run}

-- What is true of states that are reached holds of every state that a run reaches from an empty one.
abbrev pub ReachedStatesAreSound : Type 0
ReachedStatesAreSound = (limits : Bounds) (statements : List Statement) → IsSound (run (empty_state limits) statements).1

-- A statement and its plan may run on the same occasions.
abbrev pub PlansKeepTheOccasion : Type 0
PlansKeepTheOccasion = (c : Schema) (st : Statement) (p : Plan) → resolution c st ≡ Ok p → plan_occasion p ≡ occasion_of st
