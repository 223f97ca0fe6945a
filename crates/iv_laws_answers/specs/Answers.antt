-- No answer of any state is a refusal for lack of memory.
use Rattle.std.specs.Prelude.{◌≡◌, false, List}
use Rattle.std.specs.List.{list_any}
use Rattle.iv_laws_answers.specs.Types.{Statement, Plan}
use Rattle.iv_catalogue.specs.Catalogues.{Schema}
use Rattle.iv_catalogue.specs.Refusals.{is_memory}
use Rattle.iv_machine.specs.Machine.{State, plan_outcome}
use Rattle.iv_resolution.specs.Resolution.{resolution}
use Rattle.iv_step.specs.Step.{step, run}

-- Resolution isn't refused for it,
abbrev pub ResolutionsWantNoMemory : Type 0
ResolutionsWantNoMemory = (c : Schema) (st : Statement) → is_memory (resolution c st) ≡ false

-- nor is any resolved statement, SELECT and COMMIT among them,
abbrev pub PlansWantNoMemory : Type 0
PlansWantNoMemory = (s : State) (p : Plan) → is_memory (plan_outcome s p).answer ≡ false

-- no statement is, whatever the state is,
abbrev pub StepsWantNoMemory : Type 0
StepsWantNoMemory = (s : State) (st : Statement) → is_memory (step s st).answer ≡ false

-- and none of a list.
abbrev pub RunsWantNoMemory : Type 0
RunsWantNoMemory = (s : State) (statements : List Statement) → list_any is_memory (run s statements).0 ≡ false
