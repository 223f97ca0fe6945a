-- What the parts of `execute` do: the answer, the next state and the work of an outcome, or an allocation failed and the state stays.
use Rattle.std.specs.Prelude.{◌≡◌, Bool, true, false, Result, Err, MatchBool}
use Rattle.iv_state.specs.Types.{Refusal, Answer, Statement, Plan}
use Rattle.iv_state.specs.Types.plan
use Rattle.iv_catalogue.specs.Refusals.{is_memory, out_of_memory}
use Rattle.iv_machine.specs.Machine.{State, Outcome, IsMemoryRefusal, changes_rows, plan_outcome}
use Rattle.iv_state.specs.Kept.{Seen}

-- the answer, the next state and the work are these
abbrev pub Did : Outcome → Result Answer Refusal → Seen → Type 0
Did said r new = (r ≡ said.answer) × (new.state ≡ said.state) × (new.work ≡ said.work)

-- An allocation fails outside of every trigger.
abbrev pub Performs : State → Outcome → Result Answer Refusal → Seen → Type 0
Performs old said r new = MatchBool (is_memory r) ((new.state ≡ old) × (r ≡ Err out_of_memory)) (Did said r new)

-- An allocation may fail inside a trigger of the catalogue.
abbrev pub Follows : State → Outcome → Result Answer Refusal → Seen → Type 0
Follows old said r new = MatchBool (is_memory r) ((new.state ≡ old) × IsMemoryRefusal true old.schema r) (Did said r new)

-- the plan changes rows
abbrev pub plan_changes_rows : Plan → Bool
plan_changes_rows (plan.Change d) = true
plan_changes_rows _ = false

-- what a plan performs
abbrev pub PerformsPlan : State → Plan → Result Answer Refusal → Seen → Type 0
PerformsPlan old p r new =
    MatchBool (is_memory r) ((new.state ≡ old) × IsMemoryRefusal (plan_changes_rows p) old.schema r) (Did (plan_outcome old p) r new)

-- what a statement performs, with this outcome
abbrev pub Runs : State → Statement → Outcome → Result Answer Refusal → Seen → Type 0
Runs old st said r new = MatchBool (is_memory r) ((new.state ≡ old) × IsMemoryRefusal (changes_rows st) old.schema r) (Did said r new)
