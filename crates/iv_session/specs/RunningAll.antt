-- Statements one after another, of which some may fail for lack of memory.
use Rattle.std.specs.Prelude.{◌≡◌, Bool, not, if◌then◌else◌, List, [], ◌∷◌, filter, length, Result}
use Rattle.iv_session.specs.Types.{Statement, Refusal, Answer}
use Rattle.iv_catalogue.specs.Refusals.{is_memory}
use Rattle.iv_machine.specs.Machine.{State}
use Rattle.iv_step.specs.Step.{run}
use Rattle.iv_state.specs.Kept.{Seen}
use Rattle.iv_session.specs.Executed.{Executed}

-- the statements that did not fail for lack of memory, by their outcomes
abbrev pub supplied_statements : List Statement → List (Result Answer Refusal) → List Statement
supplied_statements [] outcomes = []
supplied_statements (st ∷ sts) [] = []
supplied_statements (st ∷ sts) (r ∷ outcomes) = if is_memory r then supplied_statements sts outcomes else st ∷ supplied_statements sts outcomes

abbrev pub has_memory : Result Answer Refusal → Bool
has_memory r = not (is_memory r)

-- There is an outcome for each statement; those that did not fail for lack of memory have the answers of the machine's run, in its order,
-- and it leads to the new state.
pub record IsRunOf (old : State) (statements : List Statement) (outcomes : List (Result Answer Refusal)) (new : State) : Type 0 where
  pub each : length outcomes ≡ length statements
  pub answers : filter has_memory outcomes ≡ (run old (supplied_statements statements outcomes)).0
  pub state : new ≡ (run old (supplied_statements statements outcomes)).1

-- The statements were executed with these outcomes, each on what the one before it left.
abbrev pub AllExecuted : Bool → Seen → List Statement → List (Result Answer Refusal) → Seen → Type 0
AllExecuted sure_back old [] [] new = new ≡ old
AllExecuted sure_back old (st ∷ sts) (r ∷ outcomes) new = (next : Seen) × Executed sure_back old st r next × AllExecuted sure_back next sts outcomes new
AllExecuted sure_back old [] (r ∷ outcomes) new = ⊥
AllExecuted sure_back old (st ∷ sts) [] new = ⊥
