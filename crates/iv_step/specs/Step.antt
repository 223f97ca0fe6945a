-- What a statement answers and leaves, by its resolution, and what a session promises.
use Rattle.std.specs.Prelude.{◌≡◌, Bool, true, List, [], ◌∷◌, is_some, Result, MatchBool}
use Rattle.iv_syntax.specs.declared.statement.Statement.{Statement}
use Rattle.iv_syntax.specs.declared.statement.Statement.TheVariants as statement
use Rattle.iv_catalogue.specs.declared.cause.Refusal.{Refusal}
use Rattle.iv_catalogue.specs.Refusals.{is_memory}
use Rattle.iv_machine.specs.declared.answer.Answer.{Answer}
use Rattle.iv_machine.specs.Machine.{State, Outcome, MemoryRefused, is_open, occasion_of, outcome_unless, resolution_outcome, transaction_cause}
use Rattle.iv_resolution.specs.Resolution.{resolution}

-- What a statement answers, and the state after it: it is refused for the transaction that is open or isn't, or does what it means.
abbrev pub step : State → Statement → Outcome
step s st = outcome_unless s (transaction_cause (is_open s) (occasion_of st)) (resolution_outcome s (resolution s.schema st))

-- The answers to a list of statements, in their order, and the state after them.
abbrev pub run : State → List Statement → List (Result Answer Refusal) × State
run s [] = ([], s)
run s (st ∷ sts) = let o : Outcome = step s st in let rest : List (Result Answer Refusal) × State = run o.state sts in (o.answer ∷ rest.0, rest.1)

-- The answer and the next state are those of the machine, or an allocation failed.
abbrev pub Executes : State → Statement → Result Answer Refusal → State → Type 0
Executes old st r new = MatchBool (is_memory r) (MemoryRefused old st r new) ((r ≡ (step old st).answer) × (new ≡ (step old st).state))

-- The statement allocates nothing: COMMIT, ROLLBACK, and one that is refused for the transaction that is open or isn't.
abbrev pub takes_no_memory : State → Statement → Bool
takes_no_memory s statement.Commit = true
takes_no_memory s statement.Rollback = true
takes_no_memory s st = is_some (transaction_cause (is_open s) (occasion_of st))
