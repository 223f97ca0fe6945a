-- What statements leave, executed one after another.
use Rattle.std.specs.Prelude.{◌≡◌, ℕ, ◌+◌, List, [], ◌∷◌, Result, Ok, Err}
use Rattle.iv_syntax.specs.declared.statement.Statement.{Statement}
use Rattle.iv_syntax.specs.declared.statement.Statement.TheVariants.{Rollback}
use Rattle.iv_catalogue.specs.declared.cause.Refusal.{Refusal}
use Rattle.iv_machine.specs.declared.answer.Answer.{Answer}
use Rattle.iv_machine.specs.Machine.{State}
use Rattle.iv_step.specs.Step.{run, step}

abbrev pub refused_of : Result Answer Refusal → ℕ
refused_of (Ok answer) = 0
refused_of (Err refusal) = 1

-- how many of the answers are refusals
abbrev pub refused_count : List (Result Answer Refusal) → ℕ
refused_count [] = 0
refused_count (answer ∷ answers) = refused_of answer + refused_count answers

-- The statements lead from this state to that, and so many are refused.
abbrev pub Leaves : State → List Statement → State → ℕ → Type 0
Leaves old sts new refused = (new ≡ (run old sts).1) × (refused ≡ refused_count (run old sts).0)

-- the state after ROLLBACK, which is never refused
abbrev pub rolled_back : State → State
rolled_back s = (step s Rollback).state
