-- What a refusal leaves.
use Rattle.std.specs.Prelude.{◌≡◌, Bool, true, false, Result, Ok, Err}
use Rattle.iv_syntax.specs.declared.statement.Statement.{Statement}
use Rattle.iv_catalogue.specs.declared.cause.Cause.{Cause}
use Rattle.iv_catalogue.specs.declared.cause.Cause.TheVariants.{CommitRefused}
use Rattle.iv_catalogue.specs.declared.cause.Refusal.{Refusal}
use Rattle.iv_machine.specs.declared.answer.Answer.{Answer}
use Rattle.iv_machine.specs.Machine.{State}
use Rattle.iv_step.specs.Step.{step}

-- the refusal is that of a COMMIT
abbrev pub is_of_commit : Cause → Bool
is_of_commit (CommitRefused _) = true
is_of_commit _ = false

-- a refusal that isn't that of a COMMIT leaves the state
abbrev pub Leaves : State → Result Answer Refusal → State → Type 0
Leaves old (Ok _) new = Unit {0}
Leaves old (Err refusal) new = is_of_commit refusal.cause ≡ false → new ≡ old

-- No refusal except that of a COMMIT changes anything.
abbrev pub RefusalsChangeNothing : Type 0
RefusalsChangeNothing = (s : State) (st : Statement) → Leaves s (step s st).answer (step s st).state
