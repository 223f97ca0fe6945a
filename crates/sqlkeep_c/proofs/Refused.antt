-- What is told where the last outcome is a refusal.
use Rattle.std.proofs.Common.{◌≡◌, ℕ, List, Result, Ok, Err, IfSome, IfErr}
use Rattle.iv_catalogue.specs.declared.cause.Refusal.{Refusal}
use Rattle.iv_machine.specs.declared.answer.Answer.{Answer}
use Rattle.iv_shown.specs.Statuses.{found, found_refusal}
use Rattle.iv_shown.specs.Texts.{if_refused}

pub by_refusal : (text : Refusal → List ℕ) (P : List ℕ → Type 0) (outcome : Result Answer Refusal)
    → IfSome (if_refused text outcome) P → IfErr outcome (λ r. P (text r))
by_refusal text P (Ok answer) told = tt
by_refusal text P (Err r) told = told

pub refused_status : (text : Refusal → List ℕ) (outcome : Result Answer Refusal) (result : ℕ)
    → result ≡ found (if_refused text outcome) → result ≡ found_refusal outcome
refused_status text (Ok answer) result is = is
refused_status text (Err r) result is = is
