-- What tells the status of a call.
use Rattle.std.specs.Prelude.{◌≡◌, ◌≢◌, ◌&&◌, ℕ, Bool, nat_le, Option, Some, None, Result, Ok, Err}
use Rattle.iv_catalogue.specs.declared.cause.Refusal.{Refusal}
use Rattle.iv_machine.specs.declared.answer.Answer.{Answer}
use Rattle.iv_machine.specs.Bounds.{least_depth, greatest_depth, fewest_changes_in_a_statement, most_changes_in_a_statement}
use Rattle.iv_shown.specs.declared.status.TheConstants.{OK, NO_MEMORY, NOTHING}

-- whether there is something at the place that is asked for
abbrev pub found : {A : Type 0} → Option A → ℕ
found None = NOTHING
found (Some a) = OK

-- whether the last outcome is a refusal
abbrev pub found_refusal : Result Answer Refusal → ℕ
found_refusal (Ok answer) = NOTHING
found_refusal (Err refusal) = OK

-- a call that may be refused memory, and has no other reason to do nothing
abbrev pub MayWantMemory : ℕ → Type 0
MayWantMemory result = result ≢ OK → result ≡ NO_MEMORY

-- the limits are in their ranges
abbrev pub are_limits : ℕ → ℕ → Bool
are_limits depth changes =
    nat_le least_depth depth && nat_le depth greatest_depth
    && nat_le fewest_changes_in_a_statement changes && nat_le changes most_changes_in_a_statement
