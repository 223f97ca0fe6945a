-- What `next_wave` answers.
use Rattle.std.specs.Prelude.{◌≡◌, Result, Ok, Err, MatchBool}
use Rattle.iv_expr.specs.Changes.{Wave}
use Rattle.iv_catalogue.specs.declared.cause.Refusal.{Refusal}
use Rattle.iv_catalogue.specs.Refusals.{is_memory}
use Rattle.iv_machine.specs.Context.{Failure}

-- a refusal as it is answered, without the count of row changes
abbrev pub uncounted : Result Wave Failure → Result Wave Refusal
uncounted (Ok wave) = Ok wave
uncounted (Err failure) = Err (record { cause = failure.cause; trigger = failure.trigger })

-- The program answers what the definition gives, or that an allocation failed.
abbrev pub AnswersWave : Result Wave Refusal → Result Wave Failure → Type 0
AnswersWave answer given = MatchBool (is_memory answer) (Unit {0}) (answer ≡ uncounted given)
