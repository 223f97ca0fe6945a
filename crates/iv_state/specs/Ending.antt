-- What COMMIT as a call answers, as the answer of the statement.
use Rattle.std.specs.Prelude.{Result, Ok, Err}
use Rattle.iv_state.specs.Types.{Fault, Refusal, Answer}
use Rattle.iv_state.specs.Types.cause.{CommitRefused}
use Rattle.iv_state.specs.Types.answer.{Done}
use Rattle.iv_catalogue.specs.Refusals.{refusal_answer}

abbrev pub commit_answer : Result (Unit {0}) Fault → Result Answer Refusal
commit_answer (Ok u) = Ok Done
commit_answer (Err fault) = refusal_answer (CommitRefused fault)
