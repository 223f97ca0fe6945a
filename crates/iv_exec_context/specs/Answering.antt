-- What a call that allocates answers: what a definition says, unless an allocation failed.
use Rattle.std.specs.Prelude.{Result, Ok, Err, MatchBool}
use Rattle.iv_catalogue.specs.Refusals.{Answers, is_memory_cause}
use Rattle.iv_catalogue.specs.declared.cause.Cause.{Cause}
use Rattle.iv_catalogue.specs.declared.cause.Refusal.{Refusal}

-- The cause, or what is seen of the answer, is the definition's; if an allocation failed nothing is said.
abbrev pub AnswersCause : {A B : Type 0} → (A → B) → Result A Cause → Result B Cause → Type 0
AnswersCause view r said = Answers is_memory_cause (λ cause. cause) view r said

-- The same for a refusal with its trigger.
abbrev pub AnswersRefusal : {A B : Type 0} → (A → B) → Result A Refusal → Result B Refusal → Type 0
AnswersRefusal view r said = Answers (λ refusal. is_memory_cause refusal.cause) (λ refusal. refusal) view r said

-- What holds unless an allocation failed; `UnlessMemory` of `iv_laws_rows` says it of a refusal with its trigger.
abbrev pub UnlessMemoryCause : {A : Type 0} → Result A Cause → Type 0 → Type 0
UnlessMemoryCause (Ok a) P = P
UnlessMemoryCause (Err cause) P = MatchBool (is_memory_cause cause) (Unit {0}) P
