-- The texts of a refusal.
use Rattle.std.specs.Prelude.{ℕ, List, [], slice_get, Option, Some, None, Result, Ok, Err}
use Rattle.iv_catalogue.specs.Catalogues.{Schema, trigger_numbered}
use Rattle.iv_catalogue.specs.declared.cause.Cause.{Cause}
use Rattle.iv_catalogue.specs.declared.cause.Cause.TheVariants as cause
use Rattle.iv_catalogue.specs.declared.cause.Refusal.{Refusal}
use Rattle.iv_machine.specs.declared.answer.Answer.{Answer}
use Rattle.iv_text.specs.Causes.{constraint_of, or_inside, trigger_of}
use Rattle.iv_text.specs.Lines.{body_statement, name_of, signal_text, trigger_name}

-- the name of a constraint
abbrev pub constraint_named : Schema → Option ℕ → List ℕ
constraint_named s None = []
constraint_named s (Some id) = name_of (slice_get s.constraints id)

-- the name of a trigger
abbrev pub trigger_named : Schema → Option ℕ → List ℕ
trigger_named s None = []
trigger_named s (Some id) = trigger_name (trigger_numbered s id)

-- the text of the SIGNAL that refused a statement
abbrev pub signal_of : Schema → Cause → List ℕ
signal_of s (cause.Signal t place) = signal_text (body_statement (trigger_numbered s t) place)
signal_of s _ = []

-- a text of a refusal, where the outcome is one
abbrev pub if_refused : (Refusal → List ℕ) → Result Answer Refusal → Option (List ℕ)
if_refused text (Ok answer) = None
if_refused text (Err r) = Some (text r)

-- the name of the constraint that a refusal speaks of
abbrev pub refusal_constraint : Schema → Refusal → List ℕ
refusal_constraint s r = constraint_named s (constraint_of r.cause)

-- the name of the trigger that it speaks of, or else of the innermost one that was running
abbrev pub refusal_trigger : Schema → Refusal → List ℕ
refusal_trigger s r = trigger_named s (or_inside (trigger_of r.cause) r.trigger)

-- the text of the SIGNAL that it comes from
abbrev pub refusal_signal : Schema → Refusal → List ℕ
refusal_signal s r = signal_of s r.cause
