-- The last outcome in words, on one line without its end.
use Rattle.std.specs.Prelude.{ℕ, true, ◌-◌, ◌==◌, if◌then◌else◌, List, [], ◌∷◌, ◌++◌, codes, decimal, drop, length, take, Option, Some, None, Result, Ok, Err}
use Rattle.iv_catalogue.specs.Catalogues.{Schema}
use Rattle.iv_catalogue.specs.declared.cause.Cause.{Cause}
use Rattle.iv_catalogue.specs.declared.cause.Cause.TheVariants as cause
use Rattle.iv_catalogue.specs.declared.cause.Refusal.{Refusal}
use Rattle.iv_machine.specs.declared.answer.Answer.{Answer}
use Rattle.iv_machine.specs.declared.answer.Answer.TheVariants.{Done, Changed, Rows}
use Rattle.iv_text.specs.Causes.{cause_name, constraint_of, or_inside, trigger_of}
use Rattle.iv_script.specs.Transcript.{name_line_of}
use Rattle.iv_connection.specs.OutcomeLines.{executed}
use Rattle.iv_connection.specs.Statements.{row_of}
use Rattle.iv_shown.specs.Texts.{constraint_named, signal_of, trigger_named}
use Rattle.iv_shown.specs.declared.connection.Connection.{Connection}

-- the constraint, the row, the trigger and the text of a SIGNAL, where there is one
abbrev pub constraint_part : Schema → Option ℕ → List ℕ
constraint_part s None = []
constraint_part s (Some id) = codes ", constraint " ++ constraint_named s (Some id)

abbrev pub row_part : ℕ → List ℕ
row_part row = if row == 0 then [] else codes ", row " ++ decimal row

abbrev pub trigger_part : Schema → Option ℕ → List ℕ
trigger_part s None = []
trigger_part s (Some id) = codes ", trigger " ++ trigger_named s (Some id)

abbrev pub signal_part : Schema → Cause → List ℕ
signal_part s (cause.Signal t place) = codes ": " ++ signal_of s (cause.Signal t place)
signal_part s _ = []

-- the line of the name that a refusal is about, without its indentation and its end
abbrev pub name_part : List ℕ → List ℕ
name_part [] = []
name_part (c ∷ line) = codes ": " ++ take (length line - 2) (drop 1 line)

abbrev pub heading : Cause → List ℕ
heading c = codes "refused: " ++ cause_name c

-- what a refusal speaks of; this is the line of the name that it is about
abbrev pub refusal_parts : Schema → Refusal → List ℕ → List ℕ
refusal_parts s r line =
    constraint_part s (constraint_of r.cause)
    ++ (row_part (row_of r.cause)
    ++ (trigger_part s (or_inside (trigger_of r.cause) r.trigger)
    ++ (signal_part s r.cause ++ name_part line)))

abbrev pub refusal_message : Schema → Refusal → List ℕ → List ℕ
refusal_message s r line = heading r.cause ++ refusal_parts s r line

-- an accepted statement: how many rows it changed or gave
abbrev pub answer_message : Answer → List ℕ
answer_message Done = codes "done"
answer_message (Changed count) = codes "rows changed: " ++ decimal count
answer_message (Rows rows) = codes "rows: " ++ decimal (length rows)

-- the line of the name that the last refusal is about, whether accounts are asked for or not
abbrev pub last_name_line : Connection → List ℕ
last_name_line c = name_line_of true c.session.state.schema (executed c.statements c.executed) c.outcome

abbrev pub message_by : Connection → Result Answer Refusal → List ℕ
message_by c (Ok answer) = answer_message answer
message_by c (Err r) = refusal_message c.session.state.schema r (last_name_line c)

-- the message of the last outcome
abbrev pub message_of : Connection → List ℕ
message_of c = message_by c c.outcome
