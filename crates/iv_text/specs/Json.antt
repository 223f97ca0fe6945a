-- Outcomes as JSON: texts, values, rows, and the members that tell an outcome in a statement's object.
use Rattle.std.specs.Prelude.{ℕ, ◌+◌, ◌-◌, ◌==◌, ◌||◌, if◌then◌else◌, List, [], ◌∷◌, ◌++◌, codes, decimal, drop, nat_lt, slice_get, Option, Some, None, Result, Ok, Err}
use Rattle.std.specs.Fmt.{signed_decimal}
use Rattle.std.specs.List.{flat_map}
use Rattle.iv_value.specs.declared.value.Value.{Value}
use Rattle.iv_value.specs.declared.value.Value.TheVariants.{Null, Int, Text}
use Rattle.iv_catalogue.specs.Catalogues.{Schema, trigger_numbered}
use Rattle.iv_catalogue.specs.declared.cause.Cause.{Cause}
use Rattle.iv_catalogue.specs.declared.cause.Cause.TheVariants as cause
use Rattle.iv_catalogue.specs.declared.cause.Refusal.{Refusal}
use Rattle.iv_machine.specs.declared.answer.Answer.{Answer}
use Rattle.iv_machine.specs.declared.answer.Answer.TheVariants.{Done, Changed, Rows}
use Rattle.iv_text.specs.Causes.{cause_name, cause_number, constraint_of, or_inside, trigger_of}
use Rattle.iv_text.specs.Lines.{body_statement, name_of, signal_text, trigger_name}

-- ---- texts and members

-- a digit of a hexadecimal number: 0 to 9, and a to f
abbrev pub hex_digit : ℕ → ℕ
hex_digit d = if nat_lt d 10 then d + 48 else d + 87

-- A byte of a text. A quote and a backslash stand after a backslash, and a control character is told by its number; all else is as it is.
abbrev pub escaped : ℕ → List ℕ
escaped b =
    if (b == 34) || (b == 92) then 92 ∷ b ∷ []
    else (if nat_lt b 16 then codes "\\u000" ++ hex_digit b ∷ []
    else (if nat_lt b 32 then codes "\\u001" ++ hex_digit (b - 16) ∷ [] else b ∷ []))

-- a text between its quotes
unfoldable pub json_text : List ℕ → List ℕ
json_text text = 34 ∷ (flat_map escaped text ++ 34 ∷ [])

-- the name of an object's first member; the names here need no escape
unfoldable pub key : List ℕ → List ℕ
key name = 34 ∷ (name ++ (34 ∷ 58 ∷ []))

-- the name of a further one
unfoldable pub member : List ℕ → List ℕ
member name = 44 ∷ (34 ∷ (name ++ (34 ∷ 58 ∷ [])))

-- ---- values and rows

abbrev pub json_value : Value → List ℕ
json_value Null = codes "null"
json_value (Int z) = signed_decimal z
json_value (Text t) = json_text t

-- a value after another
abbrev pub further_value : Value → List ℕ
further_value v = codes "," ++ json_value v

abbrev pub json_values : List Value → List ℕ
json_values [] = []
json_values (v ∷ vs) = json_value v ++ flat_map further_value vs

-- a row is the array of its values
abbrev pub json_row : List Value → List ℕ
json_row row = codes "[" ++ (json_values row ++ codes "]")

-- a row after another
abbrev pub further_row : List Value → List ℕ
further_row row = codes "," ++ json_row row

abbrev pub json_rows : List (List Value) → List ℕ
json_rows [] = []
json_rows (row ∷ rows) = json_row row ++ flat_map further_row rows

-- ---- refusals

-- the number and the name of a cause
abbrev pub cause_members : Cause → List ℕ
cause_members c = member (codes "cause") ++ (decimal (cause_number c) ++ (member (codes "name") ++ json_text (cause_name c)))

-- the constraint that a cause speaks of
abbrev pub constraint_member : Schema → Option ℕ → List ℕ
constraint_member s (Some id) = member (codes "constraint") ++ json_text (name_of (slice_get s.constraints id))
constraint_member s None = []

abbrev pub row_number_member : ℕ → List ℕ
row_number_member row = member (codes "row") ++ decimal row

-- the row that a cause speaks of
abbrev pub row_member : Cause → List ℕ
row_member (cause.Restrict f) = row_number_member f.row
row_member (cause.Violation f) = row_number_member f.row
row_member (cause.ActionConflict f) = row_number_member f.row
row_member (cause.CommitRefused f) = row_number_member f.row
row_member (cause.AddRefused row) = row_number_member row
row_member _ = []

abbrev pub trigger_member : Schema → Option ℕ → List ℕ
trigger_member s (Some id) = member (codes "trigger") ++ json_text (trigger_name (trigger_numbered s id))
trigger_member s None = []

-- the text of the SIGNAL that a cause speaks of
abbrev pub signal_member : Schema → Cause → List ℕ
signal_member s (cause.Signal id place) =
    member (codes "signal") ++ json_text (signal_text (body_statement (trigger_numbered s id) place))
signal_member s _ = []

-- what a cause speaks of, and otherwise the innermost trigger that was running
abbrev pub detail_members : Schema → Refusal → List ℕ
detail_members s r =
    constraint_member s (constraint_of r.cause)
    ++ (row_member r.cause ++ (trigger_member s (or_inside (trigger_of r.cause) r.trigger) ++ signal_member s r.cause))

-- ---- outcomes

abbrev pub kind_member : List ℕ → List ℕ
kind_member kind = member (codes "kind") ++ json_text kind

abbrev pub answer_members : Answer → List ℕ
answer_members Done = kind_member (codes "done")
answer_members (Changed k) = kind_member (codes "changed") ++ (member (codes "count") ++ decimal k)
answer_members (Rows rows) = kind_member (codes "rows") ++ (member (codes "rows") ++ (codes "[" ++ (json_rows rows ++ codes "]")))

abbrev pub refusal_members : Schema → Refusal → List ℕ
refusal_members s r = kind_member (codes "refused") ++ (cause_members r.cause ++ detail_members s r)

-- The members of a statement's object that tell its outcome, with names as the catalogue has them directly after it.
abbrev pub outcome_members : Schema → Result Answer Refusal → List ℕ
outcome_members s (Ok a) = answer_members a
outcome_members s (Err r) = refusal_members s r
