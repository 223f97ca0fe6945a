-- The lines of an outcome in a transcript.
use Rattle.std.specs.Prelude.{ℕ, ◌==◌, ◌-◌, if◌then◌else◌, List, [], ◌∷◌, ◌++◌, length, codes, decimal, slice_get, Option, Some, None, Result, Ok, Err}
use Rattle.std.specs.Fmt.{signed_decimal}
use Rattle.std.specs.List.{flat_map}
use Rattle.iv_value.specs.declared.value.Value.{Value}
use Rattle.iv_value.specs.declared.value.Value.TheVariants.{Null, Int, Text}
use Rattle.iv_catalogue.specs.Catalogues.{Schema, trigger_numbered}
use Rattle.iv_catalogue.specs.declared.catalogue.Column.{Column}
use Rattle.iv_catalogue.specs.declared.catalogue.Table.{Table}
use Rattle.iv_catalogue.specs.declared.constraint.Constraint.{Constraint}
use Rattle.iv_catalogue.specs.declared.cause.Cause.{Cause}
use Rattle.iv_catalogue.specs.declared.cause.Cause.TheVariants as cause
use Rattle.iv_catalogue.specs.declared.cause.Fault.{Fault}
use Rattle.iv_catalogue.specs.declared.cause.Refusal.{Refusal}
use Rattle.iv_catalogue.specs.declared.plan.BodyStatement.{BodyStatement}
use Rattle.iv_catalogue.specs.declared.plan.BodyStatement.TheVariants as body
use Rattle.iv_catalogue.specs.declared.plan.Trigger.{Trigger}
use Rattle.iv_machine.specs.declared.answer.Answer.{Answer}
use Rattle.iv_machine.specs.declared.answer.Answer.TheVariants.{Done, Changed, Rows}

-- two quotes for each one; every other character as it is
abbrev pub quote_doubled : ℕ → List ℕ
quote_doubled b = if b == 39 then codes "''" else b ∷ []

-- a text between single quotes, with two quotes for each one
abbrev pub quoted_text : List ℕ → List ℕ
quoted_text t = codes "'" ++ (flat_map quote_doubled t ++ codes "'")

-- NULL, a decimal integer, or a text between single quotes
abbrev pub value_text : Value → List ℕ
value_text Null = codes "NULL"
value_text (Int z) = signed_decimal z
value_text (Text t) = quoted_text t

-- a value after another
abbrev pub further_text : Value → List ℕ
further_text v = codes ", " ++ value_text v

abbrev pub values_text : List Value → List ℕ
values_text [] = []
values_text (v ∷ vs) = value_text v ++ flat_map further_text vs

abbrev pub row_text : List Value → List ℕ
row_text row = codes "| " ++ (values_text row ++ codes "\n")

-- ---- names

-- the name of a table that is there
abbrev pub table_name : Option Table → List ℕ
table_name (Some t) = t.name
table_name None = []

-- the name of a column that is there
abbrev pub column_name : Option Column → List ℕ
column_name (Some c) = c.name
column_name None = []

-- the name of the column at this place of a table
abbrev pub column_name_in : Option Table → ℕ → List ℕ
column_name_in (Some t) column = column_name (slice_get t.columns column)
column_name_in None column = []

-- the name of the constraint with this number
abbrev pub name_of : Option Constraint → List ℕ
name_of (Some k) = k.name
name_of None = []

abbrev pub constraint_text : Schema → ℕ → List ℕ
constraint_text s id = codes " " ++ name_of (slice_get s.constraints id)

abbrev pub row_number_text : ℕ → List ℕ
row_number_text row = codes " row " ++ decimal row

-- a constraint and a row
abbrev pub fault_text : Schema → Fault → List ℕ
fault_text s f = constraint_text s f.constraint ++ row_number_text f.row

-- the number and the name of a cause
abbrev pub cause_words : Cause → List ℕ
cause_words cause.Unknown = codes "1 Unknown"
cause_words cause.Duplicate = codes "2 Duplicate"
cause_words cause.SchemaFault = codes "3 SchemaFault"
cause_words cause.InTransaction = codes "4 InTransaction"
cause_words cause.NoTransaction = codes "5 NoTransaction"
cause_words cause.ActiveTransaction = codes "6 ActiveTransaction"
cause_words cause.UnknownSavepoint = codes "7 UnknownSavepoint"
cause_words (cause.NotDeferrable c) = codes "8 NotDeferrable"
cause_words cause.WrongShape = codes "9 WrongShape"
cause_words cause.NumberOutOfRange = codes "10 NumberOutOfRange"
cause_words cause.TextTooLong = codes "11 TextTooLong"
cause_words (cause.Restrict f) = codes "12 Restrict"
cause_words (cause.Violation f) = codes "13 Violation"
cause_words (cause.ActionConflict f) = codes "14 ActionConflict"
cause_words (cause.Signal t place) = codes "15 Signal"
cause_words (cause.DepthLimit t) = codes "16 DepthLimit"
cause_words cause.TooManyChanges = codes "17 TooManyChanges"
cause_words cause.TransactionTooLarge = codes "18 TransactionTooLarge"
cause_words (cause.CommitRefused f) = codes "19 CommitRefused"
cause_words (cause.AddRefused row) = codes "20 AddRefused"
cause_words cause.Limit = codes "21 Limit"
cause_words cause.OutOfMemory = codes "22 OutOfMemory"

-- ---- triggers

-- the name of a trigger that is there
abbrev pub trigger_name : Option Trigger → List ℕ
trigger_name (Some t) = t.name
trigger_name None = []

abbrev pub trigger_text : Schema → ℕ → List ℕ
trigger_text s id = codes " " ++ trigger_name (trigger_numbered s id)

-- the statement at this place of a trigger's body, of which the first has place 1
abbrev pub body_statement : Option Trigger → ℕ → Option BodyStatement
body_statement (Some t) place = slice_get t.body (place - 1)
body_statement None place = None

-- the text of a SIGNAL
abbrev pub signal_text : Option BodyStatement → List ℕ
signal_text (Some (body.Signal text)) = text
signal_text _ = []

-- the trigger of a SIGNAL, and its text as a value
abbrev pub signal_details : Schema → ℕ → ℕ → List ℕ
signal_details s id place =
    trigger_text s id ++ (codes " " ++ value_text (Text (signal_text (body_statement (trigger_numbered s id) place))))

-- ---- refusals

-- the constraint, the row or the trigger that a cause speaks of
abbrev pub details : Schema → Cause → List ℕ
details s (cause.NotDeferrable c) = constraint_text s c
details s (cause.Restrict f) = fault_text s f
details s (cause.Violation f) = fault_text s f
details s (cause.ActionConflict f) = fault_text s f
details s (cause.CommitRefused f) = fault_text s f
details s (cause.Signal id place) = signal_details s id place
details s (cause.DepthLimit id) = trigger_text s id
details s (cause.AddRefused row) = row_number_text row
details s _ = []

abbrev pub inside_trigger : Schema → Option ℕ → List ℕ
inside_trigger s None = []
inside_trigger s (Some id) = codes " in" ++ trigger_text s id

-- the innermost trigger that was running, for every cause that doesn't speak of a trigger itself
abbrev pub inside_text : Schema → Cause → Option ℕ → List ℕ
inside_text s (cause.Signal id place) trigger = []
inside_text s (cause.DepthLimit id) trigger = []
inside_text s _ trigger = inside_trigger s trigger

-- the first line of an answer; the rows of a query follow
abbrev pub answer_text : Answer → List ℕ
answer_text Done = codes " ok\n"
answer_text (Changed k) = codes " ok " ++ (decimal k ++ codes "\n")
answer_text (Rows rows) = codes " rows " ++ (decimal (length rows) ++ codes "\n")

abbrev pub refusal_text : Schema → Refusal → List ℕ
refusal_text s r =
    codes " refused " ++ (cause_words r.cause ++ (details s r.cause ++ (inside_text s r.cause r.trigger ++ codes "\n")))

abbrev pub outcome_text : Schema → Result Answer Refusal → List ℕ
outcome_text s (Ok a) = answer_text a
outcome_text s (Err r) = refusal_text s r

-- The first line of the outcome of statement n, with names as the catalogue has them directly after it.
abbrev pub first_line : ℕ → Result Answer Refusal → Schema → List ℕ
first_line n outcome s = decimal n ++ outcome_text s outcome

abbrev pub answer_rows : Answer → List ℕ
answer_rows Done = []
answer_rows (Changed k) = []
answer_rows (Rows rows) = flat_map row_text rows

-- The lines of the rows that an outcome gives.
abbrev pub row_lines : Result Answer Refusal → List ℕ
row_lines (Ok a) = answer_rows a
row_lines (Err r) = []

-- The lines of the outcome of statement n.
abbrev pub line : ℕ → Result Answer Refusal → Schema → List ℕ
line n outcome s = first_line n outcome s ++ row_lines outcome
