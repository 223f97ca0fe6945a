-- What a cause says: its number, its name, and the constraint and the trigger that it speaks of.
use Rattle.std.specs.Prelude.{ℕ, if◌then◌else◌, List, drop, nat_lt, Option, Some, None}
use Rattle.iv_catalogue.specs.declared.cause.Cause.{Cause}
use Rattle.iv_catalogue.specs.declared.cause.Cause.TheVariants as cause
use Rattle.iv_text.specs.Lines.{cause_words}

abbrev pub cause_number : Cause → ℕ
cause_number cause.Unknown = 1
cause_number cause.Duplicate = 2
cause_number cause.SchemaFault = 3
cause_number cause.InTransaction = 4
cause_number cause.NoTransaction = 5
cause_number cause.ActiveTransaction = 6
cause_number cause.UnknownSavepoint = 7
cause_number (cause.NotDeferrable c) = 8
cause_number cause.WrongShape = 9
cause_number cause.NumberOutOfRange = 10
cause_number cause.TextTooLong = 11
cause_number (cause.Restrict f) = 12
cause_number (cause.Violation f) = 13
cause_number (cause.ActionConflict f) = 14
cause_number (cause.Signal t place) = 15
cause_number (cause.DepthLimit t) = 16
cause_number cause.TooManyChanges = 17
cause_number cause.TransactionTooLarge = 18
cause_number (cause.CommitRefused f) = 19
cause_number (cause.AddRefused row) = 20
cause_number cause.Limit = 21
cause_number cause.OutOfMemory = 22

-- how many characters of a cause's words are its number and the space after it
abbrev pub number_length : Cause → ℕ
number_length c = if nat_lt (cause_number c) 10 then 2 else 3

-- the words of a cause without its number
abbrev pub cause_name : Cause → List ℕ
cause_name c = drop (number_length c) (cause_words c)

-- the constraint that a cause speaks of
abbrev pub constraint_of : Cause → Option ℕ
constraint_of (cause.NotDeferrable c) = Some c
constraint_of (cause.Restrict f) = Some f.constraint
constraint_of (cause.Violation f) = Some f.constraint
constraint_of (cause.ActionConflict f) = Some f.constraint
constraint_of (cause.CommitRefused f) = Some f.constraint
constraint_of _ = None

-- the trigger that a cause speaks of
abbrev pub trigger_of : Cause → Option ℕ
trigger_of (cause.Signal t place) = Some t
trigger_of (cause.DepthLimit t) = Some t
trigger_of _ = None

-- or else the innermost one that was running
abbrev pub or_inside : Option ℕ → Option ℕ → Option ℕ
or_inside (Some t) inside = Some t
or_inside None inside = inside
