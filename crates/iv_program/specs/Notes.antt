-- What standard error is told of a script that is dumped or laid out, and the status.
use Rattle.std.specs.Prelude.{◌≡◌, ℕ, zero, suc, ◌==◌, ◌&&◌, not, Bool, true, false, if◌then◌else◌, List, [], ◌++◌, codes, decimal, Option, Some, None, is_none, Result, MatchBool}
use Rattle.iv_text.specs.Sinks.{SinkState}
use Rattle.iv_text.specs.Writing.{Writes}
use Rattle.iv_text.specs.declared.device.DeviceFault.{DeviceFault}
use Rattle.iv_script.specs.RunFaults.{run_fault_text}
use Rattle.iv_script.specs.declared.place.Place.{Place}
use Rattle.iv_program.specs.declared.script.ScriptFault.{ScriptFault}
use Rattle.iv_program.specs.declared.notes.Notes.{Notes}
use Rattle.iv_program.specs.declared.notes.Stop.{Stop}
use Rattle.iv_program.specs.declared.notes.Stop.TheVariants.{Run, LongStatement, NotRestored}

-- only the fault: no statement is run
abbrev pub fault_alone : Option ScriptFault → Notes
fault_alone fault = record { fault = fault; refused = 0; is_open = false }

-- 1 if the script has a fault or a statement was refused
abbrev pub notes_status : Notes → ℕ
notes_status notes = if is_none notes.fault && (notes.refused == 0) then 0 else 1

-- nothing is told
abbrev pub are_none : Notes → Bool
are_none notes = is_none notes.fault && ((notes.refused == 0) && not notes.is_open)

-- ---- the lines

abbrev pub place_note : Place → List ℕ
place_note place = decimal place.line ++ (codes ", column " ++ (decimal place.column ++ codes "\n"))

abbrev pub some_fault_note : ScriptFault → List ℕ
some_fault_note fault =
    codes "sqlkeep: statement " ++ (decimal fault.number ++ (codes " can't be read: line " ++ place_note fault.place))

abbrev pub fault_note : Option ScriptFault → List ℕ
fault_note None = []
fault_note (Some fault) = some_fault_note fault

abbrev pub some_refused_note : ℕ → List ℕ
some_refused_note refused = codes "sqlkeep: refused statements: " ++ (decimal refused ++ codes "\n")

abbrev pub refused_note : ℕ → List ℕ
refused_note zero = []
refused_note (suc more) = some_refused_note (suc more)

abbrev pub open_note : Bool → List ℕ
open_note true = codes "sqlkeep: the open transaction was rolled back\n"
open_note false = []

abbrev pub notes_text : Notes → List ℕ
notes_text notes = fault_note notes.fault ++ (refused_note notes.refused ++ open_note notes.is_open)

abbrev pub stop_text : Stop → List ℕ
stop_text (Run fault) = run_fault_text fault
stop_text LongStatement = codes "a statement of the dump is longer than 1048576 bytes"
stop_text NotRestored = codes "the dump doesn't make the same database again"

abbrev pub stop_line : Stop → List ℕ
stop_line stop = codes "sqlkeep: " ++ (stop_text stop ++ codes "\n")

-- ---- that they are written

-- nothing is, if there is nothing to tell; otherwise the lines were written, or a write of them failed
abbrev pub TellsNotes : Notes → SinkState → SinkState → Type 0
TellsNotes notes before after =
    MatchBool (are_none notes) (after ≡ before) ((written : Result (Unit {0}) DeviceFault) × Writes before after written (notes_text notes))

-- the line was written, or a write of it failed
abbrev pub TellsStop : Stop → SinkState → SinkState → Type 0
TellsStop stop before after = (written : Result (Unit {0}) DeviceFault) × Writes before after written (stop_line stop)
