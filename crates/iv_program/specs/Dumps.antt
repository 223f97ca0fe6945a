-- What is written of a script that is dumped.
use Rattle.std.specs.Prelude.{◌≡◌, ℕ, false, List, [], ◌∷◌, ◌++◌, Option, Some, None, is_some}
use Rattle.std.specs.Io.KnownBytes.{Appends}
use Rattle.iv_syntax.specs.declared.statement.Statement.{Statement}
use Rattle.iv_machine.specs.Bounds.{Bounds}
use Rattle.iv_machine.specs.Machine.{State, empty_state}
use Rattle.iv_dump.specs.Dumps.{AreDump}
use Rattle.iv_dump.specs.Scripts.{AreShort}
use Rattle.iv_dump.specs.declared.refusal.DumpRefusal.{DumpRefusal}
use Rattle.iv_dump.specs.declared.refusal.DumpRefusal.TheVariants as refusal
use Rattle.iv_restore.specs.Restoring.{Restores}
use Rattle.iv_text.specs.Sinks.{SinkState}
use Rattle.iv_script.specs.declared.summary.RunFault.TheVariants.{NoMemory}
use Rattle.iv_program.specs.declared.notes.Notes.{Notes}
use Rattle.iv_program.specs.declared.notes.Stop.{Stop}
use Rattle.iv_program.specs.declared.notes.Stop.TheVariants.{Run, LongStatement, NotRestored}
use Rattle.iv_program.specs.declared.script.ScriptFault.{ScriptFault}
use Rattle.iv_program.specs.Executing.{Leaves, rolled_back}
use Rattle.iv_program.specs.Notes.{TellsNotes, fault_alone, notes_status}
use Rattle.iv_program.specs.Reads.{IsRead}

-- why there is no dump; outside a transaction it isn't refused for one
abbrev pub stop_of : DumpRefusal → Stop
stop_of refusal.NoMemory = Run NoMemory
stop_of refusal.TooLong = LongStatement
stop_of refusal.Differs = NotRestored
stop_of refusal.InTransaction = LongStatement

-- scripts, one after another
abbrev pub joined : List (List ℕ) → List ℕ
joined [] = []
joined (script ∷ scripts) = script ++ joined scripts

-- The scripts of a dump of this state, which is outside a transaction, were appended one after another. None is longer than a script
-- may be, together they are statements that make what there is, and run one after another they make the same database.
pub record WritesDump (state : State) (before after : SinkState) : Type 0 where
  pub outside : is_some state.start ≡ false
  pub scripts : List (List ℕ)
  pub short : AreShort scripts
  pub dump : AreDump state scripts
  pub restores : Restores state scripts
  pub appended : Appends before.contents after.contents (joined scripts)

-- The statements ran from this state on, an open transaction was rolled back, and a dump of that was written.
pub record LeavesDump (start : State) (statements : List Statement) (notes : Notes) (before after : SinkState) : Type 0 where
  pub state : State
  pub leaves : Leaves start statements state notes.refused
  pub open_is : notes.is_open ≡ is_some state.start
  pub dump : WritesDump (rolled_back state) before after
  pub no_fault : notes.fault ≡ None

-- in a new database, if the script has no fault; of one with a fault nothing was run or written
abbrev pub DumpsUnless : Option ScriptFault → Bounds → List Statement → Notes → SinkState → SinkState → Type 0
DumpsUnless None limits statements notes before after = LeavesDump (empty_state limits) statements notes before after
DumpsUnless (Some fault) limits statements notes before after =
    (notes ≡ fault_alone (Some fault)) × (after ≡ before)

-- The bytes were read and the database dumped.
pub record Dumps (bytes : List ℕ) (limits : Bounds) (notes : Notes) (before after : SinkState) : Type 0 where
  pub statements : List Statement
  pub read : IsRead bytes statements notes.fault
  pub written : DumpsUnless notes.fault limits statements notes before after

-- This is what was told, too, and the status.
pub record Dumped (bytes : List ℕ) (limits : Bounds) (status : ℕ) (before after told_before told_after : SinkState) : Type 0 where
  pub notes : Notes
  pub dumps : Dumps bytes limits notes before after
  pub status_is : status ≡ notes_status notes
  pub told : TellsNotes notes told_before told_after
