-- What is written of a script that is laid out.
use Rattle.std.specs.Prelude.{◌≡◌, ℕ, List, Option, Some, None}
use Rattle.std.specs.Io.KnownBytes.{Appends}
use Rattle.iv_syntax.specs.declared.statement.Statement.{Statement}
use Rattle.iv_text.specs.Sinks.{SinkState}
use Rattle.iv_write.specs.Layouts.{text_of}
use Rattle.iv_write.specs.Scripts.{SaysScript}
use Rattle.iv_write.specs.Statements.{script_words}
use Rattle.iv_program.specs.declared.notes.Notes.{Notes}
use Rattle.iv_program.specs.declared.script.ScriptFault.{ScriptFault}
use Rattle.iv_program.specs.Notes.{TellsNotes, fault_alone, notes_status}
use Rattle.iv_program.specs.Reads.{IsRead}

-- The text of these statements was appended. It is a script of them, and has no other reading.
pub record IsLaidOut (statements : List Statement) (before after : SinkState) : Type 0 where
  pub says : SaysScript (text_of (script_words statements)) statements
  pub appended : Appends before.contents after.contents (text_of (script_words statements))

-- if the script has no fault; of one with a fault nothing is
abbrev pub LaysOut : Option ScriptFault → List Statement → SinkState → SinkState → Type 0
LaysOut None statements before after = IsLaidOut statements before after
LaysOut (Some fault) statements before after = after ≡ before

-- The bytes were read and laid out, with this fault or none.
pub record Formats (bytes : List ℕ) (notes : Notes) (before after : SinkState) : Type 0 where
  pub statements : List Statement
  pub fault : Option ScriptFault
  pub read : IsRead bytes statements fault
  pub written : LaysOut fault statements before after
  pub notes_are : notes ≡ fault_alone fault

-- This is what was told, too, and the status.
pub record Formatted (bytes : List ℕ) (status : ℕ) (before after told_before told_after : SinkState) : Type 0 where
  pub notes : Notes
  pub formats : Formats bytes notes before after
  pub status_is : status ≡ notes_status notes
  pub told : TellsNotes notes told_before told_after
