-- What the status of the program means, and what it writes on standard error.
use Rattle.std.specs.Prelude.{◌≡◌, ℕ, ◌<◌, ◌≤◌, ◌==◌, ◌&&◌, Bool, if◌then◌else◌, List, ◌++◌, codes, length, Option, Result, is_none, IfSome}
use Rattle.std.specs.Str.{IsUtf8}
use Rattle.iv_machine.specs.Bounds.{Bounds}
use Rattle.iv_text.specs.Counts.{counted}
use Rattle.iv_text.specs.Sinks.{SinkState, FailsOnce}
use Rattle.iv_text.specs.Writing.{Writes}
use Rattle.iv_text.specs.declared.format.Style.{Style}
use Rattle.iv_text.specs.declared.device.DeviceFault.{DeviceFault}
use Rattle.iv_script.specs.Lengths.{Fits}
use Rattle.iv_script.specs.RunFaults.{run_fault_text}
use Rattle.iv_script.specs.Transcript.{RanScript}
use Rattle.iv_script.specs.declared.summary.RunFault.{RunFault}
use Rattle.iv_script.specs.declared.summary.RunFault.TheVariants.{Read, TooLong, NotUtf8, Write, NoMemory}
use Rattle.iv_script.specs.declared.summary.Summary.{Summary}

-- the status of a script that ran to its end: 0 where nothing was refused and it has no fault, else
-- 1
abbrev pub status_of : Summary → ℕ
status_of summary = if (summary.refused == 0) && is_none summary.fault then 0 else 1

-- The transcript of these bytes under these limits was appended, in this style, for some choice of statements that were refused memory,
-- and the status says whether all was accepted.
pub record WroteTranscript (sure_back : Bool) (bytes : List ℕ) (limits : Bounds) (style : Style) (status : ℕ) (before after : SinkState) : Type 0 where
  pub summary : Summary
  pub ran : RanScript sure_back bytes limits style summary before after
  pub status_is : status ≡ status_of summary

-- What is known where a run did not end because of this fault: of the bytes of its script, of the
-- failed calls of its reader before and after, and of its writer.
abbrev pub Stopped : ℕ → RunFault → Option (List ℕ) → ℕ → ℕ → SinkState → SinkState → Type 0
Stopped longest Read bytes failed failed_then before after =
    (failed_then ≡ counted failed 1) × (after ≡ before)
Stopped longest TooLong bytes failed failed_then before after =
    IfSome bytes (λ xs. longest < length xs) × (failed_then ≡ failed) × (after ≡ before)
Stopped longest NotUtf8 bytes failed failed_then before after =
    IfSome bytes (λ xs. (length xs ≤ longest) × ¬ (IsUtf8 xs))
    × (failed_then ≡ failed) × (after ≡ before)
Stopped longest Write bytes failed failed_then before after =
    IfSome bytes (λ xs. Fits longest xs) × (failed_then ≡ failed) × FailsOnce before after
Stopped longest NoMemory bytes failed failed_then before after =
    (failed_then ≡ failed) × (after ≡ before)

-- the line of a fault on standard error
abbrev pub stop_line : RunFault → List ℕ
stop_line fault = codes "sqlkeep: " ++ (run_fault_text fault ++ codes "\n")

-- the line of this fault was written, or a write of it failed
abbrev pub WritesLine : RunFault → SinkState → SinkState → Type 0
WritesLine fault before after =
    (written : Result (Unit {0}) DeviceFault) × Writes before after written (stop_line fault)
