-- Why a script is not dumped or laid out.
use Rattle.std.specs.Prelude.{◌≡◌, ℕ, List, Option, IfSome}
use Rattle.iv_text.specs.Sinks.{SinkState, FailsOnce}
use Rattle.iv_script.specs.Lengths.{Fits}
use Rattle.iv_script.specs.declared.summary.RunFault.TheVariants.{NoMemory, Write}
use Rattle.iv_program.specs.declared.notes.Stop.{Stop}
use Rattle.iv_program.specs.declared.notes.Stop.TheVariants.{Run, LongStatement, NotRestored}
use Rattle.iv_program.specs.Statuses.{Stopped}

-- what is known of the writer, if the writing of a dump or a layout stopped
abbrev pub Unwritten : Stop → SinkState → SinkState → Type 0
Unwritten (Run Write) before after = FailsOnce before after
Unwritten (Run NoMemory) before after = after ≡ before
Unwritten LongStatement before after = after ≡ before
Unwritten NotRestored before after = after ≡ before
Unwritten _ before after = ⊥

-- What is known if it stopped: of the bytes of the script, of the failed calls of its reader before and after, and of its writer.
abbrev pub StoppedBy : ℕ → Stop → Option (List ℕ) → ℕ → ℕ → SinkState → SinkState → Type 0
StoppedBy longest (Run fault) bytes failed failed_then before after = Stopped longest fault bytes failed failed_then before after
StoppedBy longest LongStatement bytes failed failed_then before after =
    IfSome bytes (λ xs. Fits longest xs) × (failed_then ≡ failed) × (after ≡ before)
StoppedBy longest NotRestored bytes failed failed_then before after =
    IfSome bytes (λ xs. Fits longest xs) × (failed_then ≡ failed) × (after ≡ before)
