-- What the run of a script gives to C.
use Rattle.std.specs.Prelude.{◌≡◌, ℕ, Bool, true, List, [], Option, Some, None}
use Rattle.iv_machine.specs.Bounds.{Bounds}
use Rattle.iv_text.specs.Sinks.{SinkState, sink_state}
use Rattle.iv_text.specs.declared.format.Format.TheVariants.{Words}
use Rattle.iv_text.specs.declared.format.Style.{Style}
use Rattle.iv_parse.specs.declared.parser.SyntaxFault.{SyntaxFault}
use Rattle.iv_script.specs.declared.summary.Summary.{Summary}
use Rattle.iv_script.specs.Transcript.{RanScript, RanWithMemory, fault_place}
use Rattle.iv_connection.specs.declared.summary.RunSummary.{RunSummary}

-- words, with accounts or without
abbrev pub in_words : Bool → Style
in_words asked = record { format = Words; explain = asked }

-- a writer that holds these bytes and has not failed
abbrev pub written : List ℕ → SinkState
written bytes = sink_state (Some bytes) 0

-- the bytes are the transcript of the script, with accounts where they are asked for, for some choice of the statements that were refused
-- memory
abbrev pub IsTranscript : List ℕ → Bounds → Bool → Summary → List ℕ → Type 0
IsTranscript script limits asked summary bytes = RanScript true script limits (in_words asked) summary (written []) (written bytes)

-- the same where memory was refused neither to a statement nor to an account
abbrev pub IsWithMemory : List ℕ → Bounds → Bool → Summary → List ℕ → Type 0
IsWithMemory script limits asked summary bytes = RanWithMemory script limits (in_words asked) (fault_place summary) (written []) (written bytes)

abbrev pub fault_shown : Option SyntaxFault → RunSummary → Type 0
fault_shown None shown = (shown.has_fault ≡ 0) × (shown.fault_at ≡ 0)
fault_shown (Some fault) shown = (shown.has_fault ≡ 1) × (shown.fault_at ≡ fault.at)

-- the numbers that C reads are those of the summary
pub record Shows (summary : Summary) (shown : RunSummary) : Type 0 where
  pub accepted : shown.accepted ≡ summary.accepted
  pub refused : shown.refused ≡ summary.refused
  pub memory_refused : shown.memory_refused ≡ summary.memory_refused
  pub fault : fault_shown summary.fault shown
  pub untold : shown.untold ≡ summary.untold
