-- What is read of a script that is not run.
use Rattle.std.specs.Prelude.{◌≡◌, ℕ, ◌+◌, ◌<◌, ◌≤◌, List, length, Option, Some, None, IfSome}
use Rattle.std.specs.Str.{IsUtf8}
use Rattle.iv_syntax.specs.declared.statement.Statement.{Statement}
use Rattle.iv_parse.specs.declared.parser.SyntaxFault.{SyntaxFault}
use Rattle.iv_parse.specs.Script.{IsFault, IsScript}
use Rattle.iv_text.specs.Counts.{counted}
use Rattle.iv_script.specs.declared.summary.RunFault.{RunFault}
use Rattle.iv_script.specs.declared.summary.RunFault.TheVariants.{Read, TooLong, NotUtf8, Write, NoMemory}
use Rattle.iv_script.specs.Places.{place_at}
use Rattle.iv_program.specs.declared.script.ScriptFault.{ScriptFault}

-- what is told of a fault in the statement with this number: the line and column of the first word that can't stand where it does
abbrev pub fault_seen : List ℕ → ℕ → SyntaxFault → ScriptFault
fault_seen bytes number fault = record { number = number; place = place_at bytes fault.word }

-- The bytes are these statements up to their end, or up to this fault.
abbrev pub IsRead : List ℕ → List Statement → Option ScriptFault → Type 0
IsRead bytes statements None = IsScript bytes statements None
IsRead bytes statements (Some f) =
    (fault : SyntaxFault) × IsScript bytes statements (Some fault.at) × IsFault bytes statements fault
    × (f ≡ fault_seen bytes (length statements + 1) fault)

-- why bytes that were read give no script
abbrev pub RefusesBytes : RunFault → List ℕ → Type 0
RefusesBytes NotUtf8 bytes = ¬ (IsUtf8 bytes)
RefusesBytes NoMemory bytes = Unit {0}
RefusesBytes _ bytes = ⊥

-- What is known if no script was read because of this fault: of its bytes, and of the failed calls of its reader before and after.
abbrev pub Unread : ℕ → RunFault → Option (List ℕ) → ℕ → ℕ → Type 0
Unread longest Read bytes failed failed_then = failed_then ≡ counted failed 1
Unread longest TooLong bytes failed failed_then = IfSome bytes (λ xs. longest < length xs) × (failed_then ≡ failed)
Unread longest NotUtf8 bytes failed failed_then =
    IfSome bytes (λ xs. (length xs ≤ longest) × ¬ (IsUtf8 xs)) × (failed_then ≡ failed)
Unread longest NoMemory bytes failed failed_then = failed_then ≡ failed
Unread longest Write bytes failed failed_then = ⊥
