-- Which status a call answers.
use Rattle.std.specs.Prelude.{◌≡◌, ◌≢◌, ◌<◌, ◌≤◌, ℕ, List, length, Option, Some, None, MatchBool}
use Rattle.std.specs.Str.{IsUtf8}
use Rattle.iv_script.specs.Lengths.{Fits}
use Rattle.sqlkeep_c.specs.Behind.{Behind}
use Rattle.iv_connection.specs.Dumps.{IsDumpStatus}
use Rattle.iv_shown.specs.Statuses.{MayWantMemory, are_limits}
use Rattle.iv_connection.specs.Templates.{WhyNotRead}
use Rattle.iv_shown.specs.declared.status.TheConstants.{OK, CLOSED, OPEN, LIMITS, NOT_UTF8, TOO_LONG, NO_MEMORY, NOT_RESTORED}

-- an empty handle is closed; otherwise what is open decides
abbrev pub status_by : (Behind → ℕ) → Option Behind → ℕ
status_by f None = CLOSED
status_by f (Some opened) = f opened

-- so of a call that does what it is for wherever something is open
abbrev pub status_if_open : Option Behind → ℕ
status_if_open behind = status_by (λ opened. OK) behind

-- so where something is open
abbrev pub IsStatus : Option Behind → ℕ → Type 0
IsStatus None result = result ≡ CLOSED
IsStatus (Some opened) result = MayWantMemory result

-- of a call that finds something or doesn't, unless memory is refused
abbrev pub IsStatusOfFinding : (Behind → ℕ) → Option Behind → ℕ → Type 0
IsStatusOfFinding f None result = result ≡ CLOSED
IsStatusOfFinding f (Some opened) result = result ≢ NO_MEMORY → result ≡ f opened

-- of a text that is read again before it is handed out
abbrev pub IsStatusOfReadingAgain : (Behind → ℕ) → Option Behind → ℕ → Type 0
IsStatusOfReadingAgain f None result = result ≡ CLOSED
IsStatusOfReadingAgain f (Some opened) result = result ≢ NO_MEMORY → result ≢ NOT_RESTORED → result ≡ f opened

-- of opening a session with these limits
abbrev pub IsStatusOfOpening : Option Behind → ℕ → ℕ → ℕ → Type 0
IsStatusOfOpening (Some opened) depth changes result = result ≡ OPEN
IsStatusOfOpening None depth changes result = MatchBool (are_limits depth changes) (MayWantMemory result) (result ≡ LIMITS)

-- of a call with a name, which takes no memory
abbrev pub IsStatusOfName : Option Behind → List ℕ → ℕ → Type 0
IsStatusOfName None name result = result ≡ CLOSED
IsStatusOfName (Some opened) name result = (result ≡ OK → IsUtf8 name) × (result ≢ OK → (result ≡ NOT_UTF8) × ¬ (IsUtf8 name))

-- of a call with a text, which may take memory if the text is UTF-8
abbrev pub IsStatusOfText : Option Behind → List ℕ → ℕ → Type 0
IsStatusOfText None text result = result ≡ CLOSED
IsStatusOfText (Some opened) text result =
    (result ≡ OK → IsUtf8 text) × (result ≡ NOT_UTF8 → ¬ (IsUtf8 text)) × (result ≢ OK → result ≢ NOT_UTF8 → (result ≡ NO_MEMORY) × IsUtf8 text)

-- of the run of a script that may be so long
abbrev pub IsStatusOfScript : ℕ → Option Behind → List ℕ → ℕ → Type 0
IsStatusOfScript longest None text result = result ≡ CLOSED
IsStatusOfScript longest (Some opened) text result =
    (result ≡ OK → Fits longest text)
    × (result ≡ TOO_LONG → longest < length text)
    × (result ≡ NOT_UTF8 → (length text ≤ longest) × ¬ (IsUtf8 text))
    × (result ≢ OK → result ≢ TOO_LONG → result ≢ NOT_UTF8 → result ≡ NO_MEMORY)

-- of a dump
abbrev pub IsStatusOfDump : Option Behind → ℕ → Type 0
IsStatusOfDump None result = result ≡ CLOSED
IsStatusOfDump (Some opened) result = IsDumpStatus opened.session.state result

-- of a call with a template, and with the values that are bound
abbrev pub IsStatusOfTemplate : Option Behind → List ℕ → ℕ → Type 0
IsStatusOfTemplate None template result = result ≡ CLOSED
IsStatusOfTemplate (Some opened) template result = result ≢ OK → WhyNotRead template opened.values result
