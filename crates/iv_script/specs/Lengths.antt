-- Which bytes are a script that can be run, and what an answer says of the bytes.
use Rattle.std.specs.Prelude.{ℕ, ◌<◌, ◌≤◌, List, length, Result, IsErrOf}
use Rattle.std.specs.Str.{IsUtf8}
use Rattle.iv_script.specs.declared.summary.RunFault.{RunFault}
use Rattle.iv_script.specs.declared.summary.RunFault.TheVariants.{TooLong, NotUtf8}
use Rattle.iv_script.specs.declared.summary.Summary.{Summary}

-- the bytes are no more than the longest script has, and UTF-8
abbrev pub Fits : ℕ → List ℕ → Type 0
Fits longest bytes = (length bytes ≤ longest) × IsUtf8 bytes

-- bytes that are more than that are answered as too long, and others that aren't UTF-8 as such
abbrev pub IsExact : ℕ → List ℕ → Result Summary RunFault → Type 0
IsExact longest bytes result =
    (longest < length bytes → IsErrOf result TooLong)
    × (length bytes ≤ longest → ¬ (IsUtf8 bytes) → IsErrOf result NotUtf8)
