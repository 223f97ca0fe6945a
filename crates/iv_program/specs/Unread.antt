-- What standard error is told of a file that can't be read.
use Rattle.std.specs.Prelude.{ℕ, List, ◌++◌, codes}

abbrev pub reason_text : List ℕ → List ℕ
reason_text reason = codes ": " ++ (reason ++ codes "\n")

abbrev pub unread_line : List ℕ → List ℕ → List ℕ
unread_line name reason = codes "sqlkeep: cannot read " ++ (name ++ reason_text reason)
