-- What a write does.
use Rattle.std.specs.Prelude.{◌≡◌, List, ◌++◌, Result, Ok, Err, string_bytes}
use Rattle.std.specs.declared.alloc.AllocError.{AllocError}
use Rattle.iv_lex.specs.Words.{Word}
use Rattle.iv_write.specs.declared.writer.Writer.{Writer}
use Rattle.iv_write.specs.Layouts.{text_from, layout_from}

-- the text of these words is appended, and the layout is the one after them; nothing is said if memory was refused
abbrev pub Writes : Writer → Writer → Result (Unit {0}) AllocError → List Word → Type 0
Writes old new (Ok u) ws =
    (string_bytes new.text ≡ string_bytes old.text ++ text_from old.layout ws) × (new.layout ≡ layout_from old.layout ws)
Writes old new (Err e) ws = Unit {0}
