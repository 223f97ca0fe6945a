-- What a write to a sink does.
use Rattle.std.specs.Prelude.{ℕ, List, Result, Ok, Err}
use Rattle.std.specs.Io.KnownBytes.{Appends}
use Rattle.iv_text.specs.Sinks.{SinkState, FailsOnce, FailsNever}
use Rattle.iv_text.specs.declared.device.DeviceFault.{DeviceFault}

-- From this state of the sink to that: the write appended the bytes, or a call of the sink failed.
abbrev pub Writes : SinkState → SinkState → Result (Unit {0}) DeviceFault → List ℕ → Type 0
Writes old new (Ok u) bytes = Appends old.contents new.contents bytes × FailsNever old new
Writes old new (Err e) bytes = FailsOnce old new
