-- What clauses read of a sink with a buffer in front of another one.
use Rattle.std.specs.Prelude.{ℕ, List, ◌∷◌}
use Rattle.std.specs.Borrow.{MutBor}
use Rattle.std.specs.Io.KnownBytes.{append_known}
use Rattle.iv_text.specs.Sinks.{SinkState}
use Rattle.iv_text.specs.declared.buffered.Buffered.{Buffered}

-- the bytes in the buffer
abbrev pub buffer_of : {W : Type 0} → Buffered W → List ℕ
buffer_of b = b.buffer

-- the sink that the bytes go to
abbrev pub sink_of : {W : Type 0} → Buffered W → MutBor W
sink_of b = b.sink

-- the bytes of that sink and then those in the buffer, with the failed calls of that sink
abbrev pub buffered_state : {W : Type 0} → (W → SinkState) → Buffered W → SinkState
buffered_state state b = record {
  contents = append_known (state b.sink.now).contents b.buffer;
  failed = (state b.sink.now).failed;
  borrows = b.sink.ghost_name ∷ (state b.sink.now).borrows;
}
