use Rattle.std.proofs.Common.{length}
use Rattle.std.specs.Io.KnownBytes.{Keeps, append_known}
use Rattle.iv_text.specs.Sinks.{FailsNever}
use Rattle.iv_text.proofs.buffered.write_out.Given as goal

abbrev pub invariant-loop-sink : goal.invariant-loop-sink
invariant-loop-sink g l = record {
  bytes : Keeps (append_known (g.W.Sink.state l.initial.sink).contents l.initial.buffer) (append_known (g.W.Sink.state l.sink).contents l.buffer);
  works : FailsNever (g.W.Sink.state l.initial.sink) (g.W.Sink.state l.sink);
}

abbrev pub decreases-loop-sink : goal.decreases-loop-sink
decreases-loop-sink g l = length l.buffer
