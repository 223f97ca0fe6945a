use Rattle.std.proofs.Common.{length, string_bytes}
use Rattle.std.specs.List.{flat_map}
use Rattle.iv_text.proofs.WriteLemmas.{Wrote}
use Rattle.iv_program.proofs.dumping.write_scripts.Given as goal

abbrev pub invariant-loop-script : goal.invariant-loop-script
invariant-loop-script g l = Wrote (flat_map string_bytes l.fn.scripts) (flat_map string_bytes l.rest) (g.W.Sink.state l.initial.writer) (g.W.Sink.state l.writer)

abbrev pub decreases-loop-script : goal.decreases-loop-script
decreases-loop-script g l = length l.rest
