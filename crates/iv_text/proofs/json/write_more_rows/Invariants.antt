use Rattle.std.proofs.Common.{length}
use Rattle.std.specs.List.{flat_map}
use Rattle.iv_text.specs.Json.{further_row}
use Rattle.iv_text.proofs.WriteLemmas.{Wrote}
use Rattle.iv_text.proofs.json.write_more_rows.Given as goal

abbrev pub invariant-loop-row : goal.invariant-loop-row
invariant-loop-row g l = Wrote (flat_map further_row l.fn.rows) (flat_map further_row l.rest) (g.W.Sink.state l.initial.sink) (g.W.Sink.state l.sink)

abbrev pub decreases-loop-row : goal.decreases-loop-row
decreases-loop-row g l = length l.rest
