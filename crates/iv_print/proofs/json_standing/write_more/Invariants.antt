use Rattle.std.proofs.Common.{length}
use Rattle.std.specs.List.{flat_map}
use Rattle.iv_print.specs.JsonAccounts.{further_name}
use Rattle.iv_text.proofs.WriteLemmas.{Wrote}
use Rattle.iv_print.proofs.json_standing.write_more.Given as goal

abbrev pub invariant-loop-name : goal.invariant-loop-name
invariant-loop-name g l = Wrote (flat_map further_name l.fn.names) (flat_map further_name l.rest) (g.W.Sink.state l.initial.sink) (g.W.Sink.state l.sink)

abbrev pub decreases-loop-name : goal.decreases-loop-name
decreases-loop-name g l = length l.rest
