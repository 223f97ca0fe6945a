use Rattle.std.proofs.Common.{length}
use Rattle.std.specs.List.{flat_map}
use Rattle.iv_key.specs.Keys.{key_of}
use Rattle.iv_text.specs.Lines.{further_text}
use Rattle.iv_text.proofs.WriteLemmas.{Wrote}
use Rattle.iv_print.proofs.account.write_more_columns.Given as goal

abbrev pub invariant-loop-column : goal.invariant-loop-column
invariant-loop-column g l =
    Wrote (flat_map further_text (key_of l.fn.columns l.fn.row)) (flat_map further_text (key_of l.rest l.fn.row))
    (g.W.Sink.state l.initial.sink) (g.W.Sink.state l.sink)

abbrev pub decreases-loop-column : goal.decreases-loop-column
decreases-loop-column g l = length l.rest
