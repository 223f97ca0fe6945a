use Rattle.std.proofs.Common.{◌≤◌, ◌+◌, length, true}
use Rattle.iv_print.specs.JsonAccounts.{json_entries}
use Rattle.iv_text.proofs.WriteLemmas.{Wrote}
use Rattle.iv_print.proofs.json_account.write_entries.Given as goal

abbrev pub invariant-loop-entry : goal.invariant-loop-entry
invariant-loop-entry g l = record {
  wrote : Wrote (json_entries l.fn.catalogue l.fn.outcome 0 true l.fn.entries) (json_entries l.fn.catalogue l.fn.outcome l.depth l.first l.rest)
      (g.W.Sink.state l.initial.sink) (g.W.Sink.state l.sink);
  left : l.depth + length l.rest ≤ length l.fn.entries;
}

abbrev pub decreases-loop-entry : goal.decreases-loop-entry
decreases-loop-entry g l = length l.rest
