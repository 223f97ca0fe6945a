use Rattle.std.proofs.Common.{◌≤◌, ◌<◌}
use Rattle.iv_dump.proofs.batches.next_batch.Given as goal

abbrev pub invariant-loop-row : goal.invariant-loop-row
invariant-loop-row l = record {
  few : l.count ≤ l.row-index;
  some : 0 < l.row-index → 0 < l.count;
}
