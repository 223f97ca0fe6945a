use Rattle.std.proofs.Common.{◌≡◌, ◌+◌, ◌≤◌, length}
use Rattle.iv_shown.specs.Cells.{placed, row_text}
use Rattle.iv_shown.proofs.row_buffers.copy_texts.Given as goal

abbrev pub invariant-loop-value : goal.invariant-loop-value
invariant-loop-value l = record {
  bytes : placed l.buffer l.at (row_text l.rest) ≡ placed l.initial.buffer l.fn.from (row_text l.fn.values);
  within : l.at + length (row_text l.rest) ≤ length l.buffer;
  same : length l.buffer ≡ length l.initial.buffer;
}

abbrev pub decreases-loop-value : goal.decreases-loop-value
decreases-loop-value l = length l.rest
