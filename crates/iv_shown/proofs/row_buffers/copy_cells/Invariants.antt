use Rattle.std.proofs.Common.{◌≡◌, ◌+◌, ◌≤◌, length}
use Rattle.iv_shown.specs.Cells.{placed, row_cells}
use Rattle.iv_shown.proofs.row_buffers.copy_cells.Given as goal

abbrev pub invariant-loop-value : goal.invariant-loop-value
invariant-loop-value l = record {
  cells : placed l.cells l.at (row_cells l.rest) ≡ placed l.initial.cells l.fn.from (row_cells l.fn.values);
  within : l.at + length l.rest ≤ length l.cells;
  same : length l.cells ≡ length l.initial.cells;
}

abbrev pub decreases-loop-value : goal.decreases-loop-value
decreases-loop-value l = length l.rest
