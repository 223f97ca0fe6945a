use Rattle.std.proofs.Common.{◌≡◌, ◌+◌, ◌-◌, ◌≤◌, length, take}
use Rattle.std.specs.List.{flat_map}
use Rattle.iv_shown.specs.Cells.{fitting, placed, row_cells, row_text}
use Rattle.iv_shown.proofs.row_buffers.copy_rows.Given as goal

abbrev pub invariant-loop-row : goal.invariant-loop-row
invariant-loop-row l = record {
  rows : l.taken + fitting (length l.cells - l.at) l.room l.rest ≡ fitting (length l.initial.cells) (length l.initial.texts) l.fn.rows;
  cells : placed l.cells l.at (flat_map row_cells (take (fitting (length l.cells - l.at) l.room l.rest) l.rest))
      ≡ placed l.initial.cells 0 (flat_map row_cells (take (fitting (length l.initial.cells) (length l.initial.texts) l.fn.rows) l.fn.rows));
  texts : placed l.texts (length l.texts - l.room) (flat_map row_text (take (fitting (length l.cells - l.at) l.room l.rest) l.rest))
      ≡ placed l.initial.texts 0 (flat_map row_text (take (fitting (length l.initial.cells) (length l.initial.texts) l.fn.rows) l.fn.rows));
  bytes : (length l.texts - l.room) + length (flat_map row_text (take (fitting (length l.cells - l.at) l.room l.rest) l.rest))
      ≡ length (flat_map row_text (take (fitting (length l.initial.cells) (length l.initial.texts) l.fn.rows) l.fn.rows));
  within : l.at ≤ length l.cells;
  room_within : l.room ≤ length l.texts;
  same_cells : length l.cells ≡ length l.initial.cells;
  same_texts : length l.texts ≡ length l.initial.texts;
  few : l.taken + length l.rest ≤ length l.fn.rows;
}

abbrev pub decreases-loop-row : goal.decreases-loop-row
decreases-loop-row l = length l.rest
