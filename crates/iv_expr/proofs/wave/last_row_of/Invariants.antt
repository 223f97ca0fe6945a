use Rattle.std.proofs.Common.{◌≡◌, drop}
use Rattle.iv_expr.specs.Changes.{last_above, last_row}
use Rattle.iv_expr.proofs.wave.last_row_of.Given as goal

abbrev pub invariant-loop-change : goal.invariant-loop-change
invariant-loop-change l = last_above l.last (drop l.change-index l.changes) ≡ last_row l.changes
