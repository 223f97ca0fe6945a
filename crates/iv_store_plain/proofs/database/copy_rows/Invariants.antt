use Rattle.std.proofs.Common.{◌≡◌, ◌++◌, drop}
use Rattle.iv_store_plain.proofs.database.copy_rows.Given as goal

abbrev pub invariant-loop-row : goal.invariant-loop-row
invariant-loop-row l = l.copy.items ++ drop l.row-index l.rows ≡ l.rows
