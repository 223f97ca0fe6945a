use Rattle.std.proofs.Common.{◌≡◌, ◌++◌, drop}
use Rattle.iv_catalogue.proofs.copies.copy_columns.Given as goal

abbrev pub invariant-loop-column : goal.invariant-loop-column
invariant-loop-column l = l.copy.items ++ drop l.column-index l.columns ≡ l.columns
