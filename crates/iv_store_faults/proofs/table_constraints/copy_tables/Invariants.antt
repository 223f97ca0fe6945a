use Rattle.std.proofs.Common.{◌≡◌, ◌++◌, drop}
use Rattle.iv_store_faults.proofs.table_constraints.copy_tables.Given as goal

abbrev pub invariant-loop-numbers : goal.invariant-loop-numbers
invariant-loop-numbers l = l.copy.items ++ drop l.numbers-index l.tables ≡ l.tables
