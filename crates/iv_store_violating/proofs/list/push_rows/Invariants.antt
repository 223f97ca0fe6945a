use Rattle.std.proofs.Common.{◌≡◌, ◌++◌, map, drop}
use Rattle.iv_laws_kept.specs.Kept.{fault_of}
use Rattle.iv_store_violating.proofs.list.push_rows.Given as goal

-- what was added with the violations by the rest is what was there with those by all
abbrev pub invariant-loop-row : goal.invariant-loop-row
invariant-loop-row l = l.faults.items ++ map (fault_of l.id) (drop l.row-index l.rows) ≡ l.initial.faults.items ++ map (fault_of l.id) l.rows
