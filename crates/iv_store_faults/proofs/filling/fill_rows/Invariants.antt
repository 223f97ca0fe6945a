use Rattle.std.proofs.Common.{◌-◌, ◌^◌}
use Rattle.iv_store_faults.proofs.Filled.{Filling}
use Rattle.iv_store_faults.proofs.filling.fill_rows.Given as goal

abbrev pub invariant-loop-number : goal.invariant-loop-number
invariant-loop-number g l = Filling (g.R.Rows.rows l.rows) l.constraint l.id l.after l.initial.groups l.groups

abbrev pub decreases-loop-number : goal.decreases-loop-number
decreases-loop-number g l = 2 ^ 64 - l.after
