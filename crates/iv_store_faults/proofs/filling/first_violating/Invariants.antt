use Rattle.std.proofs.Common.{◌-◌, ◌^◌}
use Rattle.iv_store_following.specs.References.{reference_at}
use Rattle.iv_store_faults.proofs.Filled.{Searching}
use Rattle.iv_store_faults.proofs.filling.first_violating.Given as goal

abbrev pub invariant-loop-number : goal.invariant-loop-number
invariant-loop-number g l = Searching (g.R.Rows.rows l.rows) l.constraint l.id l.after (reference_at l.references 0) l.initial.groups l.groups

abbrev pub decreases-loop-number : goal.decreases-loop-number
decreases-loop-number g l = 2 ^ 64 - l.after
