use Rattle.std.proofs.Common.{length, ◌-◌}
use Rattle.iv_expr.proofs.Asked.{AreNulls}
use Rattle.iv_account.proofs.equal.nothing_asked.Given as goal

abbrev pub invariant-loop-asked : goal.invariant-loop-asked
invariant-loop-asked l = AreNulls l.asked.items

abbrev pub decreases-loop-asked : goal.decreases-loop-asked
decreases-loop-asked l = l.count - length l.asked.items
