use Rattle.std.proofs.Common.{length}
use Rattle.iv_dump.specs.Making.{Inserts}
use Rattle.iv_dump.proofs.parts.push_rows.Given as goal

abbrev pub invariant-batch : goal.invariant-batch
invariant-batch l = Inserts l.name l.initial.scripts l.scripts l.fn.rows l.left

abbrev pub decreases-batch : goal.decreases-batch
decreases-batch l = length l.left
