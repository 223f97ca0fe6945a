use Rattle.std.proofs.Common.{◌≡◌, length}
use Rattle.iv_dump.specs.Dumps.{has_null_after_key}
use Rattle.iv_dump.proofs.constraints.has_null_after_key.Given as goal

abbrev pub invariant-key : goal.invariant-key
invariant-key l = has_null_after_key l.left ≡ has_null_after_key l.fn.constraints

abbrev pub decreases-key : goal.decreases-key
decreases-key l = length l.left
