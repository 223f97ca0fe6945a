use Rattle.std.proofs.Common.{◌≡◌, length}
use Rattle.iv_text.specs.Ways.{used_from}
use Rattle.iv_text.proofs.way.used.Given as goal

abbrev pub invariant-loop-entry : goal.invariant-loop-entry
invariant-loop-entry l = used_from l.used l.rest ≡ used_from 1 l.fn.entries

abbrev pub decreases-loop-entry : goal.decreases-loop-entry
decreases-loop-entry l = length l.rest
