use Rattle.std.proofs.Common.{◌-◌, length}
use Rattle.iv_parse_data.proofs.Loops.{Amid}
use Rattle.iv_parse_data.proofs.repeated.sequence.Given as goal

abbrev pub invariant-loop-items : goal.invariant-loop-items
invariant-loop-items g l = Amid g.T.ParseSome.found_some l.fn.cursor l.items l.cursor

abbrev pub decreases-loop-items : goal.decreases-loop-items
decreases-loop-items g l = length l.cursor.words - l.cursor.place
