use Rattle.std.proofs.Common.{◌-◌, length}
use Rattle.iv_parse_data.proofs.Loops.{Along}
use Rattle.iv_parse_data.proofs.repeated.series.Given as goal

abbrev pub invariant-loop-cursor : goal.invariant-loop-cursor
invariant-loop-cursor g l = Along g.T.Parse.found l.fn.cursor l.items l.cursor

abbrev pub decreases-loop-cursor : goal.decreases-loop-cursor
decreases-loop-cursor g l = length l.cursor.words - l.cursor.place
