use Rattle.std.proofs.Common.{◌-◌, length}
use Rattle.iv_parse.specs.readers.Triggers.{read_ended_action}
use Rattle.iv_parse_data.proofs.Loops.{Amid}
use Rattle.iv_parse.proofs.action.actions.Given as goal

abbrev pub invariant-loop-items : goal.invariant-loop-items
invariant-loop-items l = Amid read_ended_action l.fn.cursor l.items l.cursor

abbrev pub decreases-loop-items : goal.decreases-loop-items
decreases-loop-items l = length l.cursor.words - l.cursor.place
