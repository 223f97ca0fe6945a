use Rattle.std.proofs.Common.{◌≡◌, drop}
use Rattle.iv_machine.specs.Context.{in_turn}
use Rattle.iv_exec_proposals.specs.Selections.{output_at}
use Rattle.iv_exec_proposals.specs.Steps.{added, all_added}
use Rattle.iv_exec_proposals.proofs.selecting.output_rows.Given as goal

abbrev pub invariant-loop-row : goal.invariant-loop-row
invariant-loop-row g l =
    in_turn (added (output_at l.scope l.expressions)) (drop l.row-index l.rows) l.outputs.items ≡ all_added (output_at l.scope l.expressions) l.rows
