use Rattle.std.proofs.Common.{◌≡◌, List, drop}
use Rattle.iv_value.specs.declared.value.Value.{Value}
use Rattle.iv_machine.specs.Context.{in_turn}
use Rattle.iv_machine.specs.Proposals.{insertion_of, outputs_of}
use Rattle.iv_exec_proposals.specs.Steps.{added, all_added}
use Rattle.iv_exec_proposals.proofs.inserting.insert_rows.Given as goal

abbrev pub invariant-loop-row : goal.invariant-loop-row
invariant-loop-row g l =
    let made = λ (r : List Value). insertion_of l.context l.table l.listed (outputs_of l.scope l.outputs r) in
    in_turn (added made) (drop l.row-index l.rows) l.changes.items ≡ all_added made l.rows
