use Rattle.std.proofs.Common.{◌≡◌, drop}
use Rattle.iv_machine.specs.Context.{in_turn}
use Rattle.iv_machine.specs.Databases.{row_at}
use Rattle.iv_machine.specs.Proposals.{update_of}
use Rattle.iv_exec_proposals.specs.Steps.{added_of_row, added_of_numbers}
use Rattle.iv_exec_proposals.proofs.updating.update_numbers.Given as goal

abbrev pub invariant-loop-number : goal.invariant-loop-number
invariant-loop-number g l =
    let rows = (g.K.ReferencingRows.view l.store).base.rows in
    let made = update_of l.context l.scope l.settings in
    in_turn (λ n. added_of_row made (row_at rows n)) (drop l.number-index l.numbers) l.changes.items
    ≡ added_of_numbers made rows l.numbers
