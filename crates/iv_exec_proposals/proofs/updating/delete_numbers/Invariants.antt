use Rattle.std.proofs.Common.{◌≡◌, drop, Ok}
use Rattle.iv_machine.specs.Context.{in_turn}
use Rattle.iv_machine.specs.Databases.{row_at}
use Rattle.iv_machine.specs.Proposals.{deletion}
use Rattle.iv_exec_proposals.specs.Steps.{added_of_row, added_of_numbers}
use Rattle.iv_exec_proposals.proofs.updating.delete_numbers.Given as goal

abbrev pub invariant-loop-number : goal.invariant-loop-number
invariant-loop-number g l =
    let rows = (g.K.ReferencingRows.view l.store).base.rows in
    in_turn (λ n. added_of_row (λ r. Ok (deletion r)) (row_at rows n)) (drop l.number-index l.numbers) l.changes.items
    ≡ added_of_numbers (λ r. Ok (deletion r)) rows l.numbers
