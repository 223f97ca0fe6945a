use Rattle.std.proofs.Common.{Ok, map}
use Rattle.iv_machine.specs.Proposals.{deletion}
use Rattle.iv_exec_proposals.proofs.Numbered.{answers_by_numbers_made, refused_by_numbers}
use Rattle.iv_exec_proposals.proofs.Steps.{told_on}
use Rattle.iv_exec_proposals.proofs.updating.deletions.Goals as goal

pub returns : goal.returns
returns g c =
    answers_by_numbers_made (λ v. v.items) c.delete_numbers.result deletion c.args.scope.now c.args.filter.now c.args.table (g.K.ReferencingRows.view c.args.store.now).base.rows
    c.in_ok-numbers.numbers.items c.as_slice.result.now c.recall_order.ensures c.requires c.in_ok-numbers.ensures c.as_slice.ensures.value c.delete_numbers.ensures

pub returns-in_err-numbers : goal.returns-in_err-numbers
returns-in_err-numbers g c =
    told_on _ c.from_residual.result c.in_err-numbers.field-0.0 _ c.from_residual.ensures.1
    (refused_by_numbers c.args.scope.now c.args.filter.now c.args.table (λ found. Ok (map deletion found)) c.in_err-numbers.field-0.0 c.in_err-numbers.ensures)
