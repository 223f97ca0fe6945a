use Rattle.std.proofs.Common.{◌≡◌, ◌∙◌, Ok, Err, sym}
use Rattle.iv_expr.specs.Evaluation.{value}
use Rattle.iv_catalogue.specs.Refusals.{is_memory_cause}
use Rattle.iv_machine.specs.Proposals.{with_cause}
use Rattle.iv_exec_context.proofs.Answers.{unless_memory}
use Rattle.iv_exec_proposals.specs.Steps.{all_added}
use Rattle.iv_exec_proposals.specs.Selections.{output_at}
use Rattle.iv_exec_proposals.proofs.SelectedRows.{output_made}
use Rattle.iv_exec_proposals.proofs.Steps.{answers_as, scope_at, told_on}
use Rattle.iv_exec_proposals.proofs.selecting.output_row.Goals as goal

pub returns : goal.returns
returns g c =
    let at = scope_at c.args.scope.now c.over.result c.ranges_with-ranges.result c.values.result.now c.args.row.now c.over.ensures c.ranges_with-ranges.ensures c.values.ensures in
    answers_as (λ r. r) c.row_of.result (Ok c.in_ok-values.values.items) (output_at c.args.scope.now c.args.expressions.now c.args.row.now)
    (sym c.in_ok-values.ensures ∙ output_made c.args.scope.now c.over.result c.args.expressions.now c.args.row.now at) c.row_of.ensures

pub returns-in_err-values : goal.returns-in_err-values
returns-in_err-values g c =
    let at = scope_at c.args.scope.now c.over.result c.ranges_with-ranges.result c.values.result.now c.args.row.now c.over.ensures c.ranges_with-ranges.ensures c.values.ensures in
    told_on _ c.from_residual.result c.in_err-values.field-0.0 _ c.from_residual.ensures.1
    (unless_memory (is_memory_cause c.in_err-values.field-0.0) (all_added (λ e. with_cause (value c.over.result e)) c.args.expressions.now ≡ Err c.in_err-values.field-0.0)
    (output_at c.args.scope.now c.args.expressions.now c.args.row.now ≡ Err c.in_err-values.field-0.0)
    (λ e. sym (output_made c.args.scope.now c.over.result c.args.expressions.now c.args.row.now at) ∙ e) c.in_err-values.ensures)
