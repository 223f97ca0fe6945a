use Rattle.std.proofs.Common.{◌∙◌, List, ap, sym}
use Rattle.iv_value.specs.declared.value.Value.{Value}
use Rattle.iv_expr.specs.declared.tree.Expr.{Expr}
use Rattle.iv_catalogue.specs.declared.plan.Outputs.{Outputs}
use Rattle.iv_machine.specs.Context.{each}
use Rattle.iv_machine.specs.Machine.{output_row}
use Rattle.iv_exec_proposals.specs.Steps.{all_added}
use Rattle.iv_exec_proposals.specs.Selections.{output_at}
use Rattle.iv_exec_proposals.proofs.SelectedRows.{stars, values}
use Rattle.iv_exec_proposals.proofs.Steps.{answers_as}
use Rattle.iv_exec_proposals.proofs.selecting.outputs_of_rows.Goals as goal

pub returns-in-Star : goal.returns-in-Star
returns-in-Star g c =
    ap (λ (o : Outputs). each (λ (r : List Value). output_row c.args.scope.now o r) c.args.rows.items) c.in-Star.is ∙ stars c.args.scope.now c.args.rows.items

pub returns-in-Values : goal.returns-in-Values
returns-in-Values g c =
    answers_as (λ v. v.items) c.output_rows.result (all_added (output_at c.args.scope.now c.as_slice.result.now) c.as_slice-in-Values.result.now)
    (each (λ (r : List Value). output_row c.args.scope.now c.args.outputs.now r) c.args.rows.items)
    (ap (λ (es : List Expr). all_added (output_at c.args.scope.now es) c.as_slice-in-Values.result.now) c.as_slice.ensures
    ∙ ap (λ (rows : List (List Value)). all_added (output_at c.args.scope.now c.in-Values.expressions) rows) c.as_slice-in-Values.ensures.value
    ∙ values c.args.scope.now c.in-Values.expressions c.args.rows.items
    ∙ ap (λ (o : Outputs). each (λ (r : List Value). output_row c.args.scope.now o r) c.args.rows.items) (sym c.in-Values.is))
    c.output_rows.ensures
