use Rattle.std.proofs.Common.{◌∙◌, ap, sym}
use Rattle.iv_expr.specs.declared.row.StoredRow.{StoredRow}
use Rattle.iv_expr.specs.Evaluation.{and_then}
use Rattle.iv_expr.specs.Scopes.{Scope, table_rows}
use Rattle.iv_catalogue.specs.declared.plan.QueryPlan.{QueryPlan}
use Rattle.iv_machine.specs.Context.{each}
use Rattle.iv_machine.specs.Machine.{output_row}
use Rattle.iv_machine.specs.Proposals.{matching_rows}
use Rattle.iv_exec_proposals.specs.Selections.{rows_selected}
use Rattle.iv_exec_proposals.proofs.Steps.{answers_as}
use Rattle.iv_exec_proposals.proofs.selecting.select_from.Goals as goal

pub returns-in-Rows : goal.returns-in-Rows
returns-in-Rows g c =
    let rows = (g.K.ReferencingRows.view c.args.store.now).base.rows in
    answers_as (λ v. v.items) c.select_rows.result _ (rows_selected rows c.args.query.now)
    (ap (λ (s : Scope). and_then (matching_rows s c.in-Rows.filter (table_rows s.rows c.in-Rows.table)) (each (λ (r : StoredRow). output_row s c.in-Rows.outputs r.values))) c.requires
    ∙ ap (λ (q : QueryPlan). rows_selected rows q) (sym c.in-Rows.is))
    c.select_rows.ensures
