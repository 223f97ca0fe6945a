use Rattle.iv_expr.specs.Scopes.{table_rows}
use Rattle.iv_machine.specs.Machine.{output_row}
use Rattle.iv_machine.specs.Proposals.{matching_rows}
use Rattle.iv_exec_proposals.proofs.SelectedRows.{of_contents}
use Rattle.iv_exec_proposals.proofs.selecting.select_rows.Goals as goal

pub returns : goal.returns
returns g c =
    of_contents (λ v. v.items) c.outputs_of_rows.result (matching_rows c.args.scope.now c.args.filter.now (table_rows c.args.scope.now.rows c.args.table))
    (output_row c.args.scope.now c.args.outputs.now) c.in_ok-rows.rows.items c.in_ok-rows.ensures c.outputs_of_rows.ensures
