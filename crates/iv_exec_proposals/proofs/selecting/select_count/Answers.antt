use Rattle.std.proofs.Common.{◌∙◌, Result, Ok, pos, length, ap, sym}
use Rattle.iv_value.specs.declared.value.Value.{Value}
use Rattle.iv_value.specs.declared.value.Value.TheVariants.{Int}
use Rattle.iv_expr.specs.Evaluation.{and_then}
use Rattle.iv_expr.specs.Scopes.{table_rows}
use Rattle.iv_catalogue.specs.declared.cause.Cause.{Cause}
use Rattle.iv_machine.specs.Proposals.{matching_rows}
use Rattle.iv_exec_proposals.specs.Steps.{rows_counted}
use Rattle.iv_exec_proposals.proofs.SelectedRows.{one_value, count_shown}
use Rattle.iv_exec_proposals.proofs.Steps.{after_ok, exactly, told_on}
use Rattle.iv_exec_proposals.proofs.selecting.select_count.Goals as goal

pub returns : goal.returns
returns g c =
    let rows = table_rows c.args.scope.now.rows c.args.table in
    after_ok (λ v. v.items) c.one_value.result (and_then (matching_rows c.args.scope.now c.args.filter.now rows) (λ found. Ok (one_value (Int (pos (length found))))))
    (and_then (rows_counted c.args.scope.now c.args.filter.now rows) (λ n. Ok (Int (pos n)))) (λ v. Ok (one_value v)) c.in_ok-count.count
    (count_shown c.args.scope.now c.args.filter.now rows) (sym c.in_ok-count.ensures) c.one_value.ensures

pub returns-in_err-count : goal.returns-in_err-count
returns-in_err-count g c =
    let rows = table_rows c.args.scope.now.rows c.args.table in
    told_on _ c.from_residual.result c.in_err-count.field-0.0 _ c.from_residual.ensures.1
    (exactly (and_then (matching_rows c.args.scope.now c.args.filter.now rows) (λ found. Ok (one_value (Int (pos (length found)))))) c.in_err-count.field-0.0
    (count_shown c.args.scope.now c.args.filter.now rows ∙ ap (λ (r : Result Value Cause). and_then r (λ v. Ok (one_value v))) (sym c.in_err-count.ensures)))
