use Rattle.std.proofs.Common.{◌≡◌, ◌≤◌, ◌<◌, ◌-◌, ◌^◌}
use Rattle.iv_expr.specs.Scopes.{table_rows}
use Rattle.iv_expr.proofs.Scan.{rows_above}
use Rattle.iv_exec_proposals.specs.Steps.{row_counted, rows_counted}
use Rattle.iv_exec_proposals.proofs.Along.{along}
use Rattle.iv_exec_proposals.proofs.finding.count_where.Given as goal

abbrev pub invariant-loop-number : goal.invariant-loop-number
invariant-loop-number g l = record {
  within : l.found ≤ l.after;
  small : l.after < 2 ^ 63;
  rest : along (λ n row. row_counted l.scope l.filter row) (rows_above l.after l.search) l.found
      ≡ rows_counted l.scope l.filter (table_rows l.scope.rows l.fn.table);
}

abbrev pub decreases-loop-number : goal.decreases-loop-number
decreases-loop-number g l = 2 ^ 64 - l.after
