use Rattle.std.proofs.Common.{◌≡◌, ◌-◌, ◌^◌}
use Rattle.iv_expr.specs.Scopes.{table_rows}
use Rattle.iv_expr.proofs.Scan.{rows_above}
use Rattle.iv_exec_proposals.specs.Steps.{number_taken, numbers_taken}
use Rattle.iv_exec_proposals.proofs.Along.{along}
use Rattle.iv_exec_proposals.proofs.finding.numbers_where.Given as goal

abbrev pub invariant-loop-number : goal.invariant-loop-number
invariant-loop-number g l =
    along (number_taken l.scope l.filter) (rows_above l.after l.search) l.found.items
    ≡ numbers_taken l.scope l.filter (table_rows l.scope.rows l.fn.table)

abbrev pub decreases-loop-number : goal.decreases-loop-number
decreases-loop-number g l = 2 ^ 64 - l.after
