-- What a query gives.
use Rattle.std.specs.Prelude.{◌≡◌, pos, List, [], ◌∷◌, length, Result, Ok}
use Rattle.iv_value.specs.declared.value.Value.{Value}
use Rattle.iv_value.specs.declared.value.Value.TheVariants.{Int}
use Rattle.iv_expr.specs.declared.row.StoredRow.{StoredRow}
use Rattle.iv_expr.specs.Scopes.{Scope, within, scope_of, no_frame, table_rows}
use Rattle.iv_expr.specs.declared.tree.Expr.{Expr}
use Rattle.iv_expr.specs.Evaluation.{and_then, value}
use Rattle.iv_catalogue.specs.declared.cause.Cause.{Cause}
use Rattle.iv_catalogue.specs.declared.plan.QueryPlan.{QueryPlan}
use Rattle.iv_catalogue.specs.declared.plan.QueryPlan.TheVariants as query
use Rattle.iv_machine.specs.declared.answer.Answer.TheVariants.{Rows}
use Rattle.iv_machine.specs.Context.{each}
use Rattle.iv_machine.specs.Proposals.{matching_rows, with_cause}
use Rattle.iv_machine.specs.Machine.{State, output_row, answer_outcome, query_outcome}

-- the row of the values of expressions at a row
unfoldable pub output_at : Scope → List Expr → List Value → Result (List Value) Cause
output_at scope expressions row = each (λ e. with_cause (value (within scope row) e)) expressions

-- The rows that a query gives, by number; COUNT(*) gives one row of one integer.
abbrev pub rows_selected : List StoredRow → QueryPlan → Result (List (List Value)) Cause
rows_selected rows (query.Rows table outputs filter) =
    and_then (matching_rows (scope_of no_frame rows) filter (table_rows rows table))
    (each (λ r. output_row (scope_of no_frame rows) outputs r.values))
rows_selected rows (query.Count table filter) =
    and_then (matching_rows (scope_of no_frame rows) filter (table_rows rows table)) (λ found.
    Ok ((Int (pos (length found)) ∷ []) ∷ []))

-- What the machine answers to a query is these rows, or the cause.
abbrev pub QueriesSelect : Type 0
QueriesSelect = (s : State) (q : QueryPlan) →
    query_outcome s q ≡ answer_outcome s (and_then (rows_selected s.database.rows q) (λ rows. Ok (Rows rows)))
