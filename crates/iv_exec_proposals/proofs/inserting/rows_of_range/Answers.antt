use Rattle.std.proofs.Common.{List, ap, sym, ◌∙◌}
use Rattle.iv_value.specs.declared.value.Value.{Value}
use Rattle.iv_expr.specs.declared.row.Change.{Change}
use Rattle.iv_expr.specs.Scopes.{table_rows, range_rows}
use Rattle.iv_machine.specs.Proposals.{where_true}
use Rattle.iv_exec_proposals.specs.Steps.{sides_taken}
use Rattle.iv_exec_proposals.proofs.FoundRows.{contents_found, sides_found}
use Rattle.iv_exec_proposals.proofs.Steps.{answers_as}
use Rattle.iv_exec_proposals.proofs.inserting.rows_of_range.Goals as goal

pub returns-in-Table : goal.returns-in-Table
returns-in-Table g c =
    answers_as (λ v. v.items) c.rows_where.result _ _
    (sym (contents_found c.args.scope.now c.args.filter.now (table_rows c.args.scope.now.rows c.in-Table.table))
    ∙ ap (λ r. where_true (λ (v : List Value). v) c.args.scope.now c.args.filter.now (range_rows c.args.scope.now r)) (sym c.in-Table.is))
    c.rows_where.ensures

pub returns-in-Transition : goal.returns-in-Transition
returns-in-Transition g c =
    answers_as (λ v. v.items) c.sides_where.result _ _
    (ap (λ (x : List Change). sides_taken c.args.scope.now c.args.filter.now c.in-Transition.side x) c.transition.ensures
    ∙ sides_found c.args.scope.now c.args.filter.now c.in-Transition.side c.args.scope.now.frame.transition
    ∙ ap (λ r. where_true (λ (v : List Value). v) c.args.scope.now c.args.filter.now (range_rows c.args.scope.now r)) (sym c.in-Transition.is))
    c.sides_where.ensures
