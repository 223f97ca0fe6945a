use Rattle.std.proofs.Common.{◌∙◌, List, map, ap, sym}
use Rattle.iv_value.specs.declared.value.Value.{Value}
use Rattle.iv_expr.specs.declared.tree.Expr.{Expr}
use Rattle.iv_expr.specs.Evaluation.{value}
use Rattle.iv_expr.specs.Scopes.{range_rows}
use Rattle.iv_catalogue.specs.declared.plan.InsertRows.{InsertRows}
use Rattle.iv_machine.specs.Context.{each}
use Rattle.iv_machine.specs.Proposals.{insertion_of, outputs_of, proposed_insertions, where_true}
use Rattle.iv_exec_proposals.specs.Steps.{all_added}
use Rattle.iv_exec_proposals.proofs.Collecting.{collected}
use Rattle.iv_exec_proposals.proofs.Steps.{answers_as, after_ok}
use Rattle.iv_exec_proposals.proofs.inserting.insertions.Goals as goal

pub returns-in-Values : goal.returns-in-Values
returns-in-Values g c =
    let made = λ (t : List Expr). insertion_of c.args.context.now c.args.table c.args.listed.now (map (value c.args.scope.now) t) in
    answers_as (λ v. v.items) c.insert_tuples.result (all_added made c.as_slice.result.now) (proposed_insertions c.args.context.now c.args.scope.now c.args.table c.args.listed.now c.args.rows.now)
    (ap (λ (ts : List (List Expr)). all_added made ts) c.as_slice.ensures ∙ collected made c.in-Values.tuples
    ∙ ap (λ (rows : InsertRows). proposed_insertions c.args.context.now c.args.scope.now c.args.table c.args.listed.now rows) (sym c.in-Values.is))
    c.insert_tuples.ensures

pub returns-in_ok-rows-in-Query : goal.returns-in_ok-rows-in-Query
returns-in_ok-rows-in-Query g c =
    let made = λ (r : List Value). insertion_of c.args.context.now c.args.table c.args.listed.now (outputs_of c.args.scope.now c.in-Query.outputs r) in
    after_ok (λ v. v.items) c.insert_rows.result (proposed_insertions c.args.context.now c.args.scope.now c.args.table c.args.listed.now c.args.rows.now)
    (where_true (λ (r : List Value). r) c.args.scope.now c.in-Query.filter (range_rows c.args.scope.now c.in-Query.range)) (each made) c.in_ok-rows-in-Query.rows.items
    (ap (λ (rows : InsertRows). proposed_insertions c.args.context.now c.args.scope.now c.args.table c.args.listed.now rows) c.in-Query.is)
    c.in_ok-rows-in-Query.ensures
    (answers_as (λ v. v.items) c.insert_rows.result (all_added made c.as_slice-in-Query.result.now) (each made c.in_ok-rows-in-Query.rows.items)
    (ap (λ (rs : List (List Value)). all_added made rs) c.as_slice-in-Query.ensures.value ∙ collected made c.in_ok-rows-in-Query.rows.items) c.insert_rows.ensures)
