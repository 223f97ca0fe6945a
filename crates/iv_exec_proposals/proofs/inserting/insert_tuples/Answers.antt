use Rattle.std.proofs.Common.{List, map}
use Rattle.iv_expr.specs.declared.tree.Expr.{Expr}
use Rattle.iv_expr.specs.Evaluation.{value}
use Rattle.iv_machine.specs.Proposals.{insertion_of}
use Rattle.iv_exec_proposals.specs.Steps.{added}
use Rattle.iv_exec_proposals.proofs.Steps.{told_on}
use Rattle.iv_exec_proposals.proofs.Turning.{shown_left, turned_on, turn_refused, all_turned}
use Rattle.iv_exec_proposals.proofs.inserting.insert_tuples.Goals as goal

pub loop-tuple-preserved : goal.loop-tuple-preserved
loop-tuple-preserved g c =
    turned_on (added (λ (t : List Expr). insertion_of c.args.context.now c.args.table c.args.listed.now (map (value c.args.scope.now) t)))
    c.args.tuples.now c.loop-tuple.tuple-index _ _ c.loop-tuple.invariant
    _ _ (shown_left _ _ c.tuple-item.result _ c.loop-tuple-test.true c.tuple-item.is c.as_slice.ensures) c.in_ok-insert_tuple.ensures

pub returns-in_err-insert_tuple : goal.returns-in_err-insert_tuple
returns-in_err-insert_tuple g c =
    told_on _ c.from_residual.result c.in_err-insert_tuple.field-0.0 _ c.from_residual.ensures.1
    (turn_refused (added (λ (t : List Expr). insertion_of c.args.context.now c.args.table c.args.listed.now (map (value c.args.scope.now) t)))
    c.args.tuples.now c.loop-tuple.tuple-index _ _ c.loop-tuple.invariant
    _ _ (shown_left _ _ c.tuple-item.result _ c.loop-tuple-test.true c.tuple-item.is c.as_slice.ensures) c.in_err-insert_tuple.ensures)

pub returns : goal.returns
returns g c =
    all_turned (added (λ (t : List Expr). insertion_of c.args.context.now c.args.table c.args.listed.now (map (value c.args.scope.now) t)))
    c.args.tuples.now c.loop-tuple.tuple-index _ _ c.loop-tuple.invariant c.loop-tuple-test.false
