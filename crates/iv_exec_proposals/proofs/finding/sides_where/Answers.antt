use Rattle.iv_expr.specs.declared.row.Change.{Change}
use Rattle.iv_expr.specs.Scopes.{side_of}
use Rattle.iv_exec_proposals.specs.Steps.{side_taken}
use Rattle.iv_exec_proposals.proofs.Steps.{told_on}
use Rattle.iv_exec_proposals.proofs.Turning.{next_left, turned_on, turn_refused, all_turned}
use Rattle.iv_exec_proposals.proofs.finding.sides_where.Goals as goal

pub loop-change-preserved : goal.loop-change-preserved
loop-change-preserved g c =
    turned_on (λ (x : Change). side_taken c.args.scope.now c.args.filter.now (side_of c.args.side x)) c.args.changes.now c.loop-change.change-index _ _ c.loop-change.invariant
    c.change-item.result _ (next_left _ _ c.change-item.result c.loop-change-test.true c.change-item.is) c.in_ok-take_side.ensures

pub returns-in_err-take_side : goal.returns-in_err-take_side
returns-in_err-take_side g c =
    told_on _ c.from_residual.result c.in_err-take_side.field-0.0 _ c.from_residual.ensures.1
    (turn_refused (λ (x : Change). side_taken c.args.scope.now c.args.filter.now (side_of c.args.side x)) c.args.changes.now c.loop-change.change-index _ _ c.loop-change.invariant
    c.change-item.result _ (next_left _ _ c.change-item.result c.loop-change-test.true c.change-item.is) c.in_err-take_side.ensures)

pub returns : goal.returns
returns g c =
    all_turned (λ (x : Change). side_taken c.args.scope.now c.args.filter.now (side_of c.args.side x)) c.args.changes.now c.loop-change.change-index _ _ c.loop-change.invariant c.loop-change-test.false
