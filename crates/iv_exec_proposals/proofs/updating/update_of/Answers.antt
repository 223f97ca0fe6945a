use Rattle.std.proofs.Common.{◌≡◌, ◌∙◌, List, Result, Ok, ap, sym}
use Rattle.iv_value.specs.declared.value.Value.{Value}
use Rattle.iv_expr.specs.Evaluation.{and_then}
use Rattle.iv_expr.specs.Scopes.{Scope, within}
use Rattle.iv_catalogue.specs.declared.cause.Cause.{Cause}
use Rattle.iv_machine.specs.Context.{in_turn}
use Rattle.iv_machine.specs.Proposals.{update_of}
use Rattle.iv_exec_proposals.specs.Placements.{setting_placed}
use Rattle.iv_exec_proposals.proofs.Placing.{changed_to, update_made}
use Rattle.iv_exec_proposals.proofs.Steps.{after_ok, after_err, scope_at, told_on}
use Rattle.iv_exec_proposals.proofs.updating.update_of.Goals as goal

pub returns : goal.returns
returns g c =
    let row = c.args.row.now in
    let step = λ (s : Scope) (v : List Value). in_turn (setting_placed c.args.context.now row.table s) c.args.settings.now v in
    let at = scope_at c.args.scope.now c.over.result c.ranges_with-ranges.result c.values-values.result.now row.values c.over.ensures c.ranges_with-ranges.ensures c.values-values.ensures in
    let same : step c.over.result c.values-values.result.now ≡ step (within c.args.scope.now row.values) row.values =
    ap (λ (s : Scope). step s c.values-values.result.now) at ∙ ap (λ (v : List Value). step (within c.args.scope.now row.values) v) c.values-values.ensures in
    after_ok (λ x. x) c.changed.result (update_of c.args.context.now c.args.scope.now c.args.settings.now row) (step (within c.args.scope.now row.values) row.values)
    (λ new. Ok (changed_to row new)) c.in_ok-new.new (update_made c.args.context.now c.args.scope.now c.args.settings.now row) (sym same ∙ c.in_ok-new.ensures) c.changed.ensures

pub returns-in_err-new : goal.returns-in_err-new
returns-in_err-new g c =
    let row = c.args.row.now in
    let step = λ (s : Scope) (v : List Value). in_turn (setting_placed c.args.context.now row.table s) c.args.settings.now v in
    let at = scope_at c.args.scope.now c.over.result c.ranges_with-ranges.result c.values-values.result.now row.values c.over.ensures c.ranges_with-ranges.ensures c.values-values.ensures in
    let same : step c.over.result c.values-values.result.now ≡ step (within c.args.scope.now row.values) row.values =
    ap (λ (s : Scope). step s c.values-values.result.now) at ∙ ap (λ (v : List Value). step (within c.args.scope.now row.values) v) c.values-values.ensures in
    told_on _ c.from_residual.result c.in_err-new.field-0.0 _ c.from_residual.ensures.1
    (after_err (update_of c.args.context.now c.args.scope.now c.args.settings.now row) (step c.over.result c.values-values.result.now)
    (λ new. Ok (changed_to row new)) c.in_err-new.field-0.0
    (update_made c.args.context.now c.args.scope.now c.args.settings.now row ∙ ap (λ (r : Result (List Value) Cause). and_then r (λ new. Ok (changed_to row new))) (sym same)) c.in_err-new.ensures)
