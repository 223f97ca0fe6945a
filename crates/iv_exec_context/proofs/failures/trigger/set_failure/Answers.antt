use Rattle.std.proofs.Common.{◌≡◌, ◌∙◌, ap, subst, IfOk}
use Rattle.iv_expr.specs.Scopes.{Frame, Scope, scope_of}
use Rattle.iv_account.specs.declared.failure.EvaluatedFor.TheVariants as part_of
use Rattle.iv_account.specs.Failures.{at_row, of_part, stored_failure, variables}
use Rattle.iv_exec_context.proofs.failures.trigger.set_failure.Goals as goal

pub returns : goal.returns
returns g c =
    let t = c.args.change.now.table in
    let x = c.args.setting.now in
    subst (λ (s : Scope). IfOk c.set_failure_in.result (λ f. f ≡ at_row (variables s.frame) (of_part (part_of.Column t x.column) (stored_failure c.args.catalogue.now s t x.column x.value))))
    (c.new-scope.ensures ∙ ap (λ (frame : Frame). scope_of frame (g.R.Rows.rows c.args.rows.now)) c.at-frame.ensures) c.set_failure_in.ensures
