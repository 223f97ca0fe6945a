use Rattle.std.proofs.Common.{ap, subst, ◌∙◌, Result}
use Rattle.iv_expr.specs.Evaluation.{value}
use Rattle.iv_expr.specs.Scopes.{Frame, Scope, scope_of}
use Rattle.iv_machine.specs.Proposals.{stored_value}
use Rattle.iv_exec_context.specs.Answering.{AnswersCause}
use Rattle.iv_exec_triggers.proofs.before.value_of_set.Goals as goal

pub returns : goal.returns
returns g c =
    subst (λ (s : Scope). AnswersCause (λ v. v) c.stored_value.result (stored_value c.args.context.now c.args.change.now.table c.args.setting.now.column (value s c.args.setting.now.value)))
    (c.new-scope.ensures ∙ ap (λ (frame : Frame). scope_of frame (g.R.Rows.rows c.args.rows.now)) c.at-frame.ensures) c.stored_value.ensures
