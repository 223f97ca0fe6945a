use Rattle.std.proofs.Common.{◌∙◌, List, ap, sym}
use Rattle.std.specs.List.{enumerate_from}
use Rattle.iv_expr.specs.declared.tree.Expr.{Expr}
use Rattle.iv_expr.specs.Scopes.{within}
use Rattle.iv_account.specs.Failures.{items_failure}
use Rattle.iv_exec_context.specs.Sides.{placed_failure}
use Rattle.iv_exec_context.proofs.failures.query.items_failure.Goals as goal

pub returns-in-Values : goal.returns-in-Values
returns-in-Values g c =
    let s = within c.args.scope.now c.args.values.now in
    c.items_at.ensures
    ∙ ap (λ (items : List Expr). placed_failure s (enumerate_from 1 items)) c.as_slice.ensures
    ∙ sym (ap (items_failure s) c.in-Values.is)
