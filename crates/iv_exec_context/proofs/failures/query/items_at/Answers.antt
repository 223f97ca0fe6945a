use Rattle.std.proofs.Common.{◌∙◌, List, ap}
use Rattle.std.specs.List.{enumerate_from}
use Rattle.iv_value.specs.declared.value.Value.{Value}
use Rattle.iv_expr.specs.Scopes.{Scope}
use Rattle.iv_exec_context.specs.Sides.{placed_failure}
use Rattle.iv_exec_context.proofs.failures.query.items_at.Goals as goal

pub returns : goal.returns
returns g c =
    let s = c.args.scope.now in
    c.in_items.ensures
    ∙ ap (λ (here : Scope). placed_failure here (enumerate_from 1 c.args.expressions.now))
    (c.over-here.ensures ∙ ap {B = Scope} (λ (ranges : List (List Value)). record { ranges = ranges; frame = s.frame; rows = s.rows }) c.ranges_with-ranges.ensures)
