use Rattle.std.proofs.Common.{◌≡◌, drop}
use Rattle.iv_expr.specs.Scopes.{side_of}
use Rattle.iv_machine.specs.Context.{in_turn}
use Rattle.iv_exec_proposals.specs.Steps.{side_taken, sides_taken}
use Rattle.iv_exec_proposals.proofs.finding.sides_where.Given as goal

abbrev pub invariant-loop-change : goal.invariant-loop-change
invariant-loop-change g l =
    in_turn (λ c. side_taken l.scope l.filter (side_of l.side c)) (drop l.change-index l.changes) l.found.items
    ≡ sides_taken l.scope l.filter l.side l.changes
