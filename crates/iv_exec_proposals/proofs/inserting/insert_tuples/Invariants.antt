use Rattle.std.proofs.Common.{◌≡◌, List, drop, map}
use Rattle.iv_expr.specs.declared.tree.Expr.{Expr}
use Rattle.iv_expr.specs.Evaluation.{value}
use Rattle.iv_machine.specs.Context.{in_turn}
use Rattle.iv_machine.specs.Proposals.{insertion_of}
use Rattle.iv_exec_proposals.specs.Steps.{added, all_added}
use Rattle.iv_exec_proposals.proofs.inserting.insert_tuples.Given as goal

abbrev pub invariant-loop-tuple : goal.invariant-loop-tuple
invariant-loop-tuple g l =
    let made = λ (t : List Expr). insertion_of l.context l.table l.listed (map (value l.scope) t) in
    in_turn (added made) (drop l.tuple-index l.tuples) l.changes.items ≡ all_added made l.tuples
