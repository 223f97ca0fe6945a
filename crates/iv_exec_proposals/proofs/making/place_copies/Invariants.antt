use Rattle.std.proofs.Common.{◌≡◌, ℕ, Result, Ok, drop, map}
use Rattle.std.specs.List.{enumerate_from}
use Rattle.iv_value.specs.declared.value.Value.{Value}
use Rattle.iv_expr.specs.declared.tree.ExprFault.{ExprFault}
use Rattle.iv_machine.specs.Context.{in_turn}
use Rattle.iv_exec_proposals.specs.Placements.{all_placed, placed_at, target}
use Rattle.iv_exec_proposals.proofs.making.place_copies.Given as goal

abbrev pub invariant-loop-at : goal.invariant-loop-at
invariant-loop-at l =
    in_turn (λ (s : ℕ × Result Value ExprFault). placed_at l.context l.table l.listed (target l.listed s.0) s.1)
    (enumerate_from l.at (map (λ v. Ok v) (drop l.at l.values))) l.row.items
    ≡ all_placed l.context l.table l.listed (map (λ v. Ok v) l.values) l.initial.row.items
