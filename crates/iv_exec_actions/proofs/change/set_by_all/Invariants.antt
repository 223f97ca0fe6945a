use Rattle.std.proofs.Common.{◌≡◌, drop, flat_map, ℕ}
use Rattle.iv_machine.specs.declared.effect.Effect.{Effect}
use Rattle.iv_machine.specs.Proposals.{with_columns}
use Rattle.iv_machine.specs.ReferentialActions.{columns_set}
use Rattle.iv_exec_actions.proofs.change.set_by_all.Given as goal

abbrev pub invariant-loop-effect : goal.invariant-loop-effect
invariant-loop-effect l =
    with_columns l.values.items (flat_map (λ (e : ℕ × Effect). columns_set e.1) (drop l.effect-index l.effects))
    ≡ with_columns l.initial.values.items (flat_map (λ (e : ℕ × Effect). columns_set e.1) l.effects)
