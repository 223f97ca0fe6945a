use Rattle.std.proofs.Common.{◌≡◌, ℕ, ◌+◌, drop}
use Rattle.std.specs.List.{enumerate_from}
use Rattle.iv_syntax.specs.declared.trigger.TriggerAction.{TriggerAction}
use Rattle.iv_resolution.specs.Items.{first_of}
use Rattle.iv_resolve_reasons.specs.SchemaFaults.{fault_of_action}
use Rattle.iv_resolve_reasons.proofs.allowed.fault_of_actions.Given as goal

abbrev pub invariant-loop-at : goal.invariant-loop-at
invariant-loop-at l =
    first_of (λ (p : ℕ × TriggerAction). fault_of_action l.fn.trigger p.0 p.1) (enumerate_from 1 l.fn.body)
    ≡ first_of (λ (p : ℕ × TriggerAction). fault_of_action l.fn.trigger p.0 p.1) (enumerate_from (l.at + 1) (drop l.at l.fn.body))
