use Rattle.std.proofs.Common.{◌∙◌, sym, ℕ, ◌+◌, drop, option_map}
use Rattle.std.specs.List.{enumerate_from}
use Rattle.iv_syntax.specs.declared.trigger.TriggerAction.{TriggerAction}
use Rattle.iv_resolution.specs.Items.{first_of}
use Rattle.iv_resolution.specs.Scopes.{named_columns}
use Rattle.iv_resolution.specs.Triggers.{row_variables}
use Rattle.iv_resolve_scope.specs.Seen.{items_seen}
use Rattle.iv_resolve_reasons.specs.Seen.{schema_fault_seen}
use Rattle.iv_resolve_reasons.specs.SchemaFaults.{fault_of_set}
use Rattle.iv_resolve_reasons.proofs.Pairs.{found_later, none_mapped}
use Rattle.iv_resolve_reasons.proofs.Numbered.{numbered_step}
use Rattle.iv_resolve_reasons.proofs.allowed.fault_of_sets.Goals as goal

pub loop-at-preserved : goal.loop-at-preserved
loop-at-preserved c =
    found_later (first_of (λ (p : ℕ × TriggerAction). fault_of_set (row_variables (named_columns c.args.scope.now.subject.now) (items_seen c.args.scope.now.referencing)) p.0 p.1) (enumerate_from 1 c.args.body.now))
    (fault_of_set (row_variables (named_columns c.args.scope.now.subject.now) (items_seen c.args.scope.now.referencing)) (c.loop-at.at + 1) c.index-body-at.result)
    (first_of (λ (p : ℕ × TriggerAction). fault_of_set (row_variables (named_columns c.args.scope.now.subject.now) (items_seen c.args.scope.now.referencing)) p.0 p.1) (enumerate_from (c.loop-at.at + 1 + 1) (drop (c.loop-at.at + 1) c.args.body.now)))
    (option_map schema_fault_seen c.fault_of_set-fault.result)
    (c.loop-at.invariant
    ∙ numbered_step (λ (p : ℕ × TriggerAction). fault_of_set (row_variables (named_columns c.args.scope.now.subject.now) (items_seen c.args.scope.now.referencing)) p.0 p.1) (c.loop-at.at + 1) c.args.body.now c.loop-at.at c.index-body-at.result c.loop-at-test.true c.index-body-at.is)
    c.fault_of_set-fault.ensures
    (none_mapped schema_fault_seen c.fault_of_set-fault.result (sym c.is_some.ensures ∙ c.if-is_some.false))
