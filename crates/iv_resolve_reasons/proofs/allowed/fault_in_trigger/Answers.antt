use Rattle.std.proofs.Common.{option_map}
use Rattle.iv_resolution.specs.Scopes.{named_columns}
use Rattle.iv_resolution.specs.Triggers.{row_variables}
use Rattle.iv_resolve_scope.specs.Seen.{items_seen}
use Rattle.iv_resolve_reasons.specs.Seen.{schema_fault_seen}
use Rattle.iv_resolve_reasons.proofs.Added.{trigger_by}
use Rattle.iv_resolve_reasons.proofs.allowed.fault_in_trigger.Goals as goal

pub returns : goal.returns
returns c =
    trigger_by c.args.catalogue.now c.args.trigger.now c.as_slice-body.result.now c.as_slice-items.result.now
    (row_variables (named_columns c.trigger_scope-scope.result.subject.now) (items_seen c.trigger_scope-scope.result.referencing))
    (option_map schema_fault_seen c.fault_of_names.result) (option_map schema_fault_seen c.fault_of_items.result) (option_map schema_fault_seen c.fault_of_actions.result)
    (option_map schema_fault_seen c.fault_of_sets-sets.result) (option_map schema_fault_seen c.first_rule-after_items.result) (option_map schema_fault_seen c.first_rule-after_names.result)
    (option_map schema_fault_seen c.first_rule.result) c.first_rule.ensures c.first_rule-after_names.ensures c.first_rule-after_items.ensures c.as_slice-body.ensures c.as_slice-items.ensures
    c.trigger_scope-scope.ensures.variables c.fault_of_names.ensures c.fault_of_items.ensures c.fault_of_actions.ensures c.fault_of_sets-sets.ensures
