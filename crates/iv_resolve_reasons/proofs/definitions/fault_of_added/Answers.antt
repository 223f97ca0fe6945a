use Rattle.std.proofs.Common.{◌∙◌, ap, is_some, option_map}
use Rattle.iv_resolution.specs.Constraints.{table_constraint}
use Rattle.iv_resolution.specs.Tables.{altered_at}
use Rattle.iv_resolve_tables.specs.Keys.{key_seen}
use Rattle.iv_resolve_tables.specs.Seen.{constraint_seen}
use Rattle.iv_resolve_reasons.specs.Seen.{schema_fault_seen}
use Rattle.iv_resolve_reasons.proofs.Added.{addition_by, mapped_some}
use Rattle.iv_resolve_reasons.proofs.definitions.fault_of_added.Goals as goal

pub returns : goal.returns
returns c =
    addition_by c.args.catalogue.now (altered_at c.args.catalogue.now c.args.place c.args.table.now) (table_constraint c.args.constraint.now) (constraint_seen c.table_constraint-written.result)
    c.as_str.result.now c.count_stored.result (is_some c.primary_key.result) (option_map schema_fault_seen c.primary_again-again.result) (option_map schema_fault_seen c.fault_of_constraint-fault.result)
    (option_map schema_fault_seen c.first_rule.result) c.first_rule.ensures c.table_constraint-written.ensures c.as_str.ensures c.count_stored.ensures
    (mapped_some key_seen c.primary_key.result ∙ ap is_some c.primary_key.ensures) c.primary_again-again.ensures c.fault_of_constraint-fault.ensures
