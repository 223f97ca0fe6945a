use Rattle.std.proofs.Common.{option_map}
use Rattle.iv_resolution.specs.Constraints.{table_constraint}
use Rattle.iv_resolution.specs.Tables.{altered_at}
use Rattle.iv_resolve_name_faults.specs.Seen.{item_seen}
use Rattle.iv_resolve_tables.specs.Seen.{constraint_seen}
use Rattle.iv_resolve_reasons.specs.Seen.{limit_fault_seen}
use Rattle.iv_resolve_reasons.proofs.Added.{limit_by}
use Rattle.iv_resolve_reasons.proofs.limits.limit_of_added.Goals as goal

pub returns : goal.returns
returns c =
    limit_by c.args.catalogue.now (altered_at c.args.catalogue.now c.args.place c.args.table.now) (table_constraint c.args.constraint.now) (constraint_seen c.table_constraint-written.result)
    c.as_str-name.result.now c.count_stored-count.result (item_seen c.constraint_item-item.result) (option_map limit_fault_seen c.added_told.result) (option_map limit_fault_seen c.limit_of_key.result)
    (option_map limit_fault_seen c.first_limit.result) c.first_limit.ensures c.table_constraint-written.ensures c.as_str-name.ensures c.count_stored-count.ensures c.constraint_item-item.ensures
    c.added_told.ensures c.limit_of_key.ensures
