-- What the names of the code are in definitions.
use Rattle.std.specs.Option.{option_copied}
use Rattle.iv_resolution.specs.Items as spec
use Rattle.iv_resolve_name_faults.specs.declared.item.NamedItem.{NamedItem}
use Rattle.iv_resolve_name_faults.specs.declared.item.NamedItem.TheVariants.{Table, Column, RowVariable, Trigger, Constraint, GeneratedConstraint, Transition}
use Rattle.iv_resolve_name_faults.specs.declared.item.NameFault.{NameFault}
use Rattle.iv_resolve_name_faults.specs.declared.item.NameFault.TheVariants.{Unknown, InUse, Twice}

abbrev pub item_seen : NamedItem → spec.Item
item_seen (Table name) = spec.table_item name.now
item_seen (Column range name) = spec.column_item (option_copied range) name.now
item_seen (RowVariable name) = spec.variable_item name.now
item_seen (Trigger name) = spec.trigger_item name.now
item_seen (Constraint name) = spec.constraint_item name.now
item_seen (GeneratedConstraint table place) = spec.generated_item table.now place
item_seen (Transition name) = spec.transition_item name.now

abbrev pub fault_seen : NameFault → spec.Fault
fault_seen (Unknown item) = spec.unknown_fault (item_seen item)
fault_seen (InUse item) = spec.in_use_fault (item_seen item)
fault_seen (Twice item) = spec.twice_fault (item_seen item)
