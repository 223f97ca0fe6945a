use Rattle.std.proofs.Common.{◌≡◌, drop}
use Rattle.iv_resolution.specs.Items.{first_of}
use Rattle.iv_resolve_reasons.specs.SchemaFaults.{fault_of_item}
use Rattle.iv_resolve_reasons.proofs.allowed.fault_of_items.Given as goal

abbrev pub invariant-loop-item : goal.invariant-loop-item
invariant-loop-item l = first_of (fault_of_item l.fn.trigger) l.items ≡ first_of (fault_of_item l.fn.trigger) (drop l.item-index l.items)
