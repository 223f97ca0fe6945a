use Rattle.std.proofs.Common.{◌++◌, take, map, option_map}
use Rattle.iv_store_faults.specs.Watch.{AreReferencesOf, as_reference}
use Rattle.iv_store_faults.proofs.naming.all_parts.Given as goal

abbrev pub invariant-loop-constraint : goal.invariant-loop-constraint
invariant-loop-constraint l = AreReferencesOf (l.olds ++ l.more) (take l.constraint-index l.more) (map (option_map as_reference) l.parts.items)
