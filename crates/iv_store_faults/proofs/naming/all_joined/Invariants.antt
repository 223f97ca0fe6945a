use Rattle.std.proofs.Common.{◌≡◌, ◌+◌, ◌≤◌, ◌++◌, map, option_map, vec_capacity}
use Rattle.std.specs.Vec.{vec_len}
use Rattle.std.specs.Vec.Iter.{into_iter_items, into_iter_len}
use Rattle.iv_store_faults.specs.Watch.{as_reference}
use Rattle.iv_store_faults.proofs.naming.all_joined.Given as goal

abbrev pub invariant-loop-part : goal.invariant-loop-part
invariant-loop-part l = record {
  items : l.references.items ++ map (option_map as_reference) (into_iter_items l.part-iterator) ≡ map (option_map as_reference) l.fn.parts.items;
  room : vec_len l.references + into_iter_len l.part-iterator ≤ vec_capacity l.references;
}
