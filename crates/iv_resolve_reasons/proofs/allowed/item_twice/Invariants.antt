use Rattle.std.proofs.Common.{◌≡◌, ◌≤◌, ◌+◌, length, drop}
use Rattle.iv_resolution.specs.Triggers.{items_of}
use Rattle.iv_resolve_reasons.proofs.allowed.item_twice.Given as goal

abbrev pub invariant-loop-item : goal.invariant-loop-item
invariant-loop-item l = record {
  small : l.count ≤ l.item-index;
  all : l.count + length (items_of l.fn.side l.fn.row (drop l.item-index l.items)) ≡ length (items_of l.fn.side l.fn.row l.items);
}
