use Rattle.std.proofs.Common.{◌≡◌, drop}
use Rattle.iv_restate.specs.Trees.{item_name}
use Rattle.iv_restate.proofs.naming.item_name.Given as goal

abbrev pub invariant-loop-item : goal.invariant-loop-item
invariant-loop-item l = item_name l.fn.side l.fn.row l.items ≡ item_name l.fn.side l.fn.row (drop l.item-index l.items)
