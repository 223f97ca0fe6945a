use Rattle.std.proofs.Common.{◌≡◌, ◌++◌, false, length, map, take, drop}
use Rattle.iv_catalogue.specs.Names.{has_repeated}
use Rattle.iv_catalogue.proofs.named_list.add_names.Given as goal

abbrev pub invariant-loop-item : goal.invariant-loop-item
invariant-loop-item g l =
    (l.names ≡ l.fn.names ++ map g.T.Named.named (take l.item-index l.items))
    × (has_repeated l.names (map g.T.Named.named (drop l.item-index l.items)) ≡ false)
    × (l.count ≡ length l.fn.names)
