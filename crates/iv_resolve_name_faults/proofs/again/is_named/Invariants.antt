use Rattle.std.proofs.Common.{◌≡◌, drop, map}
use Rattle.iv_catalogue.specs.Names.{is_among}
use Rattle.iv_resolve_name_faults.proofs.again.is_named.Given as goal

abbrev pub invariant-loop-item : goal.invariant-loop-item
invariant-loop-item g l = is_among (map g.T.Named.named l.items) l.fn.name ≡ is_among (map g.T.Named.named (drop l.item-index l.items)) l.fn.name
