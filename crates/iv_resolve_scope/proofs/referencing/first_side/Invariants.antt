use Rattle.std.proofs.Common.{◌≡◌, drop}
use Rattle.iv_resolve_scope.specs.FirstItems.{first_side}
use Rattle.iv_resolve_scope.proofs.referencing.first_side.Given as goal

abbrev pub invariant-loop-item : goal.invariant-loop-item
invariant-loop-item l = first_side l.fn.what l.items l.fn.name ≡ first_side l.fn.what (drop l.item-index l.items) l.fn.name
