use Rattle.std.proofs.Common.{◌≡◌, ◌++◌, drop}
use Rattle.iv_resolve_scope.proofs.referencing_index.copies_of.Given as goal

abbrev pub invariant-loop-item : goal.invariant-loop-item
invariant-loop-item l = l.copies.items ++ drop l.item-index l.items ≡ l.items
