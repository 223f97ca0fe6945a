use Rattle.std.proofs.Common.{◌≡◌, ℕ, List, drop}
use Rattle.std.specs.BTreeMap.{get_by_text}
use Rattle.std.specs.Option.{option_or}
use Rattle.iv_resolve_scope.specs.FirstItems.{first_side}
use Rattle.iv_resolve_scope.proofs.referencing_index.sides_of.Given as goal

abbrev pub invariant-loop-item : goal.invariant-loop-item
invariant-loop-item l =
    (name : List ℕ) → option_or (get_by_text l.sides name) (first_side l.fn.what (drop l.item-index l.items) name) ≡ first_side l.fn.what l.items name
