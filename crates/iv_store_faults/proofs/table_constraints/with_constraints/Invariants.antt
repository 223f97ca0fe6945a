use Rattle.std.proofs.Common.{◌≡◌, ◌++◌, List, length, take}
use Rattle.iv_store_faults.specs.Types.{Constraint}
use Rattle.iv_store_faults.specs.Watch.{AreTabled}
use Rattle.iv_store_faults.proofs.table_constraints.with_constraints.Given as goal

-- the constraints before the place are noted
abbrev pub invariant-loop-place : goal.invariant-loop-place
invariant-loop-place l = (olds : List Constraint) → length olds ≡ l.first → AreTabled olds l.tables → AreTabled (olds ++ take l.place l.more) l.lists.items
