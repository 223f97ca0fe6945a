-- The rows to which foreign keys may do something after a wave.
use Rattle.std.specs.Prelude.{ℕ, Bool, false, ◌&&◌, if◌then◌else◌, ◌==◌, List, [], ◌++◌, map, flat_map, Some, None}
use Rattle.iv_value.specs.declared.value.Value.{Value}
use Rattle.iv_expr.specs.declared.row.Change.{Change}
use Rattle.iv_store.specs.Stores.{StoreState, children_of}
use Rattle.iv_account.specs.Accounts.{acts}
use Rattle.iv_exec_actions.specs.AffectedForeignKey.{AffectedForeignKey, action_for, key_taken, change_taking}

-- the first change that takes this key away is of this change's row, and the foreign key does something then
abbrev pub leads : AffectedForeignKey → Change → List Value → Bool
leads x c key = elim (change_taking x key) [ Some first ↦ (first.row == c.row) && acts (action_for x.reference.key first) | None ↦ false ]

-- the rows that refer, after the wave, to the key which a change took away first
abbrev pub found_by : StoreState → AffectedForeignKey → Change → List ℕ
found_by s x c =
    elim (key_taken x.reference.key c) [ Some key ↦ if leads x c key then children_of s x.reference.id key else [] | None ↦ [] ]

abbrev pub found_by_all : StoreState → List AffectedForeignKey → List Change → List ℕ
found_by_all s xs changes = flat_map (λ x. flat_map (found_by s x) changes) xs

-- Those by all foreign keys, and the rows of the wave.
abbrev pub found : StoreState → List AffectedForeignKey → List Change → List ℕ
found s xs changes = found_by_all s xs changes ++ map (λ c. c.row) changes
