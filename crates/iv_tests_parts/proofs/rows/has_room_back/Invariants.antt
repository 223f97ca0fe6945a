use Rattle.std.proofs.Common.{◌≡◌, ℕ, ◌<◌, List, slice_get, Some}
use Rattle.iv_value.specs.declared.value.Value.{Value}
use Rattle.iv_catalogue.specs.declared.constraint.Constraint.{Constraint}
use Rattle.iv_store_groups.specs.Groups.{groups_of, room_of}
use Rattle.iv_store_following.specs.BorrowedChange.{side_key}
use Rattle.iv_tests_parts.proofs.rows.has_room_back.Given as goal

-- there is room for the constraints before the place
abbrev pub invariant-loop-place : goal.invariant-loop-place
invariant-loop-place l =
    (k : ℕ) (c : Constraint) → k < l.place → slice_get l.constraints k ≡ Some c → (key : List Value) → side_key c l.change.table l.change.old ≡ Some key → 0 < room_of (groups_of l.groups.groups k) key
