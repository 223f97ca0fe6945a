use Rattle.std.proofs.Common.{◌≡◌, ◌+◌, ◌-◌, ◌^◌, ◌≤◌, min, flat_map, length, drop}
use Rattle.iv_laws_kept.specs.Kept.{groups_of}
use Rattle.iv_laws_kept.specs.GroupFlags.{rows_at}
use Rattle.iv_store_violating.specs.Shown.{shown}
use Rattle.iv_store_violating.proofs.rows.count_rows.Given as goal

-- what was counted with the rows of the rest is the count of all
abbrev pub invariant-loop-place : goal.invariant-loop-place
invariant-loop-place l = record {
  told : min (l.count + length (flat_map (rows_at (groups_of (shown l.groups.groups) l.constraint)) (drop l.place-index l.places))) (2 ^ 64 - 1)
      ≡ min (length (flat_map (rows_at (groups_of (shown l.groups.groups) l.constraint)) l.places)) (2 ^ 64 - 1);
  small : l.count ≤ 2 ^ 64 - 1;
}
