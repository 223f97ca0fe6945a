use Rattle.std.proofs.Common.{◌≡◌, ◌++◌, flat_map, drop}
use Rattle.iv_laws_kept.specs.Kept.{groups_of}
use Rattle.iv_laws_kept.specs.GroupFlags.{rows_at}
use Rattle.iv_store_violating.specs.Shown.{shown}
use Rattle.iv_store_violating.proofs.rows.push_rows.Given as goal

-- what was added with the rows of the rest is what was there with the rows of all
abbrev pub invariant-loop-place : goal.invariant-loop-place
invariant-loop-place l = l.rows.items ++ flat_map (rows_at (groups_of (shown l.groups.groups) l.constraint)) (drop l.place-index l.places)
    ≡ l.initial.rows.items ++ flat_map (rows_at (groups_of (shown l.groups.groups) l.constraint)) l.places
