use Rattle.std.proofs.Common.{◌≡◌, flat_map, drop}
use Rattle.iv_machine.specs.Databases.{first}
use Rattle.iv_laws_kept.specs.Kept.{groups_of}
use Rattle.iv_laws_kept.specs.GroupFlags.{rows_at}
use Rattle.iv_laws_kept.specs.Numbers.{in_rising_order}
use Rattle.iv_store_violating.specs.Answers.{lesser}
use Rattle.iv_store_violating.specs.Shown.{shown}
use Rattle.iv_store_violating.proofs.rows.first_row.Given as goal

-- the lesser of what was found and the first of the rest is the first of all
abbrev pub invariant-loop-place : goal.invariant-loop-place
invariant-loop-place l = lesser l.least (first (in_rising_order (flat_map (rows_at (groups_of (shown l.groups.groups) l.constraint)) (drop l.place-index l.places))))
    ≡ first (in_rising_order (flat_map (rows_at (groups_of (shown l.groups.groups) l.constraint)) l.places))
