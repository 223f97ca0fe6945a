use Rattle.std.proofs.Common.{◌≡◌, filter, drop}
use Rattle.iv_machine.specs.Databases.{first, is_chosen}
use Rattle.iv_laws_kept.specs.Numbers.{in_rising_order}
use Rattle.iv_store_violating.specs.Answers.{lesser}
use Rattle.iv_store_violating.proofs.chosen.least_chosen.Given as goal

-- the lesser of what was found and the least of the rest is the least of all
abbrev pub invariant-loop-id : goal.invariant-loop-id
invariant-loop-id l = lesser l.least (first (in_rising_order (filter (is_chosen l.modes l.which) (drop l.id-index l.ids))))
    ≡ first (in_rising_order (filter (is_chosen l.modes l.which) l.ids))
