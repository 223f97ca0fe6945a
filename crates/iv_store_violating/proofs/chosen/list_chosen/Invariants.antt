use Rattle.std.proofs.Common.{◌≡◌, ◌++◌, filter, drop}
use Rattle.iv_machine.specs.Databases.{is_chosen}
use Rattle.iv_store_violating.proofs.chosen.list_chosen.Given as goal

-- those found before those among the rest are those of all
abbrev pub invariant-loop-id : goal.invariant-loop-id
invariant-loop-id l = l.chosen.items ++ filter (is_chosen l.modes l.which) (drop l.id-index l.ids) ≡ filter (is_chosen l.modes l.which) l.ids
