use Rattle.std.proofs.Common.{◌≡◌, ◌++◌, ℕ, [], get_or, drop}
use Rattle.iv_exec_actions.specs.ByTable.{on_table, at_places}
use Rattle.iv_exec_actions.proofs.by_table.places_of.Given as goal

abbrev pub invariant-loop-place : goal.invariant-loop-place
invariant-loop-place l =
    (t : ℕ) → at_places l.affected_keys (get_or l.lists.items t []) ++ on_table t (drop l.place l.affected_keys) ≡ on_table t l.affected_keys
