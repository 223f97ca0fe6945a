use Rattle.std.proofs.Common.{◌≡◌, ◌||◌, ℕ, drop}
use Rattle.std.specs.Bool.{◌==◌}
use Rattle.std.specs.List.{list_any}
use Rattle.iv_expr.specs.declared.row.Change.{Change}
use Rattle.iv_laws_kept.specs.FollowingWaves.{is_among}
use Rattle.iv_exec_actions.proofs.affected.tables_of.Given as goal

abbrev pub invariant-loop-change : goal.invariant-loop-change
invariant-loop-change l = (t : ℕ)
    → (is_among l.tables.items t || list_any (λ (c : Change). c.table == t) (drop l.change-index l.changes)) ≡ list_any (λ (c : Change). c.table == t) l.changes
