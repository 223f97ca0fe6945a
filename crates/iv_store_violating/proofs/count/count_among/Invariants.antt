use Rattle.std.proofs.Common.{◌≡◌, ◌+◌, ◌-◌, ◌^◌, ◌≤◌, min, List, filter, flat_map, length, drop}
use Rattle.iv_catalogue.specs.declared.constraint.Constraint.{Constraint}
use Rattle.iv_machine.specs.Databases.{is_chosen}
use Rattle.iv_laws_kept.specs.GroupFlags.{AreFlagged}
use Rattle.iv_store_violating.specs.Answers.{faults_kept}
use Rattle.iv_store_violating.specs.Apart.{AreApart}
use Rattle.iv_store_violating.specs.Shown.{shown}
use Rattle.iv_store_violating.proofs.count.count_among.Given as goal

-- what was counted with the violations of the rest is the count of all
abbrev pub invariant-loop-id : goal.invariant-loop-id
invariant-loop-id l = record {
  told : (constraints : List Constraint) → length l.violating ≤ length constraints → AreApart constraints (shown l.groups.groups) → AreFlagged constraints (shown l.groups.groups) l.violating
      → min (l.count + length (flat_map (faults_kept constraints (shown l.groups.groups)) (filter (is_chosen l.modes l.which) (drop l.id-index l.ids)))) (2 ^ 64 - 1)
      ≡ min (length (flat_map (faults_kept constraints (shown l.groups.groups)) (filter (is_chosen l.modes l.which) l.ids))) (2 ^ 64 - 1);
  small : l.count ≤ 2 ^ 64 - 1;
}
