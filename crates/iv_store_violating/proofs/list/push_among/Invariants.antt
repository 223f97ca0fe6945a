use Rattle.std.proofs.Common.{◌≡◌, ◌≤◌, ◌++◌, List, flat_map, length, drop}
use Rattle.iv_catalogue.specs.declared.constraint.Constraint.{Constraint}
use Rattle.iv_laws_kept.specs.GroupFlags.{AreFlagged}
use Rattle.iv_store_violating.specs.Answers.{faults_kept}
use Rattle.iv_store_violating.specs.Shown.{shown}
use Rattle.iv_store_violating.proofs.list.push_among.Given as goal

-- what was added with the violations of the rest is what was there with those of all
abbrev pub invariant-loop-id : goal.invariant-loop-id
invariant-loop-id l = (constraints : List Constraint) → length l.violating ≤ length constraints → AreFlagged constraints (shown l.groups.groups) l.violating
    → l.faults.items ++ flat_map (faults_kept constraints (shown l.groups.groups)) (drop l.id-index l.ids)
    ≡ l.initial.faults.items ++ flat_map (faults_kept constraints (shown l.groups.groups)) l.ids
