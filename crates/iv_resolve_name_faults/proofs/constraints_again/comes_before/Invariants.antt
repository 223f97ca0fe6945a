use Rattle.std.proofs.Common.{◌≡◌, ◌≤◌, ◌-◌, take, unwrap_or}
use Rattle.iv_catalogue.specs.Names.{generated_name, is_among}
use Rattle.iv_resolution.specs.Constraints.{written_constraints}
use Rattle.iv_resolve_tables.specs.Unread.{left_seen}
use Rattle.iv_resolve_name_faults.specs.Places.{constraint_names}
use Rattle.iv_resolve_name_faults.proofs.constraints_again.comes_before.Given as goal

abbrev pub invariant-loop-other : goal.invariant-loop-other
invariant-loop-other l = record {
  small : l.other ≤ l.place;
  same : is_among (constraint_names l.fn.table 1 (take (l.place - 1) (written_constraints l.elements))) (unwrap_or l.fn.given (generated_name l.fn.table l.place))
      ≡ is_among (constraint_names l.fn.table l.other (take (l.place - l.other) (left_seen l.left))) (unwrap_or l.fn.given (generated_name l.fn.table l.place));
}

abbrev pub decreases-loop-other : goal.decreases-loop-other
decreases-loop-other l = l.place - l.other
