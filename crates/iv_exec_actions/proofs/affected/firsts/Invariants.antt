use Rattle.std.proofs.Common.{◌≡◌, ◌<◌, ◌-◌, List, length, drop, slice_get}
use Rattle.std.specs.Option.{option_or}
use Rattle.iv_value.specs.declared.value.Value.{Value}
use Rattle.iv_store_groups.specs.Groups.{groups_of, rows_of}
use Rattle.iv_exec_actions.specs.AffectedForeignKey.{first_taking}
use Rattle.iv_exec_actions.proofs.affected.firsts.Given as goal

abbrev pub invariant-loop-place : goal.invariant-loop-place
invariant-loop-place l = record {
  known : 0 < length l.firsts.groups;
  noted : (k : List Value) → option_or (slice_get (rows_of (groups_of l.firsts.groups 0) k) 0) (first_taking l.key k l.place (drop l.place l.changes))
      ≡ first_taking l.key k 0 l.changes;
}

abbrev pub decreases-loop-place : goal.decreases-loop-place
decreases-loop-place l = length l.changes - l.place
