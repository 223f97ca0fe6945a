use Rattle.std.proofs.Common.{◌≡◌, ◌+◌, cond, length, slice_get}
use Rattle.iv_resolution.specs.Constraints.{written_constraints}
use Rattle.iv_resolve_tables.specs.Unread.{left_seen}
use Rattle.iv_resolve_reasons.specs.SchemaFaults.{primary_keys}
use Rattle.iv_resolve_reasons.proofs.definitions.second_primary_key.Given as goal

abbrev pub invariant-loop-constraint : goal.invariant-loop-constraint
invariant-loop-constraint l = record {
  places : l.place + length (left_seen l.left) ≡ 1 + l.count;
  same : slice_get (primary_keys 1 (written_constraints l.elements)) 1 ≡ slice_get (primary_keys l.place (left_seen l.left)) (cond l.before 0 1);
}

abbrev pub decreases-loop-constraint : goal.decreases-loop-constraint
decreases-loop-constraint l = length (left_seen l.left)
