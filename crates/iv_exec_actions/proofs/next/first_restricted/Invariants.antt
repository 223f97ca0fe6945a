use Rattle.std.proofs.Common.{◌≡◌, ◌≤◌, drop, length}
use Rattle.iv_laws_kept.specs.FollowingWaves.{least}
use Rattle.iv_exec_actions.specs.Following.{restricted_at}
use Rattle.iv_exec_actions.proofs.next.first_restricted.Given as goal

abbrev pub invariant-loop-left : goal.invariant-loop-left
invariant-loop-left g l = record {
  within : l.left ≤ length l.numbers;
  so_far : l.first ≡ least (restricted_at l.affected_keys l.changes (g.K.ReferencingRows.view l.store).base.rows) (drop l.left l.numbers);
}

abbrev pub decreases-loop-left : goal.decreases-loop-left
decreases-loop-left g l = l.left
