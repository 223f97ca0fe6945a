use Rattle.std.proofs.Common.{◌≡◌, drop}
use Rattle.iv_resolution.specs.Changes.{tuple_clashes}
use Rattle.iv_resolve_scope.specs.Seen.{ranges_seen}
use Rattle.iv_resolve_statements.specs.Targets.{targets_seen}
use Rattle.iv_resolve_statements.proofs.targets.tuple_clashes.Given as goal

abbrev pub invariant-loop-at : goal.invariant-loop-at
invariant-loop-at l =
    tuple_clashes (targets_seen l.fn.targets) (ranges_seen l.fn.ranges) l.fn.tuple
    ≡ tuple_clashes (drop l.at (targets_seen l.fn.targets)) (ranges_seen l.fn.ranges) (drop l.at l.fn.tuple)
