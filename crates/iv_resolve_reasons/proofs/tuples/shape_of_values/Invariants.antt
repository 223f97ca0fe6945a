use Rattle.std.proofs.Common.{◌≡◌, drop}
use Rattle.iv_resolve_scope.specs.Seen.{ranges_seen}
use Rattle.iv_resolve_reasons.specs.Seen.{targets_named}
use Rattle.iv_resolve_reasons.specs.Shapes.{shape_of_values}
use Rattle.iv_resolve_reasons.proofs.tuples.shape_of_values.Given as goal

abbrev pub invariant-loop-at : goal.invariant-loop-at
invariant-loop-at l =
    shape_of_values l.fn.table (targets_named l.fn.targets) (ranges_seen l.fn.ranges) l.fn.tuple
    ≡ shape_of_values l.fn.table (drop l.at (targets_named l.fn.targets)) (ranges_seen l.fn.ranges) (drop l.at l.fn.tuple)
