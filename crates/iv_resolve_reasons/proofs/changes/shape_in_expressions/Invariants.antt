use Rattle.std.proofs.Common.{◌≡◌, drop}
use Rattle.iv_resolve_scope.specs.Seen.{ranges_seen}
use Rattle.iv_resolution.specs.Items.{first_of}
use Rattle.iv_resolve_reasons.specs.Shapes.{shape_in_expression}
use Rattle.iv_resolve_reasons.proofs.changes.shape_in_expressions.Given as goal

abbrev pub invariant-loop-value : goal.invariant-loop-value
invariant-loop-value l = first_of (shape_in_expression (ranges_seen l.fn.ranges)) l.values ≡ first_of (shape_in_expression (ranges_seen l.fn.ranges)) (drop l.value-index l.values)
