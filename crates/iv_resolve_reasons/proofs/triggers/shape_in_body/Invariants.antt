use Rattle.std.proofs.Common.{◌≡◌, drop}
use Rattle.iv_resolve_scope.specs.Seen.{ranges_seen}
use Rattle.iv_resolution.specs.Items.{first_of}
use Rattle.iv_resolve_reasons.specs.Seen.{scope_seen}
use Rattle.iv_resolve_reasons.specs.Shapes.{shape_in_action}
use Rattle.iv_resolve_reasons.proofs.triggers.shape_in_body.Given as goal

abbrev pub invariant-loop-action : goal.invariant-loop-action
invariant-loop-action l =
    first_of (shape_in_action (scope_seen l.fn.scope) (ranges_seen l.fn.ranges)) l.body
    ≡ first_of (shape_in_action (scope_seen l.fn.scope) (ranges_seen l.fn.ranges)) (drop l.action-index l.body)
