use Rattle.std.proofs.Common.{◌≡◌, ◌++◌, drop, map}
use Rattle.iv_resolution.specs.Bound.{bound_action}
use Rattle.iv_resolve_scope.specs.Seen.{names_seen, ranges_seen}
use Rattle.iv_resolve_statements.proofs.bound_triggers.bound_body.Given as goal

abbrev pub invariant-loop-action : goal.invariant-loop-action
invariant-loop-action l =
    l.statements ++ map (bound_action (names_seen l.fn.names) (ranges_seen l.fn.ranges)) (drop l.action-index l.body)
    ≡ map (bound_action (names_seen l.fn.names) (ranges_seen l.fn.ranges)) l.body
