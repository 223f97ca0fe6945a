use Rattle.std.proofs.Common.{◌≡◌, drop}
use Rattle.iv_resolve_scope.specs.Seen.{names_seen, ranges_seen}
use Rattle.iv_resolution.specs.Items.{first_of}
use Rattle.iv_resolution.specs.NameFaults.{unknown_in_action}
use Rattle.iv_resolve_name_faults.proofs.triggers.unknown_in_body.Given as goal

abbrev pub invariant-loop-action : goal.invariant-loop-action
invariant-loop-action l = first_of (unknown_in_action (names_seen l.fn.names) (ranges_seen l.fn.ranges)) l.body ≡ first_of (unknown_in_action (names_seen l.fn.names) (ranges_seen l.fn.ranges)) (drop l.action-index l.body)
