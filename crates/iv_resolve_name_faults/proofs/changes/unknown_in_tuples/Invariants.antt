use Rattle.std.proofs.Common.{◌≡◌, drop}
use Rattle.iv_resolve_scope.specs.Seen.{ranges_seen}
use Rattle.iv_resolution.specs.Items.{first_of}
use Rattle.iv_resolution.specs.NameFaults.{unknown_in_value}
use Rattle.iv_resolve_name_faults.proofs.changes.unknown_in_tuples.Given as goal

abbrev pub invariant-loop-tuple : goal.invariant-loop-tuple
invariant-loop-tuple l = first_of (λ tuple. first_of (unknown_in_value (ranges_seen l.fn.ranges)) tuple) l.tuples ≡ first_of (λ tuple. first_of (unknown_in_value (ranges_seen l.fn.ranges)) tuple) (drop l.tuple-index l.tuples)
