use Rattle.std.proofs.Common.{◌≡◌, drop}
use Rattle.iv_resolution.specs.Items.{first_of}
use Rattle.iv_resolution.specs.NameFaults.{duplicate_in_action}
use Rattle.iv_resolve_name_faults.proofs.duplicates.duplicate_in_body.Given as goal

abbrev pub invariant-loop-action : goal.invariant-loop-action
invariant-loop-action l = first_of (duplicate_in_action) l.body ≡ first_of (duplicate_in_action) (drop l.action-index l.body)
