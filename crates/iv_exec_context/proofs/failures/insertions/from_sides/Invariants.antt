use Rattle.std.proofs.Common.{◌≡◌, drop}
use Rattle.std.specs.Prelude.{filter_map}
use Rattle.iv_account.specs.Disagreements.{first_of}
use Rattle.iv_account.specs.Failures.{if_true_at, insertion_failure, stored_side}
use Rattle.iv_exec_context.proofs.failures.insertions.from_sides.Given as goal

abbrev pub invariant-loop-change : goal.invariant-loop-change
invariant-loop-change g l =
    let f = if_true_at l.scope l.filter (insertion_failure l.catalogue l.scope l.table l.listed l.outputs) in
    first_of f (filter_map (stored_side l.side) (drop l.change-index l.changes)) ≡ first_of f (filter_map (stored_side l.side) l.changes)
