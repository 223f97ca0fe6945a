use Rattle.std.proofs.Common.{◌≡◌, drop}
use Rattle.std.specs.Prelude.{filter_map}
use Rattle.iv_account.specs.Disagreements.{first_of}
use Rattle.iv_account.specs.Failures.{where_failure, stored_side}
use Rattle.iv_exec_context.proofs.failures.wheres.where_at_sides.Given as goal

abbrev pub invariant-loop-change : goal.invariant-loop-change
invariant-loop-change g l =
    let f = where_failure l.scope l.filter in
    first_of f (filter_map (stored_side l.side) (drop l.change-index l.changes)) ≡ first_of f (filter_map (stored_side l.side) l.changes)
