use Rattle.std.proofs.Common.{◌≡◌, drop}
use Rattle.iv_resolution.specs.Changes.{columns_clash}
use Rattle.iv_resolve_scope.specs.Seen.{columns_seen}
use Rattle.iv_resolve_statements.specs.Targets.{targets_seen}
use Rattle.iv_resolve_statements.proofs.targets.columns_clash.Given as goal

abbrev pub invariant-loop-at : goal.invariant-loop-at
invariant-loop-at l =
    columns_clash (targets_seen l.fn.targets) (columns_seen l.fn.columns)
    ≡ columns_clash (drop l.at (targets_seen l.fn.targets)) (drop l.at (columns_seen l.fn.columns))
