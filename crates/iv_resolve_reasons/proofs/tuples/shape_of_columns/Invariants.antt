use Rattle.std.proofs.Common.{◌≡◌, drop}
use Rattle.iv_resolution.specs.Scopes.{named_columns}
use Rattle.iv_resolve_reasons.specs.Seen.{targets_named}
use Rattle.iv_resolve_reasons.specs.Shapes.{shape_of_columns}
use Rattle.iv_resolve_reasons.proofs.tuples.shape_of_columns.Given as goal

abbrev pub invariant-loop-at : goal.invariant-loop-at
invariant-loop-at l =
    shape_of_columns l.fn.table (targets_named l.fn.targets) l.fn.from (named_columns l.fn.columns)
    ≡ shape_of_columns l.fn.table (drop l.at (targets_named l.fn.targets)) l.fn.from (named_columns (drop l.at l.fn.columns))
