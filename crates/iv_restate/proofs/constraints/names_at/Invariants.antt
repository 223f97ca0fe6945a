use Rattle.std.proofs.Common.{◌≡◌, ◌++◌, drop}
use Rattle.iv_resolution.specs.Scopes.{named_columns}
use Rattle.iv_restate.specs.Constraints.{names_at}
use Rattle.iv_restate.proofs.constraints.names_at.Given as goal

abbrev pub invariant-loop-place : goal.invariant-loop-place
invariant-loop-place l = l.names ++ names_at (named_columns l.fn.columns) (drop l.place-index l.places) ≡ names_at (named_columns l.fn.columns) l.places
