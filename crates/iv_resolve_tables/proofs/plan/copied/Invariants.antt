use Rattle.std.proofs.Common.{◌≡◌, ◌++◌, drop}
use Rattle.iv_resolve_tables.proofs.plan.copied.Given as goal

abbrev pub invariant-loop-place : goal.invariant-loop-place
invariant-loop-place l = l.copy ++ drop l.place-index l.places ≡ l.places
