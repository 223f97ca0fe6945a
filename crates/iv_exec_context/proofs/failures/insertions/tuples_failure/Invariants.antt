use Rattle.std.proofs.Common.{◌≡◌, drop}
use Rattle.iv_account.specs.Disagreements.{first_of}
use Rattle.iv_account.specs.Failures.{tuple_failure}
use Rattle.iv_exec_context.proofs.failures.insertions.tuples_failure.Given as goal

abbrev pub invariant-loop-tuple : goal.invariant-loop-tuple
invariant-loop-tuple g l =
    let f = tuple_failure l.catalogue l.scope l.table l.listed in
    first_of f (drop l.tuple-index l.tuples) ≡ first_of f l.tuples
