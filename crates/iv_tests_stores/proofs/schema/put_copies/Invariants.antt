use Rattle.std.proofs.Common.{◌≡◌}
use Rattle.iv_tests_stores.proofs.schema.put_copies.Given as goal

abbrev pub invariant-loop-constraint : goal.invariant-loop-constraint
invariant-loop-constraint g l = l.catalogue.tables ≡ l.initial.catalogue.tables
