use Rattle.std.proofs.Common.{◌≡◌, ◌++◌, drop}
use Rattle.iv_restate.specs.Statements.{tuple_of}
use Rattle.iv_restate.proofs.rows.tuple_of.Given as goal

abbrev pub invariant-loop-value : goal.invariant-loop-value
invariant-loop-value l = l.tuple ++ tuple_of (drop l.value-index l.values) ≡ tuple_of l.values
