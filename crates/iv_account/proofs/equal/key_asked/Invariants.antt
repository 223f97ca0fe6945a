use Rattle.std.proofs.Common.{◌≡◌, true, List}
use Rattle.iv_value.specs.declared.value.Value.{Value}
use Rattle.iv_key.specs.Keys.{key_of}
use Rattle.iv_expr.specs.Searches.{has_all}
use Rattle.iv_account.proofs.equal.key_asked.Given as goal

abbrev pub invariant-loop-column : goal.invariant-loop-column
invariant-loop-column l = (other : List Value) → key_of l.columns other ≡ key_of l.columns l.row → has_all l.asked.items other ≡ true
