use Rattle.std.proofs.Common.{◌≡◌, List, IfOk, subst}
use Rattle.iv_value.specs.declared.value.Value.{Value}
use Rattle.iv_exec_context.proofs.failures.hands.row_of.Goals as goal

pub returns : goal.returns
returns c =
    subst (λ (l : List Value). IfOk c.new.result (λ r. r ≡ l)) (c.in_ok-copies.ensures.items_if_clones_equal (λ x y same. same)) c.new.ensures
