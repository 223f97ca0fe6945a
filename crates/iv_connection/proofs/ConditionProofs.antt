-- The text of a CHECK means just that CHECK.
use Rattle.std.proofs.Common.{◌≡◌, ℕ, List, subst, sym}
use Rattle.iv_dump.specs.Laws.{ChecksCanBeWritten}
use Rattle.iv_expr.specs.declared.tree.Cond.{Cond}
use Rattle.iv_resolution.specs.Scopes.{NamedColumn}
use Rattle.iv_restate.specs.Laws.{CheckIsItself, MeansCheck}
use Rattle.iv_restate.specs.Trees.{check_of}
use Rattle.iv_syntax.specs.declared.tree.Condition.{Condition}
use Rattle.iv_write.specs.Says.{ConditionCanBeWritten, SaysCondition}
use Rattle.iv_connection.specs.Conditions.{SaysCheck}

-- by what is known of its tree, and of the text of a tree
pub says_check : (columns : List NamedColumn) (c : Cond) (tree : Condition) (text : List ℕ) → ChecksCanBeWritten → tree ≡ check_of columns c → CheckIsItself columns c tree
    → (ConditionCanBeWritten tree → SaysCondition text tree) → SaysCheck columns c text
says_check columns c tree text written e itself says =
    λ over names shallow. (
      subst (λ t. SaysCondition text t) e (says (subst (λ t. ConditionCanBeWritten t) (sym e) (written columns c over names shallow))),
      subst (λ t. MeansCheck columns c t) e (itself over),
    )
