-- What fails at the trees that code matches.
use Rattle.std.proofs.Common.{◌≡◌, refl}
use Rattle.iv_expr.specs.declared.tree.Expr.{Expr}
use Rattle.iv_expr.specs.declared.tree.Expr.TheVariants.{Plus, Minus, Times}
use Rattle.iv_expr.specs.declared.tree.Cond.{Cond}
use Rattle.iv_expr.specs.declared.tree.Cond.TheVariants.{Not, And, Or, Exists}
use Rattle.iv_expr.specs.declared.tree.Range.{Range}
use Rattle.iv_expr.specs.Evaluation.{value, truth}
use Rattle.iv_expr.specs.Scopes.{Scope, within, range_rows}
use Rattle.iv_expr.proofs.Trees.{plus_is, minus_is, times_is, not_is, and_is, or_is, exists_is}
use Rattle.iv_account.specs.declared.failure.Operator.TheVariants as operator
use Rattle.iv_account.specs.Disagreements.{first_of}
use Rattle.iv_account.specs.Failures.{condition_failure, expression_failure, if_at_fault, in_parts, nothing, out_of_range}

pub plus_failure : (s : Scope) (e a b : Expr) → e ≡ Plus a b
    → expression_failure s e ≡ in_parts (value s a) (value s b) (expression_failure s a) (expression_failure s b) (out_of_range operator.Plus)
plus_failure s e a b h = rw (h, plus_is) refl

pub minus_failure : (s : Scope) (e a b : Expr) → e ≡ Minus a b
    → expression_failure s e ≡ in_parts (value s a) (value s b) (expression_failure s a) (expression_failure s b) (out_of_range operator.Minus)
minus_failure s e a b h = rw (h, minus_is) refl

pub times_failure : (s : Scope) (e a b : Expr) → e ≡ Times a b
    → expression_failure s e ≡ in_parts (value s a) (value s b) (expression_failure s a) (expression_failure s b) (out_of_range operator.Times)
times_failure s e a b h = rw (h, times_is) refl

pub not_failure : (s : Scope) (c a : Cond) → c ≡ Not a → condition_failure s c ≡ condition_failure s a
not_failure s c a h = rw (h, not_is) refl

pub and_failure : (s : Scope) (c a b : Cond) → c ≡ And a b
    → condition_failure s c ≡ in_parts (truth s a) (truth s b) (condition_failure s a) (condition_failure s b) nothing
and_failure s c a b h = rw (h, and_is) refl

pub or_failure : (s : Scope) (c a b : Cond) → c ≡ Or a b
    → condition_failure s c ≡ in_parts (truth s a) (truth s b) (condition_failure s a) (condition_failure s b) nothing
or_failure s c a b h = rw (h, or_is) refl

pub exists_failure : (s : Scope) (c a : Cond) (r : Range) → c ≡ Exists r a
    → condition_failure s c ≡ first_of (λ row. if_at_fault (truth (within s row) a) (condition_failure (within s row) a)) (range_rows s r)
exists_failure s c a r h = rw (h, exists_is) refl
