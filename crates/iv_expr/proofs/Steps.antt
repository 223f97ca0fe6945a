-- Values and truths at the trees that code matches.
use Rattle.std.proofs.Common.{◌≡◌, refl, ◌+ℤ◌, ◌-ℤ◌, ◌*ℤ◌, ◌&&◌, List, Ok, map}
use Rattle.iv_expr.specs.Types.{Kind, Expr, Range, Cond}
use Rattle.iv_expr.specs.Types.expr.{Plus, Minus, Times}
use Rattle.iv_expr.specs.Types.cond.{Not, And, Or, Exists}
use Rattle.iv_value.specs.Truths.{truth_not, truth_and, truth_or}
use Rattle.iv_expr.specs.Evaluation.{value, truth, both, and_then, any_true, arithmetic}
use Rattle.iv_expr.specs.Scopes.{Scope, within, range_rows}
use Rattle.iv_expr.specs.Asking.{is_fixed}
use Rattle.iv_expr.proofs.Trees.{plus_is, minus_is, times_is, not_is, and_is, or_is, exists_is}

pub value_plus : (s : Scope) (e a b : Expr) → e ≡ Plus a b → value s e ≡ both (arithmetic ◌+ℤ◌) (value s a) (value s b)
value_plus s e a b h = rw (h, plus_is) refl

pub value_minus : (s : Scope) (e a b : Expr) → e ≡ Minus a b → value s e ≡ both (arithmetic ◌-ℤ◌) (value s a) (value s b)
value_minus s e a b h = rw (h, minus_is) refl

pub value_times : (s : Scope) (e a b : Expr) → e ≡ Times a b → value s e ≡ both (arithmetic ◌*ℤ◌) (value s a) (value s b)
value_times s e a b h = rw (h, times_is) refl

pub truth_not_at : (s : Scope) (c a : Cond) → c ≡ Not a → truth s c ≡ and_then (truth s a) (λ t. Ok (truth_not t))
truth_not_at s c a h = rw (h, not_is) refl

pub truth_and_at : (s : Scope) (c a b : Cond) → c ≡ And a b → truth s c ≡ both (λ x y. Ok (truth_and x y)) (truth s a) (truth s b)
truth_and_at s c a b h = rw (h, and_is) refl

pub truth_or_at : (s : Scope) (c a b : Cond) → c ≡ Or a b → truth s c ≡ both (λ x y. Ok (truth_or x y)) (truth s a) (truth s b)
truth_or_at s c a b h = rw (h, or_is) refl

pub truth_exists_at : (s : Scope) (c a : Cond) (r : Range) → c ≡ Exists r a → truth s c ≡ any_true (map (λ row. truth (within s row) a) (range_rows s r))
truth_exists_at s c a r h = rw (h, exists_is) refl

-- ---- what can be refused

pub fixed_plus : (kindss : List (List Kind)) (e a b : Expr) → e ≡ Plus a b → is_fixed kindss e ≡ (is_fixed kindss a && is_fixed kindss b)
fixed_plus kindss e a b h = rw (h, plus_is) refl

pub fixed_minus : (kindss : List (List Kind)) (e a b : Expr) → e ≡ Minus a b → is_fixed kindss e ≡ (is_fixed kindss a && is_fixed kindss b)
fixed_minus kindss e a b h = rw (h, minus_is) refl

pub fixed_times : (kindss : List (List Kind)) (e a b : Expr) → e ≡ Times a b → is_fixed kindss e ≡ (is_fixed kindss a && is_fixed kindss b)
fixed_times kindss e a b h = rw (h, times_is) refl
