-- The expression that a value is has that value.
use Rattle.std.proofs.Common.{◌≡◌, ℕ, suc, ◌≤◌, Bool, true, false, ◌&&◌, List, ◌∙◌, Some, None, Ok, refl, sym, ap, subst, arith, min, pos, negsuc, nat_lt, nat_le, if◌then◌else◌}
use Rattle.std.specs.Prelude.{◌-ℤ◌}
use Rattle.std.proofs.lemmas.Bool.Decides.{nat_tests}
use Rattle.iv_syntax.specs.declared.limits.TheConstants.{GREATEST_INTEGER}
use Rattle.iv_restate.specs.Types.{Value, Expression}
use Rattle.iv_restate.specs.Types.value as variant
use Rattle.iv_restate.specs.Types.sign
use Rattle.iv_restate.specs.Types.expression
use Rattle.iv_syntax.specs.Trees.{signed}
use Rattle.iv_value.specs.Values.{checked}
use Rattle.iv_expr.specs.Evaluation as evaluation
use Rattle.iv_expr.specs.Scopes.{Scope}
use Rattle.iv_resolution.specs.Scopes.{NamedRange}
use Rattle.iv_resolution.specs.Terms.{integer_of, bound_expression}
use Rattle.iv_restate.specs.Trees.{literal_of, least_integer}
use Rattle.iv_restate.proofs.WrittenTables.{zero_minus}
use Rattle.iv_restate.specs.Laws.{IsStored, LiteralsAreThemselves}

in_range : (n : ℕ) → n ≤ GREATEST_INTEGER → evaluation.number_of (checked (negsuc n)) ≡ Ok (variant.Int (negsuc n))
in_range n h =
    let small : nat_le n 9223372036854775807 ≡ true = grind (arith, nat_tests) in
    ap (λ b. evaluation.number_of (if b && true then Some (negsuc n) else None)) small

negative_value : (s : Scope) (ranges : List NamedRange) (n : ℕ) (b : Bool) → nat_lt n GREATEST_INTEGER ≡ b → n ≤ GREATEST_INTEGER
    → evaluation.value s (bound_expression ranges (if b then signed sign.Minus (expression.Number (suc n)) else least_integer)) ≡ Ok (variant.Int (negsuc n))
unfolding integer_of
negative_value s ranges n true h l =
    let same : min (suc n) GREATEST_INTEGER ≡ suc n = grind (arith, nat_tests) in
    ap (λ k. evaluation.number_of (checked (pos 0 -ℤ pos k))) same ∙ ap (λ z. evaluation.number_of (checked z)) (zero_minus n) ∙ in_range n l
negative_value s ranges n false h l =
    let last : n ≡ GREATEST_INTEGER = grind (arith, nat_tests) in
    ap (λ k. Ok (variant.Int (negsuc k))) (sym last)

pub literal_value : LiteralsAreThemselves
unfolding integer_of
literal_value s ranges variant.Null h = refl
literal_value s ranges (variant.Text t) h = refl
literal_value s ranges (variant.Int (pos n)) h = let same : min n GREATEST_INTEGER ≡ n = omega arith in ap (λ k. Ok (variant.Int (pos k))) same
literal_value s ranges (variant.Int (negsuc n)) h = negative_value s ranges n (nat_lt n GREATEST_INTEGER) refl h
