-- The tree of an expression or a condition means just that one.
use Rattle.std.proofs.Common.{◌≡◌, ℕ, ◌≤◌, Bool, true, false, ◌&&◌, ◌||◌, ◌==◌, List, [], ◌∷◌, ◌∙◌, Option, Some, None, refl, sym, ap, find, option_map, slice_get, arith, min, pos, negsuc, if◌then◌else◌}
use Rattle.std.specs.Option.{option_or}
use Rattle.std.specs.Prelude.{unwrap_or, position}
use Rattle.std.specs.Str.{bytes_eq}
use Rattle.std.proofs.lemmas.Bool.{and_parts}
use Rattle.std.proofs.lemmas.Bool.Decides.{nat_tests}
use Rattle.iv_syntax.specs.declared.limits.TheConstants.{GREATEST_INTEGER}
use Rattle.iv_restate.specs.Types.{Value, Expr, Cond, Sign, Expression, Condition}
use Rattle.iv_restate.specs.Types.value
use Rattle.iv_restate.specs.Types.expr
use Rattle.iv_restate.specs.Types.cond
use Rattle.iv_restate.specs.Types.sign
use Rattle.iv_restate.specs.Types.expression
use Rattle.iv_restate.specs.Types.condition
use Rattle.iv_expr.specs.Trees.{plus, minus, times, not_c, and_c, or_c, exists_c}
use Rattle.iv_syntax.specs.Trees.{group, signed, product, sum, enclosed, negated, both, either}
use Rattle.iv_catalogue.proofs.TriggerNumbers.{found}
use Rattle.iv_resolution.specs.declared.origin.Origin.TheVariants.{Rows}
use Rattle.iv_resolution.specs.Scopes.{NamedColumn, NamedRange, Found, Names, column_meant, number, own_range}
use Rattle.iv_resolution.specs.Terms.{integer_of, bound_column, bound_expression, bound_condition, bound_sum}
use Rattle.iv_restate.specs.Parentheses.{is_sum, is_product, is_zero, takes_sign, is_negated, is_both, is_either, as_term, as_factor, as_conjunction, as_negation, as_test, summed, difference, multiplied, denied, all_of, one_of}
use Rattle.iv_restate.specs.Trees.{Naming, no_naming, check_range, check_of, literal_of, column_named, column_or_null, expression_of, condition_of, null_operand, not_of}
use Rattle.iv_restate.specs.Laws.{IsLiteral, IsColumn, IsOver, IsCheckOver, MeansCheck, CheckIsItself}

-- ---- parentheses mean nothing

grouped_bound : (ranges : List NamedRange) (e : Expression) (b : Bool) → bound_expression ranges (if b then group e else e) ≡ bound_expression ranges e
grouped_bound ranges e true = refl
grouped_bound ranges e false = refl

enclosed_bound : (names : Names) (ranges : List NamedRange) (c : Condition) (b : Bool)
    → bound_condition names ranges (if b then enclosed c else c) ≡ bound_condition names ranges c
unfolding bound_condition
enclosed_bound names ranges c true = refl
enclosed_bound names ranges c false = refl

-- ---- operations on expressions

summed_bound : (ranges : List NamedRange) (s : Sign) (a b : Expression)
    → bound_expression ranges (summed s a b) ≡ bound_sum s (bound_expression ranges a) (bound_expression ranges b)
summed_bound ranges s a b = ap (bound_sum s (bound_expression ranges a)) (grouped_bound ranges b (is_sum b))

zero_bound : (ranges : List NamedRange) (e : Expression) → is_zero e ≡ true → bound_expression ranges e ≡ expr.Literal (value.Int (pos 0))
unfolding integer_of
zero_bound ranges (expression.Number n) h =
    let none : n ≡ 0 = grind (arith, nat_tests) in ap (λ k. expr.Literal (value.Int (pos (min k GREATEST_INTEGER)))) none
zero_bound ranges (expression.Text t) h = absurd (let e : false ≡ true = h in cc)
zero_bound ranges expression.Null h = absurd (let e : false ≡ true = h in cc)
zero_bound ranges (expression.Column c) h = absurd (let e : false ≡ true = h in cc)
zero_bound ranges (group a) h = absurd (let e : false ≡ true = h in cc)
zero_bound ranges (signed s a) h = absurd (let e : false ≡ true = h in cc)
zero_bound ranges (product a b) h = absurd (let e : false ≡ true = h in cc)
zero_bound ranges (sum s a b) h = absurd (let e : false ≡ true = h in cc)

difference_by : (ranges : List NamedRange) (a b : Expression) (z : Bool) → (z ≡ true → is_zero a ≡ true)
    → bound_expression ranges (if z then signed sign.Minus (as_term b) else summed sign.Minus a b) ≡ minus (bound_expression ranges a) (bound_expression ranges b)
difference_by ranges a b true h =
    ap (minus (expr.Literal (value.Int (pos 0)))) (grouped_bound ranges b (is_sum b))
    ∙ ap (λ x. minus x (bound_expression ranges b)) (sym (zero_bound ranges a (h refl)))
difference_by ranges a b false h = summed_bound ranges sign.Minus a b

difference_bound : (ranges : List NamedRange) (a b : Expression)
    → bound_expression ranges (difference a b) ≡ minus (bound_expression ranges a) (bound_expression ranges b)
difference_bound ranges a b = difference_by ranges a b (is_zero a && takes_sign b) (λ h. (and_parts (is_zero a) (takes_sign b) h).0)

multiplied_bound : (ranges : List NamedRange) (a b : Expression)
    → bound_expression ranges (multiplied a b) ≡ times (bound_expression ranges a) (bound_expression ranges b)
multiplied_bound ranges a b =
    ap (λ x. times x (bound_expression ranges (as_factor b))) (grouped_bound ranges a (is_sum a))
    ∙ ap (times (bound_expression ranges a)) (grouped_bound ranges b (is_sum b || is_product b))

-- ---- expressions over a row of a table

literal_bound : (ranges : List NamedRange) (v : Value) → IsLiteral v → bound_expression ranges (literal_of v) ≡ expr.Literal v
unfolding integer_of
literal_bound ranges value.Null h = refl
literal_bound ranges (value.Text t) h = refl
literal_bound ranges (value.Int (pos n)) h =
    let same : min n GREATEST_INTEGER ≡ n = omega arith in ap (λ k. expr.Literal (value.Int (pos k))) same
literal_bound ranges (value.Int (negsuc n)) h = absurd h

column_bound : (table : List ℕ) (columns : List NamedColumn) (place : ℕ) → IsColumn columns place
    → bound_expression (own_range table columns ∷ []) (column_or_null (column_named (check_range columns ∷ []) 0 place)) ≡ expr.Column 0 place
unfolding column_meant
column_bound table columns place h =
    let same : number place ≡ place = omega (arith, h.small) in
    ap (λ o. bound_expression (own_range table columns ∷ []) (column_or_null (option_map (λ (c : NamedColumn). record { qualifier = None; name = c.name }) o))) h.at
    ∙ ap (λ o. bound_column (option_or (option_map (λ kind. record { origin = Rows; outward = 0; place = unwrap_or (option_map number (position (λ (c : NamedColumn). bytes_eq h.column.name c.name) columns)) 0; kind = kind }) (option_map (λ (c : NamedColumn). c.kind) o)) None))
    (sym (found (λ (c : NamedColumn). bytes_eq h.column.name c.name) columns place h.first) ∙ h.at)
    ∙ ap (λ o. expr.Column 0 (unwrap_or (option_map number o) 0)) h.first
    ∙ ap (expr.Column 0) same

expression_bound : (table : List ℕ) (columns : List NamedColumn) (e : Expr) → IsOver columns e
    → bound_expression (own_range table columns ∷ []) (expression_of no_naming (check_range columns ∷ []) e) ≡ e
expression_bound table columns (expr.Literal v) h = literal_bound (own_range table columns ∷ []) v h
expression_bound table columns (expr.Column outward place) (e, h) =
    ap (λ o. bound_expression (own_range table columns ∷ []) (column_or_null (column_named (check_range columns ∷ []) o place))) e
    ∙ column_bound table columns place h
    ∙ ap (λ o. expr.Column o place) (sym e)
expression_bound table columns (expr.Variable s place) h = absurd h
expression_bound table columns (plus a b) (h, i) =
    summed_bound (own_range table columns ∷ []) sign.Plus (expression_of no_naming (check_range columns ∷ []) a) (expression_of no_naming (check_range columns ∷ []) b)
    ∙ ap (λ x. plus x (bound_expression (own_range table columns ∷ []) (expression_of no_naming (check_range columns ∷ []) b))) (expression_bound table columns a h) ∙ ap (plus a) (expression_bound table columns b i)
expression_bound table columns (minus a b) (h, i) =
    difference_bound (own_range table columns ∷ []) (expression_of no_naming (check_range columns ∷ []) a) (expression_of no_naming (check_range columns ∷ []) b)
    ∙ ap (λ x. minus x (bound_expression (own_range table columns ∷ []) (expression_of no_naming (check_range columns ∷ []) b))) (expression_bound table columns a h) ∙ ap (minus a) (expression_bound table columns b i)
expression_bound table columns (times a b) (h, i) =
    multiplied_bound (own_range table columns ∷ []) (expression_of no_naming (check_range columns ∷ []) a) (expression_of no_naming (check_range columns ∷ []) b)
    ∙ ap (λ x. times x (bound_expression (own_range table columns ∷ []) (expression_of no_naming (check_range columns ∷ []) b))) (expression_bound table columns a h) ∙ ap (times a) (expression_bound table columns b i)

-- ---- operations on conditions

all_bound : (names : Names) (ranges : List NamedRange) (a b : Condition)
    → bound_condition names ranges (all_of a b) ≡ and_c (bound_condition names ranges a) (bound_condition names ranges b)
unfolding bound_condition
all_bound names ranges a b =
    ap (λ x. and_c x (bound_condition names ranges (as_negation b))) (enclosed_bound names ranges a (is_either a))
    ∙ ap (and_c (bound_condition names ranges a)) (enclosed_bound names ranges b (is_either b || is_both b))

one_bound : (names : Names) (ranges : List NamedRange) (a b : Condition)
    → bound_condition names ranges (one_of a b) ≡ or_c (bound_condition names ranges a) (bound_condition names ranges b)
unfolding bound_condition
one_bound names ranges a b = ap (or_c (bound_condition names ranges a)) (enclosed_bound names ranges b (is_either b))

denied_bound : (names : Names) (ranges : List NamedRange) (a : Condition)
    → bound_condition names ranges (denied a) ≡ not_c (bound_condition names ranges a)
unfolding bound_condition
denied_bound names ranges a = ap not_c (enclosed_bound names ranges a (is_either a || (is_both a || is_negated a)))

-- ---- conditions of CHECK

-- what a NOT means, by what its part means
not_bound : (names : Names) (table : List ℕ) (columns : List NamedColumn) (a : Cond) → IsCheckOver columns a
    → bound_condition names (own_range table columns ∷ []) (check_of columns a) ≡ a
    → bound_condition names (own_range table columns ∷ []) (check_of columns (not_c a)) ≡ not_c a
unfolding condition_of bound_condition
not_bound names table columns (cond.IsNull e) h same = ap (λ x. not_c (cond.IsNull x)) (expression_bound table columns e h)
not_bound names table columns cond.Always h same = absurd h
not_bound names table columns (cond.Compare op x y) h same =
    denied_bound names (own_range table columns ∷ []) (check_of columns (cond.Compare op x y)) ∙ ap not_c same
not_bound names table columns (not_c x) h same = denied_bound names (own_range table columns ∷ []) (check_of columns (not_c x)) ∙ ap not_c same
not_bound names table columns (and_c x y) h same = denied_bound names (own_range table columns ∷ []) (check_of columns (and_c x y)) ∙ ap not_c same
not_bound names table columns (or_c x y) h same = denied_bound names (own_range table columns ∷ []) (check_of columns (or_c x y)) ∙ ap not_c same
not_bound names table columns (exists_c r x) h same = absurd h

check_by : (names : Names) (table : List ℕ) (columns : List NamedColumn) (c : Cond) → IsCheckOver columns c
    → bound_condition names (own_range table columns ∷ []) (check_of columns c) ≡ c
unfolding condition_of bound_condition
check_by names table columns cond.Always h = absurd h
check_by names table columns (cond.Compare op a b) (h, i) =
    ap (λ x. cond.Compare op x (bound_expression (own_range table columns ∷ []) (expression_of no_naming (check_range columns ∷ []) b))) (expression_bound table columns a h)
    ∙ ap (cond.Compare op a) (expression_bound table columns b i)
check_by names table columns (cond.IsNull a) h = ap cond.IsNull (expression_bound table columns a h)
check_by names table columns (not_c a) h = not_bound names table columns a h (check_by names table columns a h)
check_by names table columns (and_c a b) (h, i) =
    all_bound names (own_range table columns ∷ []) (check_of columns a) (check_of columns b)
    ∙ ap (λ x. and_c x (bound_condition names (own_range table columns ∷ []) (check_of columns b))) (check_by names table columns a h)
    ∙ ap (and_c a) (check_by names table columns b i)
check_by names table columns (or_c a b) (h, i) =
    one_bound names (own_range table columns ∷ []) (check_of columns a) (check_of columns b)
    ∙ ap (λ x. or_c x (bound_condition names (own_range table columns ∷ []) (check_of columns b))) (check_by names table columns a h)
    ∙ ap (or_c a) (check_by names table columns b i)
check_by names table columns (exists_c r a) h = absurd h

pub check_bound : (columns : List NamedColumn) (c : Cond) → CheckIsItself columns c (check_of columns c)
check_bound columns c h names table = check_by names table columns c h
