-- The trees are formed by the rules of the grammar: no operand lacks parentheses.
use Rattle.std.proofs.Common.{◌≡◌, ℕ, Bool, true, false, ◌&&◌, ◌||◌, List, ◌∷◌, Option, Some, None, refl, subst, nat_lt, option_map, pos, negsuc, suc, if◌then◌else◌}
use Rattle.std.proofs.lemmas.Bool.{and_parts}
use Rattle.iv_syntax.specs.declared.limits.TheConstants.{GREATEST_INTEGER}
use Rattle.iv_restate.specs.Types.{Value, Expr, Cond, Range, Sign, ColumnName, Expression, Condition}
use Rattle.iv_restate.specs.Types.value
use Rattle.iv_restate.specs.Types.expr
use Rattle.iv_restate.specs.Types.cond
use Rattle.iv_restate.specs.Types.sign
use Rattle.iv_restate.specs.Types.expression as tree
use Rattle.iv_restate.specs.Types.condition as test_of
use Rattle.iv_expr.specs.Trees.{plus, minus, times, not_c, and_c, or_c, exists_c}
use Rattle.iv_syntax.specs.Trees.{group, signed, product, sum, enclosed, negated, both, either, exists_where}
use Rattle.iv_parse_terms.specs.Expressions.{Formed, expression, term, factor, primary}
use Rattle.iv_parse_terms.specs.Conditions.{ConditionFormed, condition, conjunction, negation, test}
use Rattle.iv_resolution.specs.Scopes.{NamedRange}
use Rattle.iv_restate.specs.Parentheses.{is_sum, is_product, is_atom, is_zero, takes_sign, as_term, as_factor, as_conjunction, as_negation, as_test, summed, difference, multiplied, denied, all_of, one_of}
use Rattle.iv_restate.specs.Trees.{Naming, literal_of, least_integer, column_or_null, column_named, variable_named, expression_of, condition_of, not_of, null_operand, exists_of, is_always, inner_range, source_name, alias_of}

-- ---- expressions

term_formed : (e : Expression) → Formed expression e → Formed term (as_term e)
term_formed (tree.Number n) h = tt
term_formed (tree.Text t) h = tt
term_formed tree.Null h = tt
term_formed (tree.Column c) h = tt
term_formed (group a) h = h
term_formed (signed s a) h = h
term_formed (product a b) h = h
term_formed (sum s a b) h = h

factor_formed : (e : Expression) → Formed expression e → Formed factor (as_factor e)
factor_formed (tree.Number n) h = tt
factor_formed (tree.Text t) h = tt
factor_formed tree.Null h = tt
factor_formed (tree.Column c) h = tt
factor_formed (group a) h = h
factor_formed (signed s a) h = h
factor_formed (product a b) h = h
factor_formed (sum s a b) h = h

sign_operand_formed : (e : Expression) → takes_sign e ≡ true → Formed expression e → Formed primary (as_term e)
sign_operand_formed (tree.Number n) t h = tt
sign_operand_formed (tree.Text t) u h = tt
sign_operand_formed tree.Null t h = tt
sign_operand_formed (tree.Column c) t h = tt
sign_operand_formed (group a) t h = absurd (let e : false ≡ true = t in cc)
sign_operand_formed (signed s a) t h = absurd (let e : false ≡ true = t in cc)
sign_operand_formed (product a b) t h = absurd (let e : false ≡ true = t in cc)
sign_operand_formed (sum s a b) t h = h

summed_formed : (s : Sign) (a b : Expression) → Formed expression a → Formed expression b → Formed expression (summed s a b)
summed_formed s a b h i = (tt, h, term_formed b i)

difference_by : (a b : Expression) (z : Bool) → (z ≡ true → takes_sign b ≡ true) → Formed expression a → Formed expression b
    → Formed expression (if z then signed sign.Minus (as_term b) else summed sign.Minus a b)
difference_by a b true z h i = (tt, sign_operand_formed b (z refl) i)
difference_by a b false z h i = summed_formed sign.Minus a b h i

difference_formed : (a b : Expression) → Formed expression a → Formed expression b → Formed expression (difference a b)
difference_formed a b = difference_by a b (is_zero a && takes_sign b) (λ h. (and_parts (is_zero a) (takes_sign b) h).1)

multiplied_formed : (a b : Expression) → Formed expression a → Formed expression b → Formed expression (multiplied a b)
multiplied_formed a b h i = (tt, term_formed a h, factor_formed b i)

negative_formed : (n : ℕ) (b : Bool) → Formed expression (if b then signed sign.Minus (tree.Number (suc n)) else least_integer)
negative_formed n true = (tt, tt)
negative_formed n false = (tt, (tt, tt), tt)

pub literal_formed : (v : Value) → Formed expression (literal_of v)
literal_formed value.Null = tt
literal_formed (value.Int (pos n)) = tt
literal_formed (value.Int (negsuc n)) = negative_formed n (nat_lt n GREATEST_INTEGER)
literal_formed (value.Text t) = tt

column_formed : (c : Option ColumnName) → Formed expression (column_or_null c)
column_formed (Some c) = tt
column_formed None = tt

pub expression_formed : (n : Naming) (ranges : List NamedRange) (e : Expr) → Formed expression (expression_of n ranges e)
expression_formed n ranges (expr.Literal v) = literal_formed v
expression_formed n ranges (expr.Column outward place) = column_formed (column_named ranges outward place)
expression_formed n ranges (expr.Variable s place) = column_formed (variable_named n s place)
expression_formed n ranges (plus a b) = summed_formed sign.Plus (expression_of n ranges a) (expression_of n ranges b) (expression_formed n ranges a) (expression_formed n ranges b)
expression_formed n ranges (minus a b) = difference_formed (expression_of n ranges a) (expression_of n ranges b) (expression_formed n ranges a) (expression_formed n ranges b)
expression_formed n ranges (times a b) = multiplied_formed (expression_of n ranges a) (expression_of n ranges b) (expression_formed n ranges a) (expression_formed n ranges b)

-- ---- conditions

conjunction_formed : (c : Condition) → ConditionFormed condition c → ConditionFormed conjunction (as_conjunction c)
conjunction_formed (test_of.Compare o a b) h = h
conjunction_formed (test_of.IsNull a) h = h
conjunction_formed (test_of.IsNotNull a) h = h
conjunction_formed (test_of.Exists r) h = tt
conjunction_formed (exists_where r a) h = h
conjunction_formed (enclosed a) h = h
conjunction_formed (negated a) h = h
conjunction_formed (both a b) h = h
conjunction_formed (either a b) h = h

negation_formed : (c : Condition) → ConditionFormed condition c → ConditionFormed negation (as_negation c)
negation_formed (test_of.Compare o a b) h = h
negation_formed (test_of.IsNull a) h = h
negation_formed (test_of.IsNotNull a) h = h
negation_formed (test_of.Exists r) h = tt
negation_formed (exists_where r a) h = h
negation_formed (enclosed a) h = h
negation_formed (negated a) h = h
negation_formed (both a b) h = h
negation_formed (either a b) h = h

test_formed : (c : Condition) → ConditionFormed condition c → ConditionFormed test (as_test c)
test_formed (test_of.Compare o a b) h = h
test_formed (test_of.IsNull a) h = h
test_formed (test_of.IsNotNull a) h = h
test_formed (test_of.Exists r) h = tt
test_formed (exists_where r a) h = h
test_formed (enclosed a) h = h
test_formed (negated a) h = h
test_formed (both a b) h = h
test_formed (either a b) h = h

not_formed : (o : Option Expression) (c : Condition) → ((e : Expression) → o ≡ Some e → Formed expression e) → ConditionFormed condition c
    → ConditionFormed condition (not_of o c)
not_formed (Some e) c h i = h e refl
not_formed None c h i = (tt, test_formed c i)

operand_formed : (n : Naming) (ranges : List NamedRange) (o : Option Expr) (e : Expression)
    → option_map (expression_of n ranges) o ≡ Some e → Formed expression e
operand_formed n ranges (Some a) e h = subst (Formed expression) (some_is h) (expression_formed n ranges a) where
  some_is : ◌≡◌ {A = Option Expression} (Some (expression_of n ranges a)) (Some e) → expression_of n ranges a ≡ e
  some_is h = cc
operand_formed n ranges None e h = absurd (none_is h) where
  none_is : ◌≡◌ {A = Option Expression} None (Some e) → ⊥
  none_is h = cc

exists_by : (n : Naming) (ranges : List NamedRange) (o : Option (List ℕ)) (every : Bool) (c : Condition) → ConditionFormed condition c
    → ConditionFormed condition (elim o [
      | Some name ↦ if every then test_of.Exists (record { table = name; alias = Some (alias_of n ranges) })
          else exists_where (record { table = name; alias = Some (alias_of n ranges) }) c
      | None ↦ test_of.IsNull tree.Null
    ])
exists_by n ranges (Some name) true c h = tt
exists_by n ranges (Some name) false c h = h
exists_by n ranges None every c h = tt

pub condition_formed : (n : Naming) (ranges : List NamedRange) (c : Cond) → ConditionFormed condition (condition_of n ranges c)
unfolding condition_of
condition_formed n ranges cond.Always = tt
condition_formed n ranges (cond.Compare op a b) = (expression_formed n ranges a, expression_formed n ranges b)
condition_formed n ranges (cond.IsNull a) = expression_formed n ranges a
condition_formed n ranges (not_c a) = not_formed (option_map (expression_of n ranges) (null_operand a)) (condition_of n ranges a) (operand_formed n ranges (null_operand a)) (condition_formed n ranges a)
condition_formed n ranges (and_c a b) =
    (tt, conjunction_formed (condition_of n ranges a) (condition_formed n ranges a), negation_formed (condition_of n ranges b) (condition_formed n ranges b))
condition_formed n ranges (or_c a b) = (tt, condition_formed n ranges a, conjunction_formed (condition_of n ranges b) (condition_formed n ranges b))
condition_formed n ranges (exists_c r a) =
    exists_by n ranges (source_name n r) (is_always a) (condition_of n (inner_range n ranges r ∷ ranges) a) (condition_formed n (inner_range n ranges r ∷ ranges) a)
