-- What the definitions say at the trees that code matches.
use Rattle.std.proofs.Common.{◌≡◌, ◌∙◌, refl, sym, ap, true, false, Bool, List, ◌∷◌, Some, None, option_map, Result, Ok, Err, IfOk}
use Rattle.std.specs.declared.alloc.AllocError.{AllocError}
use Rattle.iv_expr.specs.declared.tree.Expr.{Expr}
use Rattle.iv_expr.specs.declared.tree.Expr.TheVariants as expr
use Rattle.iv_expr.specs.declared.tree.Cond.{Cond}
use Rattle.iv_expr.specs.declared.tree.Cond.TheVariants as cond
use Rattle.iv_expr.specs.declared.tree.Comparison.{Comparison}
use Rattle.iv_expr.specs.declared.tree.Range.{Range}
use Rattle.iv_expr.proofs.Trees.{plus_is, minus_is, times_is, not_is, and_is, or_is, exists_is}
use Rattle.iv_syntax.specs.declared.tree.Sign.{Sign}
use Rattle.iv_syntax.specs.declared.tree.Sign.TheVariants as sign
use Rattle.iv_syntax.specs.declared.tree.RangeName.{RangeName}
use Rattle.iv_syntax.specs.declared.tree.Expression.{Expression}
use Rattle.iv_syntax.specs.declared.tree.Expression.TheVariants as expression
use Rattle.iv_syntax.specs.declared.tree.Condition.{Condition}
use Rattle.iv_syntax.specs.declared.tree.Condition.TheVariants as condition
use Rattle.iv_syntax.proofs.TreeShapes.{group_is, signed_is, product_is, sum_is, enclosed_is, negated_is, both_is, either_is, exists_where_is}
use Rattle.iv_resolution.specs.Scopes.{NamedRange}
use Rattle.iv_restate.specs.Parentheses.{is_sum, is_product, is_atom, is_zero, is_negated, is_both, is_either, summed, difference, multiplied, all_of, one_of}
use Rattle.iv_restate.specs.Trees.{Naming, expression_of, condition_of, not_of, exists_of, inner_range, is_always, null_operand, true_condition}

pub is_sum_group : (e a : Expression) → e ≡ expression.Group a → is_sum e ≡ false
is_sum_group e a h = rw h refl

pub is_sum_signed : (s : Sign) (e a : Expression) → e ≡ expression.Signed s a → is_sum e ≡ false
is_sum_signed s e a h = rw h refl

pub is_sum_product : (e a b : Expression) → e ≡ expression.Product a b → is_sum e ≡ false
is_sum_product e a b h = rw h refl

pub is_sum_sum : (s : Sign) (e a b : Expression) → e ≡ expression.Sum s a b → is_sum e ≡ true
is_sum_sum s e a b h = rw (h, sum_is) refl

pub is_product_group : (e a : Expression) → e ≡ expression.Group a → is_product e ≡ false
is_product_group e a h = rw h refl

pub is_product_signed : (s : Sign) (e a : Expression) → e ≡ expression.Signed s a → is_product e ≡ false
is_product_signed s e a h = rw h refl

pub is_product_product : (e a b : Expression) → e ≡ expression.Product a b → is_product e ≡ true
is_product_product e a b h = rw (h, product_is) refl

pub is_product_sum : (s : Sign) (e a b : Expression) → e ≡ expression.Sum s a b → is_product e ≡ false
is_product_sum s e a b h = rw h refl

pub is_atom_group : (e a : Expression) → e ≡ expression.Group a → is_atom e ≡ false
is_atom_group e a h = rw h refl

pub is_atom_signed : (s : Sign) (e a : Expression) → e ≡ expression.Signed s a → is_atom e ≡ false
is_atom_signed s e a h = rw h refl

pub is_atom_product : (e a b : Expression) → e ≡ expression.Product a b → is_atom e ≡ false
is_atom_product e a b h = rw h refl

pub is_atom_sum : (s : Sign) (e a b : Expression) → e ≡ expression.Sum s a b → is_atom e ≡ false
is_atom_sum s e a b h = rw h refl

pub is_zero_group : (e a : Expression) → e ≡ expression.Group a → is_zero e ≡ false
is_zero_group e a h = rw h refl

pub is_zero_signed : (s : Sign) (e a : Expression) → e ≡ expression.Signed s a → is_zero e ≡ false
is_zero_signed s e a h = rw h refl

pub is_zero_product : (e a b : Expression) → e ≡ expression.Product a b → is_zero e ≡ false
is_zero_product e a b h = rw h refl

pub is_zero_sum : (s : Sign) (e a b : Expression) → e ≡ expression.Sum s a b → is_zero e ≡ false
is_zero_sum s e a b h = rw h refl

pub is_negated_exists_where : (r : RangeName) (c a : Condition) → c ≡ condition.ExistsWhere r a → is_negated c ≡ false
is_negated_exists_where r c a h = rw h refl

pub is_negated_enclosed : (c a : Condition) → c ≡ condition.Group a → is_negated c ≡ false
is_negated_enclosed c a h = rw h refl

pub is_negated_negated : (c a : Condition) → c ≡ condition.Not a → is_negated c ≡ true
is_negated_negated c a h = rw (h, negated_is) refl

pub is_negated_both : (c a b : Condition) → c ≡ condition.And a b → is_negated c ≡ false
is_negated_both c a b h = rw h refl

pub is_negated_either : (c a b : Condition) → c ≡ condition.Or a b → is_negated c ≡ false
is_negated_either c a b h = rw h refl

pub is_both_exists_where : (r : RangeName) (c a : Condition) → c ≡ condition.ExistsWhere r a → is_both c ≡ false
is_both_exists_where r c a h = rw h refl

pub is_both_enclosed : (c a : Condition) → c ≡ condition.Group a → is_both c ≡ false
is_both_enclosed c a h = rw h refl

pub is_both_negated : (c a : Condition) → c ≡ condition.Not a → is_both c ≡ false
is_both_negated c a h = rw h refl

pub is_both_both : (c a b : Condition) → c ≡ condition.And a b → is_both c ≡ true
is_both_both c a b h = rw (h, both_is) refl

pub is_both_either : (c a b : Condition) → c ≡ condition.Or a b → is_both c ≡ false
is_both_either c a b h = rw h refl

pub is_either_exists_where : (r : RangeName) (c a : Condition) → c ≡ condition.ExistsWhere r a → is_either c ≡ false
is_either_exists_where r c a h = rw h refl

pub is_either_enclosed : (c a : Condition) → c ≡ condition.Group a → is_either c ≡ false
is_either_enclosed c a h = rw h refl

pub is_either_negated : (c a : Condition) → c ≡ condition.Not a → is_either c ≡ false
is_either_negated c a h = rw h refl

pub is_either_both : (c a b : Condition) → c ≡ condition.And a b → is_either c ≡ false
is_either_both c a b h = rw h refl

pub is_either_either : (c a b : Condition) → c ≡ condition.Or a b → is_either c ≡ true
is_either_either c a b h = rw (h, either_is) refl

pub expression_of_plus : (n : Naming) (ranges : List NamedRange) (e a b : Expr) → e ≡ expr.Plus a b
    → expression_of n ranges e ≡ summed sign.Plus (expression_of n ranges a) (expression_of n ranges b)
expression_of_plus n ranges e a b h = rw (h, plus_is) refl

pub expression_of_minus : (n : Naming) (ranges : List NamedRange) (e a b : Expr) → e ≡ expr.Minus a b
    → expression_of n ranges e ≡ difference (expression_of n ranges a) (expression_of n ranges b)
expression_of_minus n ranges e a b h = rw (h, minus_is) refl

pub expression_of_times : (n : Naming) (ranges : List NamedRange) (e a b : Expr) → e ≡ expr.Times a b
    → expression_of n ranges e ≡ multiplied (expression_of n ranges a) (expression_of n ranges b)
expression_of_times n ranges e a b h = rw (h, times_is) refl

pub condition_of_always : (n : Naming) (ranges : List NamedRange) (c : Cond) → c ≡ cond.Always → condition_of n ranges c ≡ true_condition
unfolding condition_of
condition_of_always n ranges c h = rw h refl

pub condition_of_compare : (n : Naming) (ranges : List NamedRange) (op : Comparison) (c : Cond) (a b : Expr) → c ≡ cond.Compare op a b
    → condition_of n ranges c ≡ condition.Compare op (expression_of n ranges a) (expression_of n ranges b)
unfolding condition_of
condition_of_compare n ranges op c a b h = rw h refl

pub condition_of_null : (n : Naming) (ranges : List NamedRange) (c : Cond) (a : Expr) → c ≡ cond.IsNull a
    → condition_of n ranges c ≡ condition.IsNull (expression_of n ranges a)
unfolding condition_of
condition_of_null n ranges c a h = rw h refl

pub condition_of_not : (n : Naming) (ranges : List NamedRange) (c a : Cond) → c ≡ cond.Not a
    → condition_of n ranges c ≡ not_of (option_map (expression_of n ranges) (null_operand a)) (condition_of n ranges a)
unfolding condition_of
condition_of_not n ranges c a h = rw (h, not_is) refl

pub condition_of_and : (n : Naming) (ranges : List NamedRange) (c a b : Cond) → c ≡ cond.And a b
    → condition_of n ranges c ≡ all_of (condition_of n ranges a) (condition_of n ranges b)
unfolding condition_of
condition_of_and n ranges c a b h = rw (h, and_is) refl

pub condition_of_or : (n : Naming) (ranges : List NamedRange) (c a b : Cond) → c ≡ cond.Or a b
    → condition_of n ranges c ≡ one_of (condition_of n ranges a) (condition_of n ranges b)
unfolding condition_of
condition_of_or n ranges c a b h = rw (h, or_is) refl

pub condition_of_exists : (n : Naming) (ranges : List NamedRange) (r : Range) (c a : Cond) → c ≡ cond.Exists r a
    → condition_of n ranges c ≡ exists_of n ranges r (is_always a) (condition_of n (inner_range n ranges r ∷ ranges) a)
unfolding condition_of
condition_of_exists n ranges r c a h = rw (h, exists_is) refl

-- EXISTS over a part that was taken out of its box
pub exists_written : (n : Naming) (ranges : List NamedRange) (r : Range) (c a b : Cond) (result : Result Condition AllocError) → c ≡ cond.Exists r a → b ≡ a
    → IfOk result (λ x. x ≡ exists_of n ranges r (is_always b) (condition_of n (inner_range n ranges r ∷ ranges) b))
    → IfOk result (λ x. x ≡ condition_of n ranges c)
exists_written n ranges r c a b (Ok x) h e same =
    same ∙ ap (λ z. exists_of n ranges r (is_always z) (condition_of n (inner_range n ranges r ∷ ranges) z)) e ∙ sym (condition_of_exists n ranges r c a h)
exists_written n ranges r c a b (Err x) h e same = same

pub ruleset is_sum_steps = (is_sum_group, is_sum_signed, is_sum_product, is_sum_sum)

pub ruleset is_product_steps = (is_product_group, is_product_signed, is_product_product, is_product_sum)

pub ruleset is_atom_steps = (is_atom_group, is_atom_signed, is_atom_product, is_atom_sum)

pub ruleset is_zero_steps = (is_zero_group, is_zero_signed, is_zero_product, is_zero_sum)

pub ruleset is_negated_steps = (is_negated_exists_where, is_negated_enclosed, is_negated_negated, is_negated_both, is_negated_either)

pub ruleset is_both_steps = (is_both_exists_where, is_both_enclosed, is_both_negated, is_both_both, is_both_either)

pub ruleset is_either_steps = (is_either_exists_where, is_either_enclosed, is_either_negated, is_either_both, is_either_either)

pub ruleset expression_of_steps = (expression_of_plus, expression_of_minus, expression_of_times)

pub ruleset condition_of_steps = (condition_of_always, condition_of_compare, condition_of_null, condition_of_not, condition_of_and, condition_of_or, condition_of_exists)
