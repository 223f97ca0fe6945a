-- What the definitions say at the trees that code matches.
use Rattle.std.proofs.Common.{◌≡◌, refl, true, false, ◌||◌, List, ◌∷◌}
use Rattle.iv_expr.specs.declared.tree.Comparison.{Comparison}
use Rattle.iv_expr.specs.declared.tree.Cond.TheVariants as cond
use Rattle.iv_expr.specs.Trees.{times, not_c, and_c, or_c, exists_c}
use Rattle.iv_syntax.specs.declared.tree.Sign.{Sign}
use Rattle.iv_syntax.specs.declared.tree.RangeName.{RangeName}
use Rattle.iv_syntax.specs.declared.tree.Expression.{Expression}
use Rattle.iv_syntax.specs.declared.tree.Expression.TheVariants as expression
use Rattle.iv_syntax.specs.declared.tree.Condition.{Condition}
use Rattle.iv_syntax.specs.declared.tree.Condition.TheVariants as condition
use Rattle.iv_syntax.proofs.TreeShapes.{group_is, signed_is, product_is, sum_is, enclosed_is, negated_is, both_is, either_is, exists_where_is}
use Rattle.iv_resolution.specs.Scopes.{NamedRange, Names, source_range, range_of}
use Rattle.iv_resolution.specs.Terms.{is_integer, is_text, some_text, clash, misshaped_expression, misshaped_condition, has_exists, bound_sign, bound_sum, bound_expression, bound_condition}

pub is_integer_group : (ranges : List NamedRange) (e a : Expression) → e ≡ expression.Group a → is_integer ranges e ≡ (is_integer ranges a)
is_integer_group ranges e a h = rw (h, group_is) refl

pub is_integer_signed : (ranges : List NamedRange) (s : Sign) (e a : Expression) → e ≡ expression.Signed s a → is_integer ranges e ≡ (true)
is_integer_signed ranges s e a h = rw (h, signed_is) refl

pub is_integer_product : (ranges : List NamedRange) (e a b : Expression) → e ≡ expression.Product a b → is_integer ranges e ≡ (true)
is_integer_product ranges e a b h = rw (h, product_is) refl

pub is_integer_sum : (ranges : List NamedRange) (s : Sign) (e a b : Expression) → e ≡ expression.Sum s a b → is_integer ranges e ≡ (true)
is_integer_sum ranges s e a b h = rw (h, sum_is) refl

pub is_text_group : (ranges : List NamedRange) (e a : Expression) → e ≡ expression.Group a → is_text ranges e ≡ (is_text ranges a)
is_text_group ranges e a h = rw (h, group_is) refl

pub is_text_signed : (ranges : List NamedRange) (s : Sign) (e a : Expression) → e ≡ expression.Signed s a → is_text ranges e ≡ (false)
is_text_signed ranges s e a h = rw h refl

pub is_text_product : (ranges : List NamedRange) (e a b : Expression) → e ≡ expression.Product a b → is_text ranges e ≡ (false)
is_text_product ranges e a b h = rw h refl

pub is_text_sum : (ranges : List NamedRange) (s : Sign) (e a b : Expression) → e ≡ expression.Sum s a b → is_text ranges e ≡ (false)
is_text_sum ranges s e a b h = rw h refl

pub misshaped_expression_group : (ranges : List NamedRange) (e a : Expression) → e ≡ expression.Group a → misshaped_expression ranges e ≡ (misshaped_expression ranges a)
misshaped_expression_group ranges e a h = rw (h, group_is) refl

pub misshaped_expression_signed : (ranges : List NamedRange) (s : Sign) (e a : Expression) → e ≡ expression.Signed s a → misshaped_expression ranges e ≡ (is_text ranges a || misshaped_expression ranges a)
misshaped_expression_signed ranges s e a h = rw (h, signed_is) refl

pub misshaped_expression_product : (ranges : List NamedRange) (e a b : Expression) → e ≡ expression.Product a b → misshaped_expression ranges e ≡ (some_text ranges a b || (misshaped_expression ranges a || misshaped_expression ranges b))
misshaped_expression_product ranges e a b h = rw (h, product_is) refl

pub misshaped_expression_sum : (ranges : List NamedRange) (s : Sign) (e a b : Expression) → e ≡ expression.Sum s a b → misshaped_expression ranges e ≡ (some_text ranges a b || (misshaped_expression ranges a || misshaped_expression ranges b))
misshaped_expression_sum ranges s e a b h = rw (h, sum_is) refl

pub bound_expression_group : (ranges : List NamedRange) (e a : Expression) → e ≡ expression.Group a → bound_expression ranges e ≡ (bound_expression ranges a)
bound_expression_group ranges e a h = rw (h, group_is) refl

pub bound_expression_signed : (ranges : List NamedRange) (s : Sign) (e a : Expression) → e ≡ expression.Signed s a → bound_expression ranges e ≡ (bound_sign s (bound_expression ranges a))
bound_expression_signed ranges s e a h = rw (h, signed_is) refl

pub bound_expression_product : (ranges : List NamedRange) (e a b : Expression) → e ≡ expression.Product a b → bound_expression ranges e ≡ (times (bound_expression ranges a) (bound_expression ranges b))
bound_expression_product ranges e a b h = rw (h, product_is) refl

pub bound_expression_sum : (ranges : List NamedRange) (s : Sign) (e a b : Expression) → e ≡ expression.Sum s a b → bound_expression ranges e ≡ (bound_sum s (bound_expression ranges a) (bound_expression ranges b))
bound_expression_sum ranges s e a b h = rw (h, sum_is) refl

pub misshaped_condition_enclosed : (names : Names) (ranges : List NamedRange) (c : Condition) (a : Condition) → c ≡ condition.Group a → misshaped_condition names ranges c ≡ (misshaped_condition names ranges a)
unfolding misshaped_condition
misshaped_condition_enclosed names ranges c a h = rw (h, enclosed_is) refl

pub misshaped_condition_negated : (names : Names) (ranges : List NamedRange) (c : Condition) (a : Condition) → c ≡ condition.Not a → misshaped_condition names ranges c ≡ (misshaped_condition names ranges a)
unfolding misshaped_condition
misshaped_condition_negated names ranges c a h = rw (h, negated_is) refl

pub misshaped_condition_both : (names : Names) (ranges : List NamedRange) (c : Condition) (a b : Condition) → c ≡ condition.And a b → misshaped_condition names ranges c ≡ (misshaped_condition names ranges a || misshaped_condition names ranges b)
unfolding misshaped_condition
misshaped_condition_both names ranges c a b h = rw (h, both_is) refl

pub misshaped_condition_either : (names : Names) (ranges : List NamedRange) (c : Condition) (a b : Condition) → c ≡ condition.Or a b → misshaped_condition names ranges c ≡ (misshaped_condition names ranges a || misshaped_condition names ranges b)
unfolding misshaped_condition
misshaped_condition_either names ranges c a b h = rw (h, either_is) refl

pub misshaped_condition_exists_where : (names : Names) (ranges : List NamedRange) (r : RangeName) (c : Condition) (a : Condition) → c ≡ condition.ExistsWhere r a → misshaped_condition names ranges c ≡ (misshaped_condition names (range_of names r ∷ ranges) a)
unfolding misshaped_condition
misshaped_condition_exists_where names ranges r c a h = rw (h, exists_where_is) refl

pub misshaped_condition_comparison : (names : Names) (ranges : List NamedRange) (op : Comparison) (c : Condition) (a b : Expression) → c ≡ condition.Compare op a b → misshaped_condition names ranges c ≡ (clash ranges a b || (misshaped_expression ranges a || misshaped_expression ranges b))
unfolding misshaped_condition
misshaped_condition_comparison names ranges op c a b h = rw (h) refl

pub misshaped_condition_is_null : (names : Names) (ranges : List NamedRange) (c : Condition) (a : Expression) → c ≡ condition.IsNull a → misshaped_condition names ranges c ≡ (misshaped_expression ranges a)
unfolding misshaped_condition
misshaped_condition_is_null names ranges c a h = rw (h) refl

pub misshaped_condition_is_not_null : (names : Names) (ranges : List NamedRange) (c : Condition) (a : Expression) → c ≡ condition.IsNotNull a → misshaped_condition names ranges c ≡ (misshaped_expression ranges a)
unfolding misshaped_condition
misshaped_condition_is_not_null names ranges c a h = rw (h) refl

pub misshaped_condition_exists : (names : Names) (ranges : List NamedRange) (r : RangeName) (c : Condition) → c ≡ condition.Exists r → misshaped_condition names ranges c ≡ (false)
unfolding misshaped_condition
misshaped_condition_exists names ranges r c h = rw (h) refl

pub has_exists_enclosed : (c : Condition) (a : Condition) → c ≡ condition.Group a → has_exists c ≡ (has_exists a)
has_exists_enclosed c a h = rw (h, enclosed_is) refl

pub has_exists_negated : (c : Condition) (a : Condition) → c ≡ condition.Not a → has_exists c ≡ (has_exists a)
has_exists_negated c a h = rw (h, negated_is) refl

pub has_exists_both : (c : Condition) (a b : Condition) → c ≡ condition.And a b → has_exists c ≡ (has_exists a || has_exists b)
has_exists_both c a b h = rw (h, both_is) refl

pub has_exists_either : (c : Condition) (a b : Condition) → c ≡ condition.Or a b → has_exists c ≡ (has_exists a || has_exists b)
has_exists_either c a b h = rw (h, either_is) refl

pub has_exists_exists_where : (r : RangeName) (c : Condition) (a : Condition) → c ≡ condition.ExistsWhere r a → has_exists c ≡ (true)
has_exists_exists_where r c a h = rw (h, exists_where_is) refl

pub bound_condition_enclosed : (names : Names) (ranges : List NamedRange) (c : Condition) (a : Condition) → c ≡ condition.Group a → bound_condition names ranges c ≡ (bound_condition names ranges a)
unfolding bound_condition
bound_condition_enclosed names ranges c a h = rw (h, enclosed_is) refl

pub bound_condition_negated : (names : Names) (ranges : List NamedRange) (c : Condition) (a : Condition) → c ≡ condition.Not a → bound_condition names ranges c ≡ (not_c (bound_condition names ranges a))
unfolding bound_condition
bound_condition_negated names ranges c a h = rw (h, negated_is) refl

pub bound_condition_both : (names : Names) (ranges : List NamedRange) (c : Condition) (a b : Condition) → c ≡ condition.And a b → bound_condition names ranges c ≡ (and_c (bound_condition names ranges a) (bound_condition names ranges b))
unfolding bound_condition
bound_condition_both names ranges c a b h = rw (h, both_is) refl

pub bound_condition_either : (names : Names) (ranges : List NamedRange) (c : Condition) (a b : Condition) → c ≡ condition.Or a b → bound_condition names ranges c ≡ (or_c (bound_condition names ranges a) (bound_condition names ranges b))
unfolding bound_condition
bound_condition_either names ranges c a b h = rw (h, either_is) refl

pub bound_condition_exists_where : (names : Names) (ranges : List NamedRange) (r : RangeName) (c : Condition) (a : Condition) → c ≡ condition.ExistsWhere r a → bound_condition names ranges c ≡ (exists_c (source_range names r.table) (bound_condition names (range_of names r ∷ ranges) a))
unfolding bound_condition
bound_condition_exists_where names ranges r c a h = rw (h, exists_where_is) refl

pub bound_condition_comparison : (names : Names) (ranges : List NamedRange) (op : Comparison) (c : Condition) (a b : Expression) → c ≡ condition.Compare op a b → bound_condition names ranges c ≡ (cond.Compare op (bound_expression ranges a) (bound_expression ranges b))
unfolding bound_condition
bound_condition_comparison names ranges op c a b h = rw (h) refl

pub bound_condition_is_null : (names : Names) (ranges : List NamedRange) (c : Condition) (a : Expression) → c ≡ condition.IsNull a → bound_condition names ranges c ≡ (cond.IsNull (bound_expression ranges a))
unfolding bound_condition
bound_condition_is_null names ranges c a h = rw (h) refl

pub bound_condition_is_not_null : (names : Names) (ranges : List NamedRange) (c : Condition) (a : Expression) → c ≡ condition.IsNotNull a → bound_condition names ranges c ≡ (not_c (cond.IsNull (bound_expression ranges a)))
unfolding bound_condition
bound_condition_is_not_null names ranges c a h = rw (h) refl

pub bound_condition_exists : (names : Names) (ranges : List NamedRange) (r : RangeName) (c : Condition) → c ≡ condition.Exists r → bound_condition names ranges c ≡ (exists_c (source_range names r.table) cond.Always)
unfolding bound_condition
bound_condition_exists names ranges r c h = rw (h) refl

pub ruleset is_integer_steps = (is_integer_group, is_integer_signed, is_integer_product, is_integer_sum)

pub ruleset is_text_steps = (is_text_group, is_text_signed, is_text_product, is_text_sum)

pub ruleset misshaped_expression_steps = (misshaped_expression_group, misshaped_expression_signed, misshaped_expression_product, misshaped_expression_sum)

pub ruleset bound_expression_steps = (bound_expression_group, bound_expression_signed, bound_expression_product, bound_expression_sum)

pub ruleset misshaped_condition_steps = (misshaped_condition_enclosed, misshaped_condition_negated, misshaped_condition_both, misshaped_condition_either, misshaped_condition_exists_where, misshaped_condition_comparison, misshaped_condition_is_null, misshaped_condition_is_not_null, misshaped_condition_exists)

pub ruleset has_exists_steps = (has_exists_enclosed, has_exists_negated, has_exists_both, has_exists_either, has_exists_exists_where)

pub ruleset bound_condition_steps = (bound_condition_enclosed, bound_condition_negated, bound_condition_both, bound_condition_either, bound_condition_exists_where, bound_condition_comparison, bound_condition_is_null, bound_condition_is_not_null, bound_condition_exists)
