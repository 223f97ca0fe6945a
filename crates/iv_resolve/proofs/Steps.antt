-- What the definitions say at the trees that code matches.
use Rattle.std.proofs.Common.{◌≡◌, refl, ℕ, ◌+◌, ◌&&◌, arith}
use Rattle.std.specs.Prelude.{max, min}
use Rattle.iv_syntax.specs.declared.tree.Sign.{Sign}
use Rattle.iv_syntax.specs.declared.tree.RangeName.{RangeName}
use Rattle.iv_syntax.specs.declared.tree.Expression.{Expression}
use Rattle.iv_syntax.specs.declared.tree.Expression.TheVariants as expression
use Rattle.iv_syntax.specs.declared.tree.Condition.{Condition}
use Rattle.iv_syntax.specs.declared.tree.Condition.TheVariants as condition
use Rattle.iv_syntax.specs.Trees.{condition_depth, depth}
use Rattle.iv_syntax.proofs.TreeShapes.{group_is, signed_is, product_is, sum_is, enclosed_is, negated_is, both_is, either_is, exists_where_is}
use Rattle.iv_resolution.specs.Writable.{has_written_parts, has_written_terms, is_range}

pub has_written_parts_group : (e a : Expression) → e ≡ expression.Group a → has_written_parts e ≡ (has_written_parts a)
has_written_parts_group e a h = rw (h, group_is) refl

pub has_written_parts_signed : (s : Sign) (e a : Expression) → e ≡ expression.Signed s a → has_written_parts e ≡ (has_written_parts a)
has_written_parts_signed s e a h = rw (h, signed_is) refl

pub has_written_parts_product : (e a b : Expression) → e ≡ expression.Product a b → has_written_parts e ≡ (has_written_parts a && has_written_parts b)
has_written_parts_product e a b h = rw (h, product_is) refl

pub has_written_parts_sum : (s : Sign) (e a b : Expression) → e ≡ expression.Sum s a b → has_written_parts e ≡ (has_written_parts a && has_written_parts b)
has_written_parts_sum s e a b h = rw (h, sum_is) refl

pub depth_group : (e a : Expression) → e ≡ expression.Group a → depth e ≡ (1 + depth a)
depth_group e a h = rw (h, group_is) refl

pub depth_signed : (s : Sign) (e a : Expression) → e ≡ expression.Signed s a → depth e ≡ (1 + depth a)
depth_signed s e a h = rw (h, signed_is) refl

pub depth_product : (e a b : Expression) → e ≡ expression.Product a b → depth e ≡ (1 + max (depth a) (depth b))
depth_product e a b h = rw (h, product_is) refl

pub depth_sum : (s : Sign) (e a b : Expression) → e ≡ expression.Sum s a b → depth e ≡ (1 + max (depth a) (depth b))
depth_sum s e a b h = rw (h, sum_is) refl

pub has_written_terms_enclosed : (c a : Condition) → c ≡ condition.Group a → has_written_terms c ≡ (has_written_terms a)
has_written_terms_enclosed c a h = rw (h, enclosed_is) refl

pub has_written_terms_negated : (c a : Condition) → c ≡ condition.Not a → has_written_terms c ≡ (has_written_terms a)
has_written_terms_negated c a h = rw (h, negated_is) refl

pub has_written_terms_both : (c a b : Condition) → c ≡ condition.And a b → has_written_terms c ≡ (has_written_terms a && has_written_terms b)
has_written_terms_both c a b h = rw (h, both_is) refl

pub has_written_terms_either : (c a b : Condition) → c ≡ condition.Or a b → has_written_terms c ≡ (has_written_terms a && has_written_terms b)
has_written_terms_either c a b h = rw (h, either_is) refl

pub has_written_terms_exists_where : (r : RangeName) (c a : Condition) → c ≡ condition.ExistsWhere r a → has_written_terms c ≡ (is_range r && has_written_terms a)
has_written_terms_exists_where r c a h = rw (h, exists_where_is) refl

pub condition_depth_enclosed : (c a : Condition) → c ≡ condition.Group a → condition_depth c ≡ (1 + condition_depth a)
condition_depth_enclosed c a h = rw (h, enclosed_is) refl

pub condition_depth_negated : (c a : Condition) → c ≡ condition.Not a → condition_depth c ≡ (1 + condition_depth a)
condition_depth_negated c a h = rw (h, negated_is) refl

pub condition_depth_both : (c a b : Condition) → c ≡ condition.And a b → condition_depth c ≡ (1 + max (condition_depth a) (condition_depth b))
condition_depth_both c a b h = rw (h, both_is) refl

pub condition_depth_either : (c a b : Condition) → c ≡ condition.Or a b → condition_depth c ≡ (1 + max (condition_depth a) (condition_depth b))
condition_depth_either c a b h = rw (h, either_is) refl

pub condition_depth_exists_where : (r : RangeName) (c a : Condition) → c ≡ condition.ExistsWhere r a → condition_depth c ≡ (1 + condition_depth a)
condition_depth_exists_where r c a h = rw (h, exists_where_is) refl

pub ruleset has_written_parts_steps = (has_written_parts_group, has_written_parts_signed, has_written_parts_product, has_written_parts_sum)

pub ruleset depth_steps = (depth_group, depth_signed, depth_product, depth_sum)

pub ruleset has_written_terms_steps = (has_written_terms_enclosed, has_written_terms_negated, has_written_terms_both, has_written_terms_either, has_written_terms_exists_where)

pub ruleset condition_depth_steps = (condition_depth_enclosed, condition_depth_negated, condition_depth_both, condition_depth_either, condition_depth_exists_where)

-- the depth of two parts, each as far as it is counted
pub deeper : (a b : ℕ) → min (max (min a 4294967295) (min b 4294967295) + 1) 4294967295 ≡ min (1 + max a b) 4294967295
deeper a b = omega arith
