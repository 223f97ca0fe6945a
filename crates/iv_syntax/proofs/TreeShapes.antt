-- A tree that code makes or matches is the plain tree of the definitions.
use Rattle.std.proofs.Common.{◌≡◌, refl}
use Rattle.iv_syntax.specs.declared.tree.Sign.{Sign}
use Rattle.iv_syntax.specs.declared.tree.Expression.{Expression}
use Rattle.iv_syntax.specs.declared.tree.Expression.TheVariants.{Group, Signed, Product, Sum}
use Rattle.iv_syntax.specs.declared.tree.RangeName.{RangeName}
use Rattle.iv_syntax.specs.declared.tree.Condition.{Condition}
use Rattle.iv_syntax.specs.declared.tree.Condition.TheVariants as condition
use Rattle.iv_syntax.specs.Trees.{group, signed, product, sum, enclosed, negated, both, either, exists_where}

pub group_is : (a : Expression) → Group a ≡ group a
unfolding Rattle.iv_syntax.specs.declared.tree.Expression.TheBlock.shape-the_row-Expression-0 Rattle.iv_syntax.specs.declared.tree.Expression.TheBlock.hidden-the_row-Expression-0 denote.Hole.Carrier.hidden
group_is a = refl

pub signed_is : (s : Sign) (a : Expression) → Signed s a ≡ signed s a
unfolding Rattle.iv_syntax.specs.declared.tree.Expression.TheBlock.shape-the_row-Expression-0 Rattle.iv_syntax.specs.declared.tree.Expression.TheBlock.hidden-the_row-Expression-0 denote.Hole.Carrier.hidden
signed_is s a = refl

pub product_is : (a b : Expression) → Product a b ≡ product a b
unfolding Rattle.iv_syntax.specs.declared.tree.Expression.TheBlock.shape-the_row-Expression-0 Rattle.iv_syntax.specs.declared.tree.Expression.TheBlock.hidden-the_row-Expression-0 denote.Hole.Carrier.hidden
product_is a b = refl

pub sum_is : (s : Sign) (a b : Expression) → Sum s a b ≡ sum s a b
unfolding Rattle.iv_syntax.specs.declared.tree.Expression.TheBlock.shape-the_row-Expression-0 Rattle.iv_syntax.specs.declared.tree.Expression.TheBlock.hidden-the_row-Expression-0 denote.Hole.Carrier.hidden
sum_is s a b = refl

pub enclosed_is : (a : Condition) → condition.Group a ≡ enclosed a
unfolding Rattle.iv_syntax.specs.declared.tree.Condition.TheBlock.shape-the_row-Condition-0 Rattle.iv_syntax.specs.declared.tree.Condition.TheBlock.hidden-the_row-Condition-0 denote.Hole.Carrier.hidden
enclosed_is a = refl

pub negated_is : (a : Condition) → condition.Not a ≡ negated a
unfolding Rattle.iv_syntax.specs.declared.tree.Condition.TheBlock.shape-the_row-Condition-0 Rattle.iv_syntax.specs.declared.tree.Condition.TheBlock.hidden-the_row-Condition-0 denote.Hole.Carrier.hidden
negated_is a = refl

pub both_is : (a b : Condition) → condition.And a b ≡ both a b
unfolding Rattle.iv_syntax.specs.declared.tree.Condition.TheBlock.shape-the_row-Condition-0 Rattle.iv_syntax.specs.declared.tree.Condition.TheBlock.hidden-the_row-Condition-0 denote.Hole.Carrier.hidden
both_is a b = refl

pub either_is : (a b : Condition) → condition.Or a b ≡ either a b
unfolding Rattle.iv_syntax.specs.declared.tree.Condition.TheBlock.shape-the_row-Condition-0 Rattle.iv_syntax.specs.declared.tree.Condition.TheBlock.hidden-the_row-Condition-0 denote.Hole.Carrier.hidden
either_is a b = refl

pub exists_where_is : (r : RangeName) (a : Condition) → condition.ExistsWhere r a ≡ exists_where r a
unfolding Rattle.iv_syntax.specs.declared.tree.Condition.TheBlock.shape-the_row-Condition-0 Rattle.iv_syntax.specs.declared.tree.Condition.TheBlock.hidden-the_row-Condition-0 denote.Hole.Carrier.hidden
exists_where_is r a = refl
