-- A tree that code makes or matches is the plain tree of the definitions.
use Rattle.std.proofs.Common.{◌≡◌, refl}
use Rattle.iv_expr.specs.Types.{Range, Expr, Cond}
use Rattle.iv_expr.specs.Types.expr.{Plus, Minus, Times}
use Rattle.iv_expr.specs.Types.cond.{Not, And, Or, Exists}
use Rattle.iv_expr.specs.Trees.{plus, minus, times, not_c, and_c, or_c, exists_c}

pub plus_is : (a b : Expr) → Plus a b ≡ plus a b
unfolding Rattle.iv_expr.specs.declared.tree.Expr.TheBlock.shape-the_row-Expr-0 Rattle.iv_expr.specs.declared.tree.Expr.TheBlock.hidden-the_row-Expr-0 denote.Hole.Carrier.hidden
plus_is a b = refl

pub minus_is : (a b : Expr) → Minus a b ≡ minus a b
unfolding Rattle.iv_expr.specs.declared.tree.Expr.TheBlock.shape-the_row-Expr-0 Rattle.iv_expr.specs.declared.tree.Expr.TheBlock.hidden-the_row-Expr-0 denote.Hole.Carrier.hidden
minus_is a b = refl

pub times_is : (a b : Expr) → Times a b ≡ times a b
unfolding Rattle.iv_expr.specs.declared.tree.Expr.TheBlock.shape-the_row-Expr-0 Rattle.iv_expr.specs.declared.tree.Expr.TheBlock.hidden-the_row-Expr-0 denote.Hole.Carrier.hidden
times_is a b = refl

pub not_is : (a : Cond) → Not a ≡ not_c a
unfolding Rattle.iv_expr.specs.declared.tree.Cond.TheBlock.shape-the_row-Cond-0 Rattle.iv_expr.specs.declared.tree.Cond.TheBlock.hidden-the_row-Cond-0 denote.Hole.Carrier.hidden
not_is a = refl

pub and_is : (a b : Cond) → And a b ≡ and_c a b
unfolding Rattle.iv_expr.specs.declared.tree.Cond.TheBlock.shape-the_row-Cond-0 Rattle.iv_expr.specs.declared.tree.Cond.TheBlock.hidden-the_row-Cond-0 denote.Hole.Carrier.hidden
and_is a b = refl

pub or_is : (a b : Cond) → Or a b ≡ or_c a b
unfolding Rattle.iv_expr.specs.declared.tree.Cond.TheBlock.shape-the_row-Cond-0 Rattle.iv_expr.specs.declared.tree.Cond.TheBlock.hidden-the_row-Cond-0 denote.Hole.Carrier.hidden
or_is a b = refl

pub exists_is : (r : Range) (a : Cond) → Exists r a ≡ exists_c r a
unfolding Rattle.iv_expr.specs.declared.tree.Cond.TheBlock.shape-the_row-Cond-0 Rattle.iv_expr.specs.declared.tree.Cond.TheBlock.hidden-the_row-Cond-0 denote.Hole.Carrier.hidden
exists_is r a = refl

pub ruleset trees = (plus_is, minus_is, times_is, not_is, and_is, or_is, exists_is)
