-- The types that the definitions here share, and their variants.
pub use Rattle.iv_expr.specs.declared.tree.Comparison.{Comparison}
pub use Rattle.iv_expr.specs.declared.tree.Comparison.TheVariants as comparison
pub use Rattle.iv_syntax.specs.declared.tree.Condition.{Condition}
pub use Rattle.iv_syntax.specs.declared.tree.Condition.TheVariants as condition
pub use Rattle.iv_syntax.specs.declared.tree.Expression.{Expression}
pub use Rattle.iv_syntax.specs.declared.tree.Expression.TheVariants as expression
pub use Rattle.iv_syntax.specs.declared.tree.RangeName.{RangeName}
pub use Rattle.iv_syntax.specs.declared.tree.Sign.{Sign}
pub use Rattle.iv_syntax.specs.declared.tree.Sign.TheVariants as sign
