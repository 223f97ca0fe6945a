-- The trees of expressions and conditions as patterns and as terms, without the shape of a box, and their depth.
use Rattle.std.specs.Prelude.{ℕ, ◌+◌, max}
use Rattle.iv_expr.specs.declared.tree.Comparison.{Comparison}
use Rattle.iv_syntax.specs.declared.tree.Sign.{Sign}
use Rattle.iv_syntax.specs.declared.tree.RangeName.{RangeName}
use Rattle.iv_syntax.specs.declared.tree.Expression.{Expression, more_of-Expression, end_of-Expression}
use Rattle.iv_syntax.specs.declared.tree.Expression.TheVariants.{Group', Signed', Product', Sum'}
use Rattle.iv_syntax.specs.declared.tree.Condition.{Condition, more_of-Condition, end_of-Condition}
use Rattle.iv_syntax.specs.declared.tree.Condition.TheVariants as condition

-- an expression in parentheses
pattern abbrev pub group : Expression → Expression
group a = Group' tt (more_of-Expression a end_of-Expression)

-- a sign before an operand
pattern abbrev pub signed : Sign → Expression → Expression
signed s a = Signed' s tt (more_of-Expression a end_of-Expression)

pattern abbrev pub product : Expression → Expression → Expression
product a b = Product' tt (more_of-Expression a end_of-Expression) tt (more_of-Expression b end_of-Expression)

-- a sum, or a difference
pattern abbrev pub sum : Sign → Expression → Expression → Expression
sum s a b = Sum' s tt (more_of-Expression a end_of-Expression) tt (more_of-Expression b end_of-Expression)

-- a condition in parentheses
pattern abbrev pub enclosed : Condition → Condition
enclosed a = condition.Group' tt (more_of-Condition a end_of-Condition)

-- NOT a
pattern abbrev pub negated : Condition → Condition
negated a = condition.Not' tt (more_of-Condition a end_of-Condition)

-- a AND b
pattern abbrev pub both : Condition → Condition → Condition
both a b = condition.And' tt (more_of-Condition a end_of-Condition) tt (more_of-Condition b end_of-Condition)

-- a OR b
pattern abbrev pub either : Condition → Condition → Condition
either a b = condition.Or' tt (more_of-Condition a end_of-Condition) tt (more_of-Condition b end_of-Condition)

-- EXISTS (SELECT * FROM r WHERE a)
pattern abbrev pub exists_where : RangeName → Condition → Condition
exists_where r a = condition.ExistsWhere' r tt (more_of-Condition a end_of-Condition)

-- A number, a text, NULL and a column have the depth 1; every operator and pair of parentheses has one more than its deepest part.
abbrev pub depth : Expression → ℕ
depth (group a) = 1 + depth a
depth (signed s a) = 1 + depth a
depth (product a b) = 1 + max (depth a) (depth b)
depth (sum s a b) = 1 + max (depth a) (depth b)
depth _ = 1

-- Each predicate, NOT, AND, OR and pair of parentheses has one more than the deepest part. EXISTS has one more than its condition,
-- and 1 without one: its own parentheses and its SELECT don't count. IS NOT NULL is one predicate.
abbrev pub condition_depth : Condition → ℕ
condition_depth (condition.Compare o a b) = 1 + max (depth a) (depth b)
condition_depth (condition.IsNull a) = 1 + depth a
condition_depth (condition.IsNotNull a) = 1 + depth a
condition_depth (condition.Exists r) = 1
condition_depth (exists_where r a) = 1 + condition_depth a
condition_depth (enclosed a) = 1 + condition_depth a
condition_depth (negated a) = 1 + condition_depth a
condition_depth (both a b) = 1 + max (condition_depth a) (condition_depth b)
condition_depth (either a b) = 1 + max (condition_depth a) (condition_depth b)
