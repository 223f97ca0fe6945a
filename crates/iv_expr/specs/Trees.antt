-- This file defines how the trees of expressions and conditions are written in definitions: as patterns and as terms,
-- without the shape of the box that a part is in.
use Rattle.iv_expr.specs.Types.{Range}
use Rattle.iv_expr.specs.Types.expr.{Plus', Minus', Times'}
use Rattle.iv_expr.specs.Types.cond.{Not', And', Or', Exists'}
use Rattle.iv_expr.specs.declared.tree.Expr.{Expr, more_of-Expr, end_of-Expr}
use Rattle.iv_expr.specs.declared.tree.Cond.{Cond, more_of-Cond, end_of-Cond}

-- The sum a + b.
pattern abbrev pub plus : Expr → Expr → Expr
plus a b = Plus' tt (more_of-Expr a end_of-Expr) tt (more_of-Expr b end_of-Expr)

-- The difference a - b.
pattern abbrev pub minus : Expr → Expr → Expr
minus a b = Minus' tt (more_of-Expr a end_of-Expr) tt (more_of-Expr b end_of-Expr)

-- The product a * b.
pattern abbrev pub times : Expr → Expr → Expr
times a b = Times' tt (more_of-Expr a end_of-Expr) tt (more_of-Expr b end_of-Expr)

-- NOT a.
pattern abbrev pub not_c : Cond → Cond
not_c a = Not' tt (more_of-Cond a end_of-Cond)

-- a AND b.
pattern abbrev pub and_c : Cond → Cond → Cond
and_c a b = And' tt (more_of-Cond a end_of-Cond) tt (more_of-Cond b end_of-Cond)

-- a OR b.
pattern abbrev pub or_c : Cond → Cond → Cond
or_c a b = Or' tt (more_of-Cond a end_of-Cond) tt (more_of-Cond b end_of-Cond)

-- EXISTS (SELECT * FROM r WHERE a).
pattern abbrev pub exists_c : Range → Cond → Cond
exists_c r a = Exists' r tt (more_of-Cond a end_of-Cond)
