use Rattle.std.proofs.Common.{refl}
use Rattle.iv_syntax.proofs.TreeShapes.{product_is, sum_is}
use Rattle.iv_parse_terms.proofs.make.joined_of.Goals as goal

pub returns-in-Some : goal.returns-in-Some
returns-in-Some c = rw (c.in-Some.is, sum_is, c.in_ok-a.ensures.0, c.in_ok-a.ensures.1) refl

pub returns-in-None : goal.returns-in-None
returns-in-None c = rw (c.in-None.is, product_is, c.in_ok-a.ensures.0, c.in_ok-a.ensures.1) refl
