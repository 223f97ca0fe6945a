use Rattle.std.proofs.Common.{refl}
use Rattle.iv_syntax.proofs.TreeShapes.{both_is, either_is}
use Rattle.iv_parse_terms.proofs.make.connected_of.Goals as goal

pub returns-in-And : goal.returns-in-And
returns-in-And c = rw (c.in-And.is, both_is, c.in_ok-a.ensures.0, c.in_ok-a.ensures.1) refl

pub returns-in-Or : goal.returns-in-Or
returns-in-Or c = rw (c.in-Or.is, either_is, c.in_ok-a.ensures.0, c.in_ok-a.ensures.1) refl
