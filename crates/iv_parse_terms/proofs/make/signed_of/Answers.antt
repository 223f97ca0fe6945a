use Rattle.std.proofs.Common.{refl}
use Rattle.iv_syntax.proofs.TreeShapes.{signed_is}
use Rattle.iv_parse_terms.proofs.make.signed_of.Goals as goal

pub returns : goal.returns
returns c = rw (signed_is, c.in_ok-new.ensures) refl
