use Rattle.std.proofs.Common.{refl}
use Rattle.iv_syntax.proofs.TreeShapes.{exists_where_is}
use Rattle.iv_parse_terms.proofs.make.exists_where_of.Goals as goal

pub returns : goal.returns
returns c = rw (exists_where_is, c.in_ok-new.ensures) refl
