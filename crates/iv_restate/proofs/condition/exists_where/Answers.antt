use Rattle.std.proofs.Common.{◌∙◌, ap}
use Rattle.iv_syntax.specs.Trees.{exists_where}
use Rattle.iv_syntax.proofs.TreeShapes.{exists_where_is}
use Rattle.iv_restate.proofs.condition.exists_where.Goals as goal

pub returns : goal.returns
returns c = exists_where_is c.args.range c.in_ok-new.field-0 ∙ ap (exists_where c.args.range) c.in_ok-new.ensures
