use Rattle.std.proofs.Common.{◌∙◌, ap}
use Rattle.iv_expr.specs.Trees.{exists_c}
use Rattle.iv_expr.proofs.Trees.{exists_is}
use Rattle.iv_resolve_scope.proofs.binding.exists.Goals as goal

pub returns : goal.returns
returns c = exists_is c.args.range c.in_ok-new.field-0 ∙ ap (exists_c c.args.range) c.in_ok-new.ensures
