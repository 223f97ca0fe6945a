use Rattle.std.proofs.Common.{◌∙◌, ap}
use Rattle.iv_syntax.specs.Trees.{signed}
use Rattle.iv_syntax.proofs.TreeShapes.{signed_is}
use Rattle.iv_restate.proofs.parentheses.signed.Goals as goal

pub returns : goal.returns
returns c = signed_is c.args.sign c.in_ok-new.field-0 ∙ ap (signed c.args.sign) c.in_ok-new.ensures
