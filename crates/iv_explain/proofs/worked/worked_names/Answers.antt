use Rattle.iv_explain.proofs.ComputedNames.{names}
use Rattle.iv_explain.proofs.worked.worked_names.Goals as goal

pub returns : goal.returns
returns c = names
