use Rattle.iv_laws_kept.proofs.Moves.{changes_are_followed}
use Rattle.iv_laws_kept.proofs.changes_are_followed.Goals as goal

pub returns : goal.returns
returns c = changes_are_followed
