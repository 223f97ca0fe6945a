use Rattle.iv_laws_kept.proofs.FlaggedRows.{flagged_rows_are_kept}
use Rattle.iv_laws_kept.proofs.flagged_rows_are_kept.Goals as goal

pub returns : goal.returns
returns c = flagged_rows_are_kept
