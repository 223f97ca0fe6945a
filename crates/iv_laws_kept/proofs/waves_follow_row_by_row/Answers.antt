use Rattle.iv_laws_kept.proofs.Followed.{waves_follow_row_by_row}
use Rattle.iv_laws_kept.proofs.waves_follow_row_by_row.Goals as goal

pub returns : goal.returns
returns c = waves_follow_row_by_row
