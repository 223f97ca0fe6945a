use Rattle.iv_store_violating.proofs.Shown.{rise}
use Rattle.iv_store_violating.proofs.rows.rows_of.Goals as goal

pub returns-clause-rising : goal.returns-clause-rising
returns-clause-rising c = rise c.rows_at.result c.rows_at.ensures.rising
