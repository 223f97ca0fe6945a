use Rattle.iv_store_faults.proofs.Shows.{shown_rows_are_present as rows_present}
use Rattle.iv_store_faults.proofs.laws.shown_rows_are_present.Goals as goal

pub returns : goal.returns
returns c = rows_present
