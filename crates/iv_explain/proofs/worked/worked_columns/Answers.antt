use Rattle.iv_explain.proofs.ComputedColumns.{columns}
use Rattle.iv_explain.proofs.worked.worked_columns.Goals as goal

pub returns : goal.returns
returns c = columns
