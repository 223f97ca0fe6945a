use Rattle.iv_laws_rows.proofs.FittingFrames.{plain_statements_fit}
use Rattle.iv_laws_rows.proofs.MoreRows.{rows_fit_more_tables}
use Rattle.iv_laws_rows.proofs.laws.statements_fit.Goals as goal

pub returns-clause-plain : goal.returns-clause-plain
returns-clause-plain c = plain_statements_fit

pub returns-clause-more : goal.returns-clause-more
returns-clause-more c = rows_fit_more_tables
