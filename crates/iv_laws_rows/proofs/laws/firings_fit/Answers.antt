use Rattle.iv_laws_rows.proofs.FittingFrames.{row_firings_fit, statement_firings_fit, firings_fit}
use Rattle.iv_laws_rows.proofs.laws.firings_fit.Goals as goal

pub returns-clause-row : goal.returns-clause-row
returns-clause-row c = row_firings_fit

pub returns-clause-statement : goal.returns-clause-statement
returns-clause-statement c = statement_firings_fit

pub returns-clause-all : goal.returns-clause-all
returns-clause-all c = firings_fit
