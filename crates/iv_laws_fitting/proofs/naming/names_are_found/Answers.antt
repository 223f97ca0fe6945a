use Rattle.iv_laws_fitting.proofs.NamesFound.{columns_found, sources, targets, variables_found}
use Rattle.iv_laws_fitting.proofs.naming.names_are_found.Goals as goal

pub returns-clause-targets : goal.returns-clause-targets
returns-clause-targets c = targets

pub returns-clause-variables : goal.returns-clause-variables
returns-clause-variables c = variables_found

pub returns-clause-columns : goal.returns-clause-columns
returns-clause-columns c = columns_found

pub returns-clause-sources : goal.returns-clause-sources
returns-clause-sources c = sources
