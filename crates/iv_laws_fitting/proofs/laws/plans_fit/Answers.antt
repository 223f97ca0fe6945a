use Rattle.iv_laws_fitting.proofs.Plans.{changes_fit, queries_fit}
use Rattle.iv_laws_fitting.proofs.Schemas.{tables_fit, additions_fit}
use Rattle.iv_laws_fitting.proofs.Triggers.{triggers_fit}
use Rattle.iv_laws_fitting.proofs.laws.plans_fit.Goals as goal

pub returns-clause-changes : goal.returns-clause-changes
returns-clause-changes c = changes_fit

pub returns-clause-queries : goal.returns-clause-queries
returns-clause-queries c = queries_fit

pub returns-clause-triggers : goal.returns-clause-triggers
returns-clause-triggers c = triggers_fit

pub returns-clause-tables : goal.returns-clause-tables
returns-clause-tables c = tables_fit

pub returns-clause-additions : goal.returns-clause-additions
returns-clause-additions c = additions_fit
