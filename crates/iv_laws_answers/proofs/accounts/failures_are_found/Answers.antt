use Rattle.iv_laws_answers.proofs.FailuresOfStatements.{proposal_failures_are_found, query_failures_are_found, set_failures_are_found, when_failures_are_found}
use Rattle.iv_laws_answers.proofs.accounts.failures_are_found.Goals as goal

pub returns-clause-proposal : goal.returns-clause-proposal
returns-clause-proposal c = proposal_failures_are_found

pub returns-clause-when : goal.returns-clause-when
returns-clause-when c = when_failures_are_found

pub returns-clause-set : goal.returns-clause-set
returns-clause-set c = set_failures_are_found

pub returns-clause-query : goal.returns-clause-query
returns-clause-query c = query_failures_are_found
