use Rattle.iv_worked.proofs.Worked.{constraints, actions, triggers, statements, keys, transactions, effects, before_triggers, transitions, limits, occasions, nulls, columns, accounts, failures, refusals}
use Rattle.iv_worked.proofs.laws.worked_scripts.Goals as goal

pub returns-clause-constraints : goal.returns-clause-constraints
returns-clause-constraints c = constraints

pub returns-clause-actions : goal.returns-clause-actions
returns-clause-actions c = actions

pub returns-clause-triggers : goal.returns-clause-triggers
returns-clause-triggers c = triggers

pub returns-clause-statements : goal.returns-clause-statements
returns-clause-statements c = statements

pub returns-clause-keys : goal.returns-clause-keys
returns-clause-keys c = keys

pub returns-clause-transactions : goal.returns-clause-transactions
returns-clause-transactions c = transactions

pub returns-clause-effects : goal.returns-clause-effects
returns-clause-effects c = effects

pub returns-clause-before_triggers : goal.returns-clause-before_triggers
returns-clause-before_triggers c = before_triggers

pub returns-clause-transitions : goal.returns-clause-transitions
returns-clause-transitions c = transitions

pub returns-clause-limits : goal.returns-clause-limits
returns-clause-limits c = limits

pub returns-clause-occasions : goal.returns-clause-occasions
returns-clause-occasions c = occasions

pub returns-clause-nulls : goal.returns-clause-nulls
returns-clause-nulls c = nulls

pub returns-clause-columns : goal.returns-clause-columns
returns-clause-columns c = columns

pub returns-clause-accounts : goal.returns-clause-accounts
returns-clause-accounts c = accounts

pub returns-clause-failures : goal.returns-clause-failures
returns-clause-failures c = failures

pub returns-clause-refusals : goal.returns-clause-refusals
returns-clause-refusals c = refusals
