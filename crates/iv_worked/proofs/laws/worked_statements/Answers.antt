use Rattle.iv_worked.proofs.Computed.{unknown, duplicates, faults, shapes, limits, order, update_of, nulls, names, meanings}
use Rattle.iv_worked.proofs.laws.worked_statements.Goals as goal

pub returns-clause-unknown : goal.returns-clause-unknown
returns-clause-unknown c = unknown

pub returns-clause-duplicates : goal.returns-clause-duplicates
returns-clause-duplicates c = duplicates

pub returns-clause-faults : goal.returns-clause-faults
returns-clause-faults c = faults

pub returns-clause-shapes : goal.returns-clause-shapes
returns-clause-shapes c = shapes

pub returns-clause-limits : goal.returns-clause-limits
returns-clause-limits c = limits

pub returns-clause-order : goal.returns-clause-order
returns-clause-order c = order

pub returns-clause-columns : goal.returns-clause-columns
returns-clause-columns c = update_of

pub returns-clause-nulls : goal.returns-clause-nulls
returns-clause-nulls c = nulls

pub returns-clause-names : goal.returns-clause-names
returns-clause-names c = names

pub returns-clause-meanings : goal.returns-clause-meanings
returns-clause-meanings c = meanings
