use Rattle.iv_restate.proofs.WrittenTables.{columns_bound, additions_bound}
use Rattle.iv_restate.proofs.CreatedTables.{tables_bound}
use Rattle.iv_restate.proofs.LiteralValues.{literal_value}
use Rattle.iv_restate.proofs.laws.what_is_written_is_itself.Goals as goal

pub returns-clause-columns : goal.returns-clause-columns
returns-clause-columns c = columns_bound

pub returns-clause-tables : goal.returns-clause-tables
returns-clause-tables c = tables_bound

pub returns-clause-additions : goal.returns-clause-additions
returns-clause-additions c = additions_bound

pub returns-clause-literals : goal.returns-clause-literals
returns-clause-literals c = literal_value
