use Rattle.std.proofs.Common.{◌∙◌, sym}
use Rattle.iv_dump.proofs.Told.{addition_made}
use Rattle.iv_dump.proofs.parts.push_addition.Goals as goal

pub returns-in-Some : goal.returns-in-Some
returns-in-Some c =
    addition_made c.args.tables.now c.args.scripts.now c.push_statement.new.scripts c.args.constraint.now c.in-Some.statement c.push_statement.result
    (sym c.in_ok-statement.ensures ∙ c.in-Some.is) c.push_statement.ensures
