use Rattle.std.proofs.Common.{subst, sym}
use Rattle.iv_machine.specs.Context.{Context}
use Rattle.iv_laws_rows.specs.RowFits.{StatementFits}
use Rattle.iv_laws_rows.proofs.FittingFrames.{plain_statements_fit}
use Rattle.iv_exec_level.proofs.level.change.Goals as goal

pub run_level-requires-clause-statement : goal.run_level-requires-clause-statement
run_level-requires-clause-statement g c =
    subst (λ (w : Context). StatementFits w.schema.tables c.none-frame.result c.args.statement.now) (sym c.new-context.ensures)
    (subst (λ frame. StatementFits c.args.catalogue.now.tables frame c.args.statement.now) (sym c.none-frame.ensures)
    (plain_statements_fit c.args.catalogue.now.tables c.args.statement.now c.requires.statement))
