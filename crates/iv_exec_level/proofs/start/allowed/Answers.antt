use Rattle.iv_laws_rows.proofs.FittingProposals.{proposals_fit}
use Rattle.iv_exec_level.proofs.start.allowed.Goals as goal

pub returns-in-Ok-before_statement-clause-fit : goal.returns-in-Ok-before_statement-clause-fit
returns-in-Ok-before_statement-clause-fit g c =
    proposals_fit c.args.context.now (g.K.ReferencingRows.view c.args.store.now).base c.args.frame.now c.args.statement.now c.in-Ok.changes.items
    c.requires.store.suits.tables c.requires.store.rows c.requires.statement c.in-Ok.ensures
