use Rattle.iv_exec_level.proofs.Lending.{parts_are_transitions}
use Rattle.iv_exec_level.proofs.lent.recall_transitions.Goals as goal

pub returns : goal.returns
returns c = parts_are_transitions c.args.context.now.schema.tables c.args.trigger.now c.args.transitions.now c.args.changes.now c.requires.parts c.requires.changes
