use Rattle.iv_program.proofs.Told.{some_refused}
use Rattle.iv_program.proofs.notes.write_refused.Goals as goal

pub returns : goal.returns
returns g c = rw (some_refused c.args.refused c.if-refused-eq0.false) c.write_some_refused.ensures
