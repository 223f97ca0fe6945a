use Rattle.iv_program.proofs.running.status.Goals as goal

pub returns-in-Err-clause-line : goal.returns-in-Err-clause-line
returns-in-Err-clause-line g c = rw c.in-Err.is (c.write_stop.result, c.write_stop.ensures)
