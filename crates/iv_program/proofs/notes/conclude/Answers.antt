use Rattle.iv_program.proofs.notes.conclude.Goals as goal

pub returns-in-Err-clause-stop : goal.returns-in-Err-clause-stop
returns-in-Err-clause-stop g c = rw c.in-Err.is (c.write_stop.result, c.write_stop.ensures)
