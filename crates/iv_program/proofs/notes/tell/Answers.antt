use Rattle.iv_program.proofs.Told.{tells_some}
use Rattle.iv_program.proofs.notes.tell.Goals as goal

pub returns-then-not-are_none-clause-told : goal.returns-then-not-are_none-clause-told
returns-then-not-are_none-clause-told g c =
    tells_some c.args.notes (g.E.Sink.state c.args.faults.now) (g.E.Sink.state c.write_notes.new.faults) c.are_none.result c.are_none.ensures c.if-not-are_none.true
    c.write_notes.result c.write_notes.ensures
