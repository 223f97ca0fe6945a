use Rattle.std.proofs.Common.{◌++◌, codes, decimal}
use Rattle.iv_text.proofs.WriteLemmas.{writes_then}
use Rattle.iv_program.specs.Notes.{place_note}
use Rattle.iv_program.proofs.notes.write_some_fault.Goals as goal

pub returns : goal.returns
returns g c =
    let s0 = g.E.Sink.state c.args.faults.now in
    let s1 = g.E.Sink.state c.write_all.new.sink in
    let s2 = g.E.Sink.state c.write_number.new.sink in
    let s3 = g.E.Sink.state c.write_all-2.new.sink in
    let s4 = g.E.Sink.state c.write_place.new.faults in
    writes_then s0 s1 s4 c.write_place.result (codes "sqlkeep: statement ") (decimal c.args.fault.number ++ (codes " can't be read: line " ++ place_note c.args.fault.place)) c.in_ok-write_all.ensures
    (writes_then s1 s2 s4 c.write_place.result (decimal c.args.fault.number) (codes " can't be read: line " ++ place_note c.args.fault.place) c.in_ok-write_number.ensures
    (writes_then s2 s3 s4 c.write_place.result (codes " can't be read: line ") (place_note c.args.fault.place) c.in_ok-write_all-2.ensures c.write_place.ensures))
