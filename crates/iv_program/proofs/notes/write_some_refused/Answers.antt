use Rattle.std.proofs.Common.{◌++◌, codes, decimal}
use Rattle.iv_text.proofs.WriteLemmas.{writes_then}
use Rattle.iv_program.proofs.notes.write_some_refused.Goals as goal

pub returns : goal.returns
returns g c =
    let s0 = g.E.Sink.state c.args.faults.now in
    let s1 = g.E.Sink.state c.write_all.new.sink in
    let s2 = g.E.Sink.state c.write_number.new.sink in
    let s3 = g.E.Sink.state c.write_all-2.new.sink in
    writes_then s0 s1 s3 c.write_all-2.result (codes "sqlkeep: refused statements: ") (decimal c.args.refused ++ codes "\n") c.in_ok-write_all.ensures
    (writes_then s1 s2 s3 c.write_all-2.result (decimal c.args.refused) (codes "\n") c.in_ok-write_number.ensures c.write_all-2.ensures)
