use Rattle.std.proofs.Common.{◌++◌, codes, decimal}
use Rattle.iv_text.proofs.WriteLemmas.{writes_then}
use Rattle.iv_print.proofs.failure.write_lengths.Goals as goal

pub returns : goal.returns
returns g c =
    let s1 = g.W.Sink.state c.write_between.new.sink in
    let s2 = g.W.Sink.state c.write_number.new.sink in
    let s3 = g.W.Sink.state c.write_all.new.sink in
    writes_then (g.W.Sink.state c.args.sink.now) s1 s3 c.write_all.result (c.args.before.now ++ (decimal c.args.most ++ c.args.between.now)) (decimal c.args.length ++ codes " characters")
    c.in_ok-write_between.ensures
    (writes_then s1 s2 s3 c.write_all.result (decimal c.args.length) (codes " characters") c.in_ok-write_number.ensures c.write_all.ensures)
