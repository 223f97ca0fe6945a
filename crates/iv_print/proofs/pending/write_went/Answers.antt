use Rattle.std.proofs.Common.{codes}
use Rattle.iv_text.proofs.WriteLemmas.{writes_then}
use Rattle.iv_print.proofs.pending.write_went.Goals as goal

pub returns : goal.returns
returns g c =
    let s0 = g.W.Sink.state c.args.sink.now in
    let s1 = g.W.Sink.state c.write_all.new.sink in
    let s2 = g.W.Sink.state c.write_described.new.sink in
    let s3 = g.W.Sink.state c.write_all-2.new.sink in
    let s4 = g.W.Sink.state c.write_row_at.new.sink in
    let s5 = g.W.Sink.state c.write_all-3.new.sink in
    let r = c.write_all-3.result in
    writes_then s0 s1 s5 r (codes "  no longer pending ") _ c.in_ok-write_all.ensures
    (writes_then s1 s2 s5 r _ _ c.in_ok-write_described.ensures
    (writes_then s2 s3 s5 r (codes ": ") _ c.in_ok-write_all-2.ensures
    (writes_then s3 s4 s5 r _ _ c.in_ok-write_row_at.ensures c.write_all-3.ensures)))
